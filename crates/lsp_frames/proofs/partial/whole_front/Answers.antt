use Rattle.std.proofs.Common.{◌≡◌, ℕ, ◌-◌, [], take, drop, ap, refl, ◌∙◌, arith}
use Rattle.lsp_frames.proofs.Units.{content_completes}
use Rattle.lsp_frames.proofs.partial.whole_front.Goals as goal

pub returns-else-bytes-size-clause-some : goal.returns-else-bytes-size-clause-some
returns-else-bytes-size-clause-some c =
    let all : c.in-Content.size ≡ c.in-Content.size - 0 = omega arith in
    let next = content_completes c.args.limit c.args.stage c.in-Content.size c.in-Content.field-1 [] c.args.bytes.now c.split_at.result.0.now c.split_at.result.0.now c.split_at.result.1.now 0
    c.in-Content.is c.requires refl (omega (arith, c.if-bytes-size.false)) (c.split_at.ensures.front ∙ ap (λ (n : ℕ). take n c.args.bytes.now) all) (c.split_at.ensures.back ∙ ap (λ (n : ℕ). drop n c.args.bytes.now) all) refl in
    (omega arith, next.0, next.1)
