use Rattle.std.proofs.Common.{◌≡◌, ◌-◌, ℕ, List, [], length, ap, ◌∙◌, subst, sym, arith}
use Rattle.std.proofs.lemmas.Grind.{common_steps}
use Rattle.lsp_frames.specs.Heads.{Unended}
use Rattle.lsp_frames.specs.Inner.Partials.{HasNoFrame, IsPartial, IsShort, read_at, read_on}
use Rattle.lsp_frames.specs.declared.partial.Stage.{Stage}
use Rattle.lsp_frames.proofs.Units.{line_goes_on, line_too_long, none_taken}
use Rattle.lsp_frames.proofs.partial.Partial.hold.Goals as goal

pub returns-in_ok-extend_from_slice-in-Head-clause-ok : goal.returns-in_ok-extend_from_slice-in-Head-clause-ok
returns-in_ok-extend_from_slice-in-Head-clause-ok c =
    let P : Stage → Type 0 = λ s. IsShort s c.args.self.now.held.items c.args.bytes.now in
    λ limit. (
      omega (arith, c.if-bytes-place.true),
      tt,
      ap (λ (xs : List ℕ). Unended (record { fields = c.in-Head.place.fields; line = xs; room = c.in-Head.place.room - length c.args.bytes.now })) c.in_ok-extend_from_slice-in-Head.ensures.items
          ∙ line_goes_on limit c.args.self.now.stage c.in-Head.place c.args.self.now.held.items c.args.bytes.now c.in-Head.is (subst P c.in-Head.is c.requires.short) c.if-bytes-place.true,
    )

pub returns-else-bytes-place-clause-ok : goal.returns-else-bytes-place-clause-ok
returns-else-bytes-place-clause-ok c =
    let P : Stage → Type 0 = λ s. IsShort s c.args.self.now.held.items c.args.bytes.now in
    let R : Stage → Type 0 = λ s. IsPartial (record c.args.self.now { stage = s }) in
    λ limit. (
      (let Q : Stage → Type 0 = λ s. IsPartial (record c.new.result { stage = s }) in subst Q (sym c.new.ensures.stage) tt),
      (let Q : Stage → Type 0 = λ s. HasNoFrame (read_at s c.new.result.held.items) in subst Q (sym c.new.ensures.stage) tt),
      ap (λ (s : Stage). read_at s c.new.result.held.items) c.new.ensures.stage
          ∙ line_too_long limit c.args.self.now.stage c.in-Head.place c.args.self.now.held.items c.args.bytes.now c.in-Head.is (subst P c.in-Head.is c.requires.short) c.if-bytes-place.false (subst R c.in-Head.is c.requires.partial),
    )

pub returns-then-is_empty-clause-ok : goal.returns-then-is_empty-clause-ok
returns-then-is_empty-clause-ok c limit =
    let stage = c.args.self.now.stage in
    let held = c.args.self.now.held.items in
    let none : c.args.bytes.now ≡ [] = grind (arith, common_steps) in
    let short : IsShort stage held [] = subst (λ (bs : List ℕ). IsShort stage held bs) none c.requires.short in
    let done = none_taken limit stage held c.requires.partial short in
    (done.0, done.1, done.2 ∙ ap (read_on limit (read_at stage held)) (sym none))
