use Rattle.std.proofs.Common.{◌≡◌, ◌-◌, List, ℕ, drop, take, length, false, ap, sym, ◌∙◌, arith}
use Rattle.std.proofs.lemmas.List.{take_rest}
use Rattle.lsp_frames.specs.Frames.{Whole, content_front, front, front_of}
use Rattle.lsp_frames.proofs.Fronts.{frame_of, content_whole}
use Rattle.lsp_frames.proofs.partial.usual_frame.Goals as goal

pub returns-clause-frame : goal.returns-clause-frame
unfolding front
returns-clause-frame c =
    let bytes = c.args.bytes.now in
    let size = c.in_ok-size.size in
    let at = c.in_ok-size.at in
    let rest = take (length bytes - at) (drop at bytes) in
    let is : rest ≡ drop at bytes = take_rest bytes at in
    ap front_of c.in_ok-size.ensures.head
    ∙ ap (content_front size false) (sym is)
    ∙ content_whole size false rest (omega (arith, c.if-rest-size.false))
    ∙ ap (λ (xs : List ℕ). Whole (frame_of xs false) (drop size rest)) (sym c.split_at.ensures.front)
    ∙ ap (Whole (frame_of c.split_at.result.0.now false)) (sym c.split_at.ensures.back)
