use Rattle.std.proofs.Common.{◌≡◌, cond, List, ◌++◌, ap, sym, ◌∙◌, subst, append-nil}
use Rattle.lsp_frames.specs.Contents.{Open, Broken}
use Rattle.lsp_frames.specs.declared.frame.Frame.{Frame}
use Rattle.lsp_frames.specs.declared.frame.FrameFault.TheVariants.{TooLarge}
use Rattle.stream_framing.specs.Lines.{HoldsLines}
use Rattle.stream_framing.specs.Inner.Cutting.{LineCutting}
use Rattle.stream_framing.proofs.Laws.{lines_keep_a_fault}
use Rattle.stream_framing.proofs.line_cutter.LineCutter.feed.Goals as goal

pub returns-then-self-clause-holds : goal.returns-then-self-clause-holds
returns-then-self-clause-holds c = λ bytes frames holds.
    let limit = c.args.self.now.limit in
    let is : c.args.self.now.standing ≡ Broken TooLarge =
    ap (λ (cutter : LineCutting). cutter.standing) (sym c.self.view_is) ∙ ap (λ t. cond t (Broken TooLarge) (Open c.self.inside.line.items)) c.if-self.true in
    let stays = lines_keep_a_fault limit bytes c.args.piece.now frames TooLarge (subst (HoldsLines limit bytes frames) is holds) in
    (ap (λ (xs : List Frame). frames ++ xs) c.new.ensures.items ∙ append-nil frames ∙ stays.0, is ∙ stays.1)
