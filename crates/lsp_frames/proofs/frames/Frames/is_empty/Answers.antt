use Rattle.std.proofs.Common.{List, drop, ap, ◌∙◌}
use Rattle.std.specs.List.{slice_get}
use Rattle.std.specs.Option.{is_none}
use Rattle.std.proofs.Common.{eqb}
use Rattle.lsp_frames.specs.declared.frame.Frame.{Frame}
use Rattle.lsp_frames.proofs.Blocks.{first_missing}
use Rattle.lsp_frames.proofs.frames.Frames.is_empty.Goals as goal

pub returns : goal.returns
returns c =
    let inside = c.self.inside in
    c.is_empty.ensures ∙ ap (λ n. eqb n 0) inside.sizes.ok.0
    ∙ first_missing (drop inside.passed inside.bytes.items) inside.sizes.items
    ∙ ap (λ (fs : List Frame). is_none (slice_get fs 0)) c.self.view_is
