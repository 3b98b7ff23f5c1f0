use Rattle.std.proofs.Common.{List, drop, length, ap, ◌∙◌}
use Rattle.lsp_frames.specs.declared.frame.Frame.{Frame}
use Rattle.lsp_frames.proofs.Blocks.{as_many}
use Rattle.lsp_frames.proofs.frames.Frames.len.Goals as goal

pub returns : goal.returns
returns c =
    let inside = c.self.inside in
    c.len.ensures ∙ inside.sizes.ok.0 ∙ as_many (drop inside.passed inside.bytes.items) inside.sizes.items
    ∙ ap (λ (fs : List Frame). length fs) c.self.view_is
