use Rattle.std.proofs.Common.{ap, ◌∙◌}
use Rattle.lsp_frames.specs.Decoding.{Decoding, end_known}
use Rattle.lsp_frames.proofs.Standings.{end_of_contents}
use Rattle.lsp_frames.proofs.decoder.Decoder.end.Goals as goal

pub returns-clause-contents : goal.returns-clause-contents
returns-clause-contents c = λ bytes frames left h k. c.end.ensures ∙ ap (λ (d : Decoding). end_known d.standing) c.self.view_is ∙ end_of_contents c.args.self.now bytes frames left h k
