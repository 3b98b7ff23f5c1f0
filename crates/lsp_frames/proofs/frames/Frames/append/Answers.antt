use Rattle.lsp_frames.proofs.Blocks.{none_left}
use Rattle.lsp_frames.proofs.frames.Frames.append.Goals as goal

pub returns-clause-ok : goal.returns-clause-ok
returns-clause-ok c = none_left c.loop-content.other c.in_default.ensures
