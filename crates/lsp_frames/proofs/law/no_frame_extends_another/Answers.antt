use Rattle.lsp_frames.proofs.Laws as laws
use Rattle.lsp_frames.proofs.law.no_frame_extends_another.Goals as goal

pub returns : goal.returns
returns c = laws.no_frame_extends_another
