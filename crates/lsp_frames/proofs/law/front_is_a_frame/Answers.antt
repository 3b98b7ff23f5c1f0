use Rattle.lsp_frames.proofs.Laws as laws
use Rattle.lsp_frames.proofs.law.front_is_a_frame.Goals as goal

pub returns : goal.returns
returns c = laws.front_is_a_frame
