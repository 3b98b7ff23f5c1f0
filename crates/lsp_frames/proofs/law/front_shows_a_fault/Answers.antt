use Rattle.lsp_frames.proofs.Laws as laws
use Rattle.lsp_frames.proofs.law.front_shows_a_fault.Goals as goal

pub returns : goal.returns
returns c = laws.front_shows_a_fault
