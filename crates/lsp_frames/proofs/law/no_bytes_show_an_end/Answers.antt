use Rattle.lsp_frames.proofs.Laws as laws
use Rattle.lsp_frames.proofs.law.no_bytes_show_an_end.Goals as goal

pub returns : goal.returns
returns c = laws.no_bytes_show_an_end
