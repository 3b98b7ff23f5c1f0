use Rattle.lsp_frames.proofs.GreaterLimits.{contents_stay}
use Rattle.lsp_frames.proofs.law.a_greater_limit_reads_the_same.Goals as goal

pub returns : goal.returns
returns c = contents_stay
