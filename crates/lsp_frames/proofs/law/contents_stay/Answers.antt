use Rattle.lsp_frames.proofs.Laws as laws
use Rattle.lsp_frames.proofs.law.contents_stay.Goals as goal

pub returns-clause-fault : goal.returns-clause-fault
returns-clause-fault c = laws.contents_keep_a_fault

pub returns-clause-rest : goal.returns-clause-rest
returns-clause-rest c = laws.contents_go_on
