use Rattle.lsp_frames.proofs.Laws as laws
use Rattle.lsp_frames.proofs.law.contents_are_a_function_of_the_bytes.Goals as goal

pub returns-clause-exist : goal.returns-clause-exist
returns-clause-exist c = laws.contents_exist

pub returns-clause-unique : goal.returns-clause-unique
returns-clause-unique c = laws.contents_are_unique
