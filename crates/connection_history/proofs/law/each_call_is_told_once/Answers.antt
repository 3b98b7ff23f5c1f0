use Rattle.connection_history.proofs.CallsTold.{each_call_told}
use Rattle.connection_history.proofs.law.each_call_is_told_once.Goals as goal

pub returns : goal.returns
returns c = each_call_told
