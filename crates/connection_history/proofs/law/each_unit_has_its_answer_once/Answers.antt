use Rattle.connection_history.proofs.Outs.{each_answer}
use Rattle.connection_history.proofs.law.each_unit_has_its_answer_once.Goals as goal

pub returns : goal.returns
returns c = each_answer
