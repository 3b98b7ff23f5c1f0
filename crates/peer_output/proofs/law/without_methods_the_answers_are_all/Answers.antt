use Rattle.peer_output.proofs.Plain.{plain-output, plain-parts}
use Rattle.peer_output.proofs.law.without_methods_the_answers_are_all.Goals as goal

pub returns-clause-output : goal.returns-clause-output
returns-clause-output c = plain-output

pub returns-clause-parts : goal.returns-clause-parts
returns-clause-parts c = plain-parts
