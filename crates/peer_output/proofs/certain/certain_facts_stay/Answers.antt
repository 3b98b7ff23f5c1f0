use Rattle.peer_output.proofs.Numbers.{under_way-longer, finished-longer}
use Rattle.peer_output.proofs.Streams.{heard-longer}
use Rattle.peer_output.proofs.certain.certain_facts_stay.Goals as goal

pub returns-clause-under_way : goal.returns-clause-under_way
returns-clause-under_way c = under_way-longer

pub returns-clause-finished : goal.returns-clause-finished
returns-clause-finished c = finished-longer

pub returns-clause-heard : goal.returns-clause-heard
returns-clause-heard c = heard-longer
