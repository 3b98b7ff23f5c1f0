use Rattle.std.proofs.Common.{refl}
use Rattle.connection_history.proofs.Plain.{told-broken, told-plain, written-plain, refusal-plain}
use Rattle.connection_history.proofs.law.broken_input_is_told_once.Goals as goal

pub returns-clause-once : goal.returns-clause-once
returns-clause-once c = told-broken

pub returns-clause-front : goal.returns-clause-front
returns-clause-front c past origin unit = refl

pub returns-clause-told : goal.returns-clause-told
returns-clause-told c = told-plain

pub returns-clause-written : goal.returns-clause-written
returns-clause-written c = written-plain

pub returns-clause-refused : goal.returns-clause-refused
returns-clause-refused c = refusal-plain
