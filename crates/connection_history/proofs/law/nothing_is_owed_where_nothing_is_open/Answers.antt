use Rattle.connection_history.proofs.Owed.{nothing_owed, no_unit_open}
use Rattle.connection_history.proofs.law.nothing_is_owed_where_nothing_is_open.Goals as goal

pub returns-clause-out : goal.returns-clause-out
returns-clause-out c = nothing_owed

pub returns-clause-none_open : goal.returns-clause-none_open
returns-clause-none_open c = no_unit_open
