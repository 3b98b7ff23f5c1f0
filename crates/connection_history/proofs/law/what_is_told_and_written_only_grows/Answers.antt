use Rattle.connection_history.proofs.Growth.{told_grows, written_grows}
use Rattle.connection_history.proofs.law.what_is_told_and_written_only_grows.Goals as goal

pub returns-clause-told : goal.returns-clause-told
returns-clause-told c = told_grows

pub returns-clause-written : goal.returns-clause-written
returns-clause-written c = written_grows
