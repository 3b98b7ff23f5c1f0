use Rattle.judge_laws.proofs.Ties.{replies_are, calls_are, calls_back}
use Rattle.judge_laws.proofs.tied.entries_are_tied.Goals as goal

pub returns-clause-replies : goal.returns-clause-replies
returns-clause-replies c = replies_are

pub returns-clause-calls : goal.returns-clause-calls
returns-clause-calls c = calls_are

pub returns-clause-back : goal.returns-clause-back
returns-clause-back c = calls_back
