use Rattle.peer_output.proofs.Streams.{work-stays, reply-stays, cancelled-stays}
use Rattle.peer_output.proofs.certain.more_entries_change_nothing_that_came.Goals as goal

pub returns-clause-work : goal.returns-clause-work
returns-clause-work c = work-stays

pub returns-clause-reply : goal.returns-clause-reply
returns-clause-reply c = reply-stays

pub returns-clause-cancel : goal.returns-clause-cancel
returns-clause-cancel c = cancelled-stays
