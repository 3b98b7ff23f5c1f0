use Rattle.peer_events.proofs.Ends.{here-ends, here-uncancelled, no-fault}
use Rattle.peer_events.proofs.taking.cancels_finish_the_handlers_that_are_here.Goals as goal

pub returns-clause-none : goal.returns-clause-none
returns-clause-none c = λ table is_over s past jobs n handler so_far rest was. here-uncancelled table is_over s past jobs rest n handler so_far was

pub returns-clause-no_fault : goal.returns-clause-no_fault
returns-clause-no_fault c = λ table is_over s past jobs n error rest. no-fault table is_over s past jobs rest n error

pub returns-clause-all : goal.returns-clause-all
returns-clause-all c = λ table s after past later jobs n handler so_far passes rest was reached.
    here-ends table s after past later jobs n handler so_far rest was reached passes
