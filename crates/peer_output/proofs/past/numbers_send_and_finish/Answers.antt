use Rattle.peer_output.proofs.Pasts.{sends-past, course-past}
use Rattle.peer_output.proofs.past.numbers_send_and_finish.Goals as goal

pub returns-clause-sends : goal.returns-clause-sends
returns-clause-sends c = λ table is_over past n sends h known open_yet. sends-past table is_over past h n known open_yet sends

pub returns-clause-finished : goal.returns-clause-finished
returns-clause-finished c = λ table is_over past n course h known open_yet. course-past table is_over past h n known open_yet course
