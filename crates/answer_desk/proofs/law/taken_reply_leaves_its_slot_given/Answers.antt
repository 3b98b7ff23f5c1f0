use Rattle.answer_desk.proofs.Laws.{slot-given, slot-not_taken, number-not_taken, reply-not_given}
use Rattle.answer_desk.proofs.law.taken_reply_leaves_its_slot_given.Goals as goal

pub returns-clause-here : goal.returns-clause-here
returns-clause-here c = slot-given

pub returns-clause-another_turn : goal.returns-clause-another_turn
returns-clause-another_turn c = slot-not_taken

pub returns-clause-another_number : goal.returns-clause-another_number
returns-clause-another_number c = number-not_taken

pub returns-clause-none : goal.returns-clause-none
returns-clause-none c = reply-not_given
