use Rattle.answer_desk.proofs.Laws.{slot-kept, slot-other}
use Rattle.answer_desk.proofs.law.reply_fills_its_own_slot.Goals as goal

pub returns-clause-here : goal.returns-clause-here
returns-clause-here c = slot-kept

pub returns-clause-another : goal.returns-clause-another
returns-clause-another c = slot-other
