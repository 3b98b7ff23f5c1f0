use Rattle.answer_desk.proofs.Laws.{number-kept, number-apart, reply-not_kept}
use Rattle.answer_desk.proofs.law.reply_changes_its_own_number.Goals as goal

pub returns-clause-here : goal.returns-clause-here
returns-clause-here c = number-kept

pub returns-clause-another : goal.returns-clause-another
returns-clause-another c = number-apart

pub returns-clause-none : goal.returns-clause-none
returns-clause-none c = reply-not_kept
