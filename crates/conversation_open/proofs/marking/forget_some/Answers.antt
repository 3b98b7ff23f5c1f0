use Rattle.std.proofs.Common.{ap, sym}
use Rattle.conversation_ids.specs.OwedMarks.{is_mark}
use Rattle.conversation_open.proofs.Noting.{forgotten, without_none}
use Rattle.conversation_open.proofs.marking.forget_some.Goals as goal

pub returns-in-Some : goal.returns-in-Some
returns-in-Some c = forgotten c.remove.new.self c.args.marks.now c.in-Some.mark c.args.number (is_mark c.args.mark) c.remove.ensures (λ m. ap (λ own. is_mark own m) (sym c.in-Some.is))

pub returns-in_default : goal.returns-in_default
returns-in_default c = without_none c.args.marks.now c.args.number (is_mark c.args.mark) (λ m. ap (λ own. is_mark own m) c.in_default.is)
