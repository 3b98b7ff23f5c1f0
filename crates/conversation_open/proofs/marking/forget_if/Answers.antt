use Rattle.std.proofs.Common.{◌==◌, ◌&&◌, ap, sym}
use Rattle.conversation_open.proofs.Noting.{forgotten, without_none}
use Rattle.conversation_open.proofs.marking.forget_if.Goals as goal

pub returns-then-holds : goal.returns-then-holds
returns-then-holds c = forgotten c.remove.new.self c.args.marks.now c.args.mark c.args.number (λ m. c.args.holds && c.args.mark == m) c.remove.ensures (λ m. ap (λ h. h && (c.args.mark == m)) (sym c.if-holds.true))

pub returns-else-holds : goal.returns-else-holds
returns-else-holds c = without_none c.args.marks.now c.args.number (λ m. c.args.holds && c.args.mark == m) (λ m. ap (λ h. h && (c.args.mark == m)) c.if-holds.false)
