use Rattle.std.proofs.Common.{◌+◌, ◌∙◌, drop, arith}
use Rattle.conversation_contents.proofs.OwedSteps.{drop_here}
use Rattle.conversation_contents.proofs.Told.{told_one, told_all}
use Rattle.conversation_contents.proofs.due.Due.put_each.Goals as goal

pub loop-owed-preserved : goal.loop-owed-preserved
loop-owed-preserved c =
    told_one c.args.self.now c.loop-owed.told.items c.put_one.new.told.items (drop c.loop-owed.owed-index c.args.entries.now) (drop (c.loop-owed.owed-index + 1) c.args.entries.now) c.owed-item.result
    c.in_ok-put_one.ensures (drop_here c.args.entries.now c.loop-owed.owed-index c.owed-item.result c.loop-owed-test.true c.owed-item.is)
    ∙ c.loop-owed.invariant

pub returns : goal.returns
returns c = told_all c.args.self.now c.loop-owed.told.items c.args.entries.now c.loop-owed.owed-index (omega arith) ∙ c.loop-owed.invariant
