use Rattle.std.proofs.Common.{ap, sym, ◌∙◌}
use Rattle.conversation_rules.specs.Dues.{cancelled}
use Rattle.conversation_contents.proofs.OwedSteps.{mapped_one}
use Rattle.conversation_contents.proofs.content_entries.cancel_each.Goals as goal

pub loop-owed-preserved : goal.loop-owed-preserved
loop-owed-preserved c =
    mapped_one (cancelled c.args.settles c.args.id.now) c.args.entries.now c.loop-owed.entries c.loop-owed.owed-index c.owed-item.result c.cancel.new.self
    c.loop-owed-test.true c.loop-owed.invariant c.owed-item.is (c.cancel.ensures ∙ ap (cancelled c.args.settles c.args.id.now) (sym c.owed-item.is))
