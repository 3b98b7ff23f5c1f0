use Rattle.std.proofs.Common.{◌∙◌}
use Rattle.conversation_reading.proofs.Elements.{entries_of-more}
use Rattle.conversation_reading.proofs.read.read_entries.Goals as goal

pub loop-value-preserved : goal.loop-value-preserved
loop-value-preserved c =
    c.in_ok-push.ensures.items
    ∙ entries_of-more c.args.values.now c.loop-value.value-index c.value-item.result c.loop-value.entries.items c.in_ok-read_entry.field-0
    c.loop-value-test.true c.value-item.is c.loop-value.invariant c.in_ok-read_entry.ensures
