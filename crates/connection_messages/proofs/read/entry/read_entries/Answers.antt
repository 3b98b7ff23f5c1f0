use Rattle.std.proofs.Common.{◌∙◌}
use Rattle.connection_messages.proofs.Members.{item_has_numbers, entries_of-more}
use Rattle.connection_messages.proofs.read.entry.read_entries.Goals as goal

pub read_entry-requires : goal.read_entry-requires
read_entry-requires c = item_has_numbers c.args.values.now c.loop-value.value-index c.value-item.result c.requires c.loop-value-test.true c.value-item.is

pub loop-value-preserved : goal.loop-value-preserved
loop-value-preserved c =
    c.in_ok-push.ensures.items
    ∙ entries_of-more c.args.rules c.args.values.now c.loop-value.value-index c.value-item.result c.loop-value.entries.items c.in_ok-read_entry.field-0
    c.loop-value-test.true c.value-item.is c.loop-value.invariant c.in_ok-read_entry.ensures
