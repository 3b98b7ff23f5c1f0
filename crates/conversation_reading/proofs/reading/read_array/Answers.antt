use Rattle.std.proofs.Common.{ap, ◌∙◌}
use Rattle.conversation_reading.specs.declared.reading.Reading.TheVariants.{Array}
use Rattle.conversation_reading.proofs.Elements.{over_limits, within_limits}
use Rattle.conversation_reading.proofs.reading.read_array.Goals as goal

pub returns-then-values-gt-MOST_ENTRIES_IN : goal.returns-then-values-gt-MOST_ENTRIES_IN
returns-then-values-gt-MOST_ENTRIES_IN c = over_limits c.args.values.now c.if-values-gt-MOST_ENTRIES_IN.true

pub returns : goal.returns
returns c = ap Array (c.from.ensures ∙ c.in_ok-entries.ensures) ∙ within_limits c.args.values.now c.if-values-gt-MOST_ENTRIES_IN.false
