-- A line as it is read, as the definitions have it.
use Rattle.content_streams.specs.declared.ending.HowEnded.TheVariants as how
use Rattle.conversation_rules.specs.Judging.{Seen, Wrote, Closed, Failed}
use Rattle.recorded_talks.specs.declared.entry.Entry.{Entry}
use Rattle.recorded_talks.specs.declared.entry.Entry.TheVariants as entry

abbrev pub seen_as : Entry → Seen
seen_as (entry.Wrote side bytes) = Wrote side bytes.items
seen_as (entry.Ended side how.Closed) = Closed side
seen_as (entry.Ended side how.ReadFailed) = Failed side
