-- Of which batches an array of answers is the answer, by their ids.
use Rattle.std.specs.Prelude.{List, Option, Bool, count_by}
use Rattle.std.specs.Option.{is_none}
use Rattle.conversation_dues.specs.declared.batches.Answer.{Answer}
use Rattle.conversation_dues.specs.declared.batches.Answer.TheVariants.{JustDue, Just, Possible}
use Rattle.conversation_reading.specs.declared.entry.WrittenId.{WrittenId}
use Rattle.conversation_rules.specs.Dues.{ids_read}
use Rattle.conversation_rules.specs.Matching.{is_just_due, is_just, can_be_answered}
use Rattle.conversation_rules.specs.Owed.{Due}

abbrev pub is_answered : Answer → List (Option WrittenId) → Due → Bool
is_answered JustDue ids due = is_just_due (ids_read ids) due
is_answered Just ids due = is_just (ids_read ids) due
is_answered Possible ids due = can_be_answered (ids_read ids) (count_by is_none ids) due
