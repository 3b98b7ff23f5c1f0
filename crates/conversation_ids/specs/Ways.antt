-- In which way an entry fits an answer.
use Rattle.std.specs.Prelude.{Bool}
use Rattle.conversation_reading.specs.declared.entry.WrittenId.{WrittenId}
use Rattle.conversation_rules.specs.Matching.{is_due_for, is_request_for, is_null_request, is_null_other, is_unnamed}
use Rattle.conversation_rules.specs.Owed.{Owed, is_expected, may_have}
use Rattle.conversation_ids.specs.declared.ways.Way.{Way}
use Rattle.conversation_ids.specs.declared.ways.Way.TheVariants.{Must, Asks, Expects, MayHave, AsksWithNull, ExpectsNull, Unnamed, MayBeNull}

abbrev pub fits : Way → WrittenId → Owed → Bool
fits Must id = is_due_for id
fits Asks id = is_request_for id
fits Expects id = is_expected id
fits MayHave id = may_have id
fits AsksWithNull id = is_null_request
fits ExpectsNull id = is_null_other
fits Unnamed id = is_unnamed
fits MayBeNull id = λ owed. owed.may_be_null
