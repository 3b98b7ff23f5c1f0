-- How what is owed is kept.
use Rattle.std.specs.Prelude.{Option, Some, None}
use Rattle.conversation_reading.specs.declared.entry.WrittenId.{WrittenId}
use Rattle.conversation_reading.specs.declared.entry.WrittenId.TheVariants.{Null}
use Rattle.conversation_ids.specs.declared.owed.Expects.{Expects}
use Rattle.conversation_ids.specs.declared.owed.Expects.TheVariants.{ItsOwn, NullId, Nothing}

-- the id that an answer is expected to have
abbrev pub expected_as : Expects → Option WrittenId → Option WrittenId
expected_as ItsOwn own = own
expected_as NullId own = Some Null
expected_as Nothing own = None
