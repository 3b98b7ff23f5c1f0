-- What an entry says by the first of each of its members (RFC 8259, section 4).
use Rattle.std.specs.Prelude.{ℕ, List, Option}
use Rattle.conversation_reading.specs.declared.entry.WrittenId.{WrittenId}

pub record First : Type 0 where
  pub id : Option WrittenId
  -- where it is a string
  pub method : Option (List ℕ)
  -- the id that it cancels
  pub target : Option WrittenId
