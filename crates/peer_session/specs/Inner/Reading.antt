-- Which units a session takes alike.
use Rattle.std.specs.Prelude.{◌≡◌, Bool, false, is_some}
use Rattle.rpc_messages.specs.Entry.{SeenEntry, call, reply, stray, invalid}
use Rattle.rpc_messages.specs.Numbering.{unit_numbers}
use Rattle.rpc_messages.specs.Unit.{SeenUnit, unreadable, single, batch}
use Rattle.method_steps.specs.Steps.{MethodTable, place_of}
use Rattle.peer_events.specs.Core.{Core}
use Rattle.peer_events.specs.Taking.{Takes}

-- Whatever the session makes of the first it makes of the second too.
pub record IsTakenAs (table : MethodTable) (u v : SeenUnit) : Type 0 where
  pub numbers : unit_numbers u ≡ unit_numbers v
  pub takes : (s after : Core) → Takes table s u after → Takes table s v after

-- a call of a method that the table has
abbrev pub entry_has_method : MethodTable → SeenEntry → Bool
entry_has_method table (call c) = is_some (place_of c.method table.methods)
entry_has_method table (reply n t r) = false
entry_has_method table stray = false
entry_has_method table invalid = false

-- one that came alone
abbrev pub has_method : MethodTable → SeenUnit → Bool
has_method table unreadable = false
has_method table (single e) = entry_has_method table e
has_method table (batch es) = false
