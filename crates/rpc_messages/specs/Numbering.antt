-- Which numbers calls get, and which units are taken.
use Rattle.std.specs.Prelude.{ℕ, ◌+◌, ◌-◌, List, [], ◌∷◌, Bool, true, false, nat_le, if◌then◌else◌}
use Rattle.rpc_messages.specs.Entry.{SeenEntry, call, reply, stray, invalid}
use Rattle.rpc_messages.specs.Unit.{SeenUnit, unreadable, single, batch}

-- the entries of a unit, in their order
abbrev pub entries_in : SeenUnit → List SeenEntry
entries_in unreadable = []
entries_in (single e) = e ∷ []
entries_in (batch es) = es

-- Each call, a request or a notification, takes the next number, from 1 on; no other entry takes one.
abbrev pub numbers_of : SeenEntry → ℕ
numbers_of (call c) = 1
numbers_of (reply n t r) = 0
numbers_of stray = 0
numbers_of invalid = 0

-- how many numbers entries take
abbrev pub numbers_in : List SeenEntry → ℕ
numbers_in [] = 0
numbers_in (e ∷ es) = numbers_of e + numbers_in es

-- how many numbers a unit takes, and units
abbrev pub unit_numbers : SeenUnit → ℕ
unit_numbers u = numbers_in (entries_in u)

abbrev pub units_numbers : List SeenUnit → ℕ
units_numbers [] = 0
units_numbers (u ∷ us) = unit_numbers u + units_numbers us

-- The units that are taken where so many numbers are left: those before the first that needs more.
abbrev pub taken : ℕ → List SeenUnit → List SeenUnit
taken room [] = []
taken room (u ∷ us) = if nat_le (unit_numbers u) room then u ∷ taken (room - unit_numbers u) us else []

-- whether there is such a unit
abbrev pub is_cut : ℕ → List SeenUnit → Bool
is_cut room [] = false
is_cut room (u ∷ us) = if nat_le (unit_numbers u) room then is_cut (room - unit_numbers u) us else true
