-- The ids that a side's requests had, as far as there is room for them.
use Rattle.std.specs.Prelude.{ℕ, ◌+◌, ◌-◌, ◌^◌, ◌&&◌, ◌||◌, not, nat_lt, List, [], ◌∷◌, ◌++◌, length, Bool, true, false, Option, Some, None, if◌then◌else◌}
use Rattle.std.specs.BTreeMap.{is_at}
use Rattle.std.specs.BTreeSet.{insert_key}
use Rattle.std.specs.Cmp.Lexicographic.{slice_cmp}
use Rattle.std.specs.List.{list_any}
use Rattle.std.specs.Option.{option_map_or}
use Rattle.std.specs.Ordering.{nat_cmp}
use Rattle.conversation_reading.specs.Wholes.{whole_of}
use Rattle.conversation_reading.specs.declared.entry.WrittenId.{WrittenId}
use Rattle.conversation_reading.specs.declared.entry.WrittenId.TheVariants.{Null, Text, Number}
use Rattle.conversation_reading.specs.declared.whole.Whole.{Whole}
use Rattle.conversation_rules.specs.Amounts.{amount_of, same_amount}
use Rattle.conversation_rules.specs.Runs.{has_number, with_number, neighbours}

-- A run of whole numbers takes one place, and so does each other id.
pub record Used : Type 0 where
  -- so many places
  pub most : ℕ
  -- the whole numbers, as `place_of` has them
  pub runs : List (ℕ × ℕ)
  -- the strings, in order
  pub texts : List (List ℕ)
  -- the numbers that aren't whole, or have a size from 2^64 on, as they are written, the oldest first
  pub odd : List (List ℕ)
  -- whether there was an id without a place: no more are kept then
  pub is_full : Bool

abbrev pub none_used : ℕ → Used
none_used most = record { most = most; runs = []; texts = []; odd = []; is_full = false }

-- whole numbers in their order, as numbers from 1 on
abbrev pub place_of : Whole → ℕ
place_of whole = if whole.minus then 2 ^ 64 - whole.size else 2 ^ 64 + whole.size

-- ---- whether an id was used

abbrev pub has_whole : ℕ → Used → Bool
has_whole n used = has_number n used.runs

abbrev pub has_text : List ℕ → Used → Bool
has_text text used = list_any (is_at (slice_cmp nat_cmp text)) used.texts

abbrev pub has_odd : List ℕ → Used → Bool
has_odd number used = list_any (λ other. same_amount (amount_of number) (amount_of other)) used.odd

abbrev pub is_number_used : List ℕ → Option Whole → Used → Bool
is_number_used number None used = has_odd number used
is_number_used number (Some whole) used = has_whole (place_of whole) used

abbrev pub is_used : WrittenId → Used → Bool
is_used Null used = false
is_used (Text text) used = has_text text used
is_used (Number number) used = is_number_used number (whole_of number) used

-- ---- one more

-- numbers that aren't whole are looked through, so that there are places for few
abbrev pub most_odd : ℕ
most_odd = 1000

-- the places that are taken
abbrev pub room : Used → ℕ
room used = length used.runs + length used.texts + length used.odd

abbrev pub has_place : Used → Bool
has_place used = nat_lt (room used) used.most

abbrev pub full : Used → Used
full used = record used { is_full = true }

abbrev pub use_whole : ℕ → Used → Used
use_whole n used = if nat_lt used.most ((room used + 1) - neighbours n used.runs) then full used else record used { runs = with_number n used.runs }

abbrev pub use_text : List ℕ → Used → Used
use_text text used = if has_place used then record used { texts = insert_key (slice_cmp nat_cmp) used.texts text } else full used

abbrev pub use_odd : List ℕ → Used → Used
use_odd number used = if has_place used && nat_lt (length used.odd) most_odd then record used { odd = used.odd ++ number ∷ [] } else full used

abbrev pub use_number : List ℕ → Option Whole → Used → Used
use_number number None used = use_odd number used
use_number number (Some whole) used = use_whole (place_of whole) used

abbrev pub use_new : WrittenId → Used → Used
use_new Null used = used
use_new (Text text) used = use_text text used
use_new (Number number) used = use_number number (whole_of number) used

-- null is no id that counts
abbrev pub use_id : WrittenId → Used → Used
use_id id used = if used.is_full || is_used id used then used else use_new id used

-- whether it is the first for which there is no place
abbrev pub fills : WrittenId → Used → Bool
fills id used = not used.is_full && (use_id id used).is_full
