-- What the indexes hold.
use Rattle.std.specs.Prelude.{ℕ, suc, ◌≡◌, ◌+◌, ◌<◌, ◌≤◌, ◌==◌, ◌||◌, Bool, true, false, List, Option, Some, None, MatchOption}
use Rattle.std.specs.Ordering.{nat_cmp, ordering_then}
use Rattle.std.specs.Option.{option_map_or}
use Rattle.std.specs.declared.cmp.Ordering.{Ordering}
use Rattle.std.specs.BTreeMap as tree
use Rattle.std.specs.BTreeSet as sorted
use Rattle.message_ids.specs.declared.id.Id.{Id}
use Rattle.message_ids.specs.declared.id.Id.TheVariants.{Null, Text, Signed, Unsigned}
use Rattle.message_ids.specs.Ids.{id_cmp}
use Rattle.open_calls.specs.declared.own_call.OwnCall.{OwnCall}
use Rattle.open_calls.specs.declared.their_call.TheirCall.{TheirCall}
use Rattle.open_calls.specs.declared.keys_by_caller.KeysByCaller.{KeysByCaller}
use Rattle.open_calls.specs.declared.numbers.Numbers.{Numbers}
use Rattle.open_calls.specs.declared.numbers.Numbers.TheVariants.{One, Several}
use Rattle.open_calls.specs.declared.numbers_by_id.NumbersById.{NumbersById}
use Rattle.open_calls.specs.declared.other_numbers.OtherNumbers.{OtherNumbers}
use Rattle.number_windows.specs.declared.number_window.NumberWindow.{NumberWindow}
use Rattle.number_windows.specs.Windows.{IsWindow, window_entries}
use Rattle.number_windows.specs.Numbered.{at, up_to, Above, Below}
use Rattle.open_calls.specs.Theirs.{is_reached}

abbrev pub pair_cmp : ℕ × ℕ → ℕ × ℕ → Ordering
pair_cmp a b = ordering_then (nat_cmp a.0 b.0) (nat_cmp a.1 b.1)

-- whether this key stands there under this caller
abbrev pub has_key : KeysByCaller → ℕ → ℕ → Bool
has_key index caller key = sorted.contains pair_cmp index.pairs (caller, key)

-- whether this number is among those of an id
abbrev pub has_number : Numbers → ℕ → Bool
has_number (One first) number = first == number
has_number (Several numbers) number = sorted.contains nat_cmp numbers.value number

abbrev pub is_in : ℕ → Option Numbers → Bool
is_in number None = false
is_in number (Some numbers) = has_number numbers number

-- whether the number of an id is this one
abbrev pub points : Option ℕ → ℕ → Bool
points None number = false
points (Some own) number = own == number

-- whether this number stands there under this id: in the window, in the tree, or anywhere
abbrev pub is_ascending : List (ℕ × ℕ) → Id → ℕ → Bool
is_ascending ids (Unsigned id) number = points (at id ids) number
is_ascending ids Null number = false
is_ascending ids (Text id) number = false
is_ascending ids (Signed id) number = false

abbrev pub is_other : OtherNumbers → Id → ℕ → Bool
is_other index id number = is_in number (tree.get id_cmp index.numbers id)

abbrev pub is_listed : NumbersById → Id → ℕ → Bool
is_listed index id number = is_ascending index.ascending id number || is_other index.others id number

-- the index has the entries that pass
abbrev pub passes : {X : Type 0} → (X → Bool) → Option X → Bool
passes test entry = option_map_or test entry false

-- the first number of which this is so, of all and of those above one
abbrev pub IsFirst : (ℕ → Bool) → Option ℕ → Type 0
IsFirst is number = MatchOption number ((k : ℕ) → is k ≡ false) (λ n. (is n ≡ true) × ((k : ℕ) → k < n → is k ≡ false))

abbrev pub IsNext : (ℕ → Bool) → ℕ → Option ℕ → Type 0
IsNext is after number =
    MatchOption number
    ((k : ℕ) → after < k → is k ≡ false)
    (λ n. (after < n) × (is n ≡ true) × ((k : ℕ) → after < k → k < n → is k ≡ false))

abbrev pub IsNumberIndex : NumbersById → List (ℕ × TheirCall) → Type 0
IsNumberIndex index calls = (id : Id) (number : ℕ) → is_listed index id number ≡ passes (is_reached id) (at number calls)

abbrev pub is_of : ℕ → OwnCall → Bool
is_of caller call = call.caller == caller

abbrev pub IsKeyIndex : KeysByCaller → List (ℕ × OwnCall) → Type 0
IsKeyIndex index waiting = (caller key : ℕ) → has_key index caller key ≡ passes (is_of caller) (at key waiting)

-- the index has the calls up to a key, behind which few were made
pub record IsOwn (made : ℕ) (waiting : NumberWindow OwnCall) (indexed : ℕ) (index : KeysByCaller) : Type 0 where
  pub window : IsWindow waiting
  pub positive : Above 0 (window_entries waiting)
  pub numbered : Below (suc made) (window_entries waiting)
  pub within : indexed ≤ made
  pub few : made ≤ indexed + 4
  pub by_caller : IsKeyIndex index (up_to indexed (window_entries waiting))

-- the index has the calls up to a number, behind which few came
pub record IsTheirs (came : ℕ) (calls : NumberWindow TheirCall) (indexed : ℕ) (index : NumbersById) : Type 0 where
  pub window : IsWindow calls
  pub numbered : Below (suc came) (window_entries calls)
  pub within : indexed ≤ came
  pub few : came ≤ indexed + 128
  pub by_id : IsNumberIndex index (up_to indexed (window_entries calls))
