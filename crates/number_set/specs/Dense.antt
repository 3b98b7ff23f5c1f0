-- Windows over the places of all numbers from 0 on: the numbers before a window are gone.
use Rattle.std.specs.Prelude.{◌≡◌, ◌<◌, ◌+◌, ◌^◌, ◌++◌, ℕ, List, [], ◌∷◌, Bool, true, not, length, replicate, slice_index_or}

-- the place of a number; one that wasn't given is gone
abbrev pub place_at : {P : Type 0} → P → List P → ℕ → P
place_at gone places number = slice_index_or places number gone

-- all places, where the window begins at the number `first`
abbrev pub all_places : {P : Type 0} → P → ℕ → List P → List P
all_places gone first window = replicate first gone ++ window

-- the window begins with a number that isn't gone
abbrev pub begins_here : {P : Type 0} → (P → Bool) → List P → Bool
begins_here is_gone [] = true
begins_here is_gone (place ∷ window) = not (is_gone place)

-- what the window keeps true: the number 0 was given, and no number is as large as 2^32
pub record IsDense {P : Type 0} (is_gone : P → Bool) (first : ℕ) (window : List P) : Type 0 where
  pub few : first + length window < 2 ^ 32
  pub some_given : 0 < first + length window
  pub trimmed : begins_here is_gone window ≡ true
