-- The open requests that are kept for cancels, and those that a cancel reaches.
use Rattle.std.specs.Prelude.{◌≡◌, ◌≤◌, ◌<◌, ◌++◌, ◌&&◌, nat_lt, ℕ, List, true, false, length, map, take, drop, MatchOption, Option}
use Rattle.message_ids.specs.declared.id.Id.{Id}
use Rattle.open_numbers.specs.declared.kept.Kept.{Kept}
use Rattle.open_numbers.specs.declared.requests_by_id.RequestsById.{RequestsById}
use Rattle.open_numbers.specs.Kept.{kept_at, with_mark}
use Rattle.open_numbers.specs.Requests.{is_reached_by, is_listed}

abbrev pub with_marks_below : Id → ℕ → List (Option Kept) → List (Option Kept)
with_marks_below id before numbers = map (with_mark id) (take before numbers) ++ drop before numbers

-- what is kept for cancels: by its id each open request before the number `recent` that no cancel has reached, and no other
pub record IsIndexed (numbers : List (Option Kept)) (earlier : RequestsById) (recent : ℕ) : Type 0 where
  pub listed : (id : Id) (k : ℕ) → is_listed earlier id k ≡ (nat_lt k recent && is_reached_by id (kept_at numbers k))
  pub given : recent ≤ length numbers

-- no request of this id below `before` is in reach
abbrev pub NoneReachedBelow : Id → ℕ → List (Option Kept) → Type 0
NoneReachedBelow id before numbers = (k : ℕ) → k < before → is_reached_by id (kept_at numbers k) ≡ false

-- the lowest that is
abbrev pub IsLowestReached : Id → ℕ → List (Option Kept) → Option ℕ → Type 0
IsLowestReached id before numbers result =
    MatchOption result (NoneReachedBelow id before numbers)
    (λ n. (n < before) × (is_reached_by id (kept_at numbers n) ≡ true) × NoneReachedBelow id n numbers)

-- the lowest request of this id that is in reach, of all numbers
abbrev pub IsFirstReached : Id → List (Option Kept) → Option ℕ → Type 0
IsFirstReached id numbers result =
    MatchOption result ((k : ℕ) → is_reached_by id (kept_at numbers k) ≡ false)
    (λ n. (is_reached_by id (kept_at numbers n) ≡ true) × NoneReachedBelow id n numbers)

-- the same, of those from a number on
abbrev pub IsFirstReachedFrom : ℕ → Id → List (Option Kept) → Option ℕ → Type 0
IsFirstReachedFrom low id numbers result =
    MatchOption result ((k : ℕ) → low ≤ k → is_reached_by id (kept_at numbers k) ≡ false)
    (λ n. (low ≤ n) × (is_reached_by id (kept_at numbers n) ≡ true) × ((k : ℕ) → low ≤ k → k < n → is_reached_by id (kept_at numbers k) ≡ false))
