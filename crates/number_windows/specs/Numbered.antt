-- Lists of entries with a number each, ascending.
use Rattle.std.specs.Prelude.{ℕ, ◌<◌, Bool, ◌==◌, not, nat_lt, nat_le, slice_get, List, [], ◌∷◌, Option, map, filter, if◌then◌else◌}
use Rattle.std.specs.List.{find}
use Rattle.std.specs.Map.{lookup}
use Rattle.std.specs.Option.{option_map}

-- what stands under this number
abbrev pub at : {X : Type 0} → ℕ → List (ℕ × X) → Option X
at number entries = lookup (λ n. number == n) entries

-- the number of the first entry that passes
abbrev pub number_of_first : {X : Type 0} → (ℕ × X → Bool) → List (ℕ × X) → Option ℕ
number_of_first test entries = option_map (λ e. e.0) (find test entries)

-- all but the entry with this number
abbrev pub without : {X : Type 0} → ℕ → List (ℕ × X) → List (ℕ × X)
without number entries = filter (λ e. not (number == e.0)) entries

-- the entries up to this number
abbrev pub up_to : {X : Type 0} → ℕ → List (ℕ × X) → List (ℕ × X)
up_to number entries = filter (λ e. nat_le e.0 number) entries

-- the entry with this number is changed
abbrev pub changed_at : {X : Type 0} → ℕ → (X → X) → List (ℕ × X) → List (ℕ × X)
changed_at number change entries = map (λ e. (e.0, (if number == e.0 then change e.1 else e.1))) entries

-- the least number
abbrev pub first_number : {X : Type 0} → List (ℕ × X) → Option ℕ
first_number entries = option_map (λ e. e.0) (slice_get entries 0)

-- the first entry above this number
abbrev pub first_above : {X : Type 0} → ℕ → List (ℕ × X) → Option (ℕ × X)
first_above after entries = find (λ e. nat_lt after e.0) entries

-- the least number above this one
abbrev pub next_number : {X : Type 0} → ℕ → List (ℕ × X) → Option ℕ
next_number after entries = number_of_first (λ e. nat_lt after e.0) entries

-- ---- order

-- each number is above n
abbrev pub Above : {X : Type 0} → ℕ → List (ℕ × X) → Type 0
Above n [] = Unit {0}
Above n (e ∷ es) = (n < e.0) × Above n es

-- each number is below n
abbrev pub Below : {X : Type 0} → ℕ → List (ℕ × X) → Type 0
Below n [] = Unit {0}
Below n (e ∷ es) = (e.0 < n) × Below n es

abbrev pub Ascending : {X : Type 0} → List (ℕ × X) → Type 0
Ascending [] = Unit {0}
Ascending (e ∷ es) = Above e.0 es × Ascending es
