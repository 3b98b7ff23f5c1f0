-- A set of numbers as its contracts see it: the numbers that there is room for, from a first one on, each marked where it is in.
use Rattle.std.specs.Prelude.{ℕ, zero, suc, ◌-◌, ◌<◌, ◌≤◌, ◌+◌, ◌&&◌, nat_le, List, [], ◌∷◌, Bool, true, false, length, set, slice_index_or, if◌then◌else◌}

pub record Marked : Type 0 where
  pub first : ℕ
  pub marks : List Bool

-- whether there is room for the number
abbrev pub HasRoom : Marked → ℕ → Type 0
HasRoom s n = (s.first ≤ n) × (n < s.first + length s.marks)

-- whether the number is in
abbrev pub is_in : Marked → ℕ → Bool
is_in s n = nat_le s.first n && slice_index_or s.marks (n - s.first) false

-- the set after a number was marked as one that is in, or isn't; one that there is no room for is never in
abbrev pub with_mark : Bool → ℕ → Marked → Marked
with_mark mark n s = if nat_le s.first n then record { first = s.first; marks = set s.marks (n - s.first) mark } else s

-- the marked numbers, ascending, where the first mark is that of n
abbrev pub numbers_from : ℕ → List Bool → List ℕ
numbers_from n [] = []
numbers_from n (true ∷ marks) = n ∷ numbers_from (suc n) marks
numbers_from n (false ∷ marks) = numbers_from (suc n) marks

-- the numbers that are in, ascending
abbrev pub numbers : Marked → List ℕ
numbers s = numbers_from s.first s.marks

-- for so many numbers from n on, whether each is in
abbrev pub marks_from : Marked → ℕ → ℕ → List Bool
marks_from s n zero = []
marks_from s n (suc count) = is_in s n ∷ marks_from s (suc n) count
