-- Numbers as runs. A run stands as its last number and its first, and the runs in their order; between two of them a number is
-- missing.
use Rattle.std.specs.Prelude.{ℕ, ◌+◌, ◌-◌, ◌≤◌, ◌==◌, ◌&&◌, nat_lt, nat_le, List, [], ◌∷◌, Bool, true, false, if◌then◌else◌, ⊤}
use Rattle.std.specs.List.{list_any}

-- they begin at a number or behind it
abbrev pub AreRuns : ℕ → List (ℕ × ℕ) → Type 0
AreRuns from [] = ⊤
AreRuns from (run ∷ runs) = (from ≤ run.1) × (run.1 ≤ run.0) × AreRuns (run.0 + 2) runs

abbrev pub is_in : ℕ → ℕ × ℕ → Bool
is_in n run = nat_le run.1 n && nat_le n run.0

abbrev pub has_number : ℕ → List (ℕ × ℕ) → Bool
has_number n runs = list_any (is_in n) runs

-- a run up to a number is joined with the next one, where that begins right behind it
abbrev pub joined : ℕ → ℕ → List (ℕ × ℕ) → List (ℕ × ℕ)
joined last first [] = (last, first) ∷ []
joined last first (run ∷ runs) = if run.1 == last + 1 then (run.0, first) ∷ runs else (last, first) ∷ (run ∷ runs)

-- with a number that isn't in them: alone before a run, right before it, right behind it, or behind that
abbrev pub with_number : ℕ → List (ℕ × ℕ) → List (ℕ × ℕ)
with_number n [] = (n, n) ∷ []
with_number n (run ∷ runs) =
    if nat_lt (n + 1) run.1 then (n, n) ∷ (run ∷ runs)
    else (if n + 1 == run.1 then (run.0, n) ∷ runs
    else (if n == run.0 + 1 then joined n run.1 runs
    else run ∷ with_number n runs))

abbrev pub as_number : Bool → ℕ
as_number true = 1
as_number false = 0

-- how many of the two numbers beside it are in them: with one of them it lengthens a run, and with both it joins two
abbrev pub neighbours : ℕ → List (ℕ × ℕ) → ℕ
neighbours n runs = as_number (has_number (n - 1) runs) + as_number (has_number (n + 1) runs)
