-- The run that begins right behind a number, as a map from last to first numbers finds it.
use Rattle.std.specs.Prelude.{ℕ, ◌+◌, ◌-◌, ◌==◌, List, [], ◌∷◌, Option, Some, None, if◌then◌else◌}
use Rattle.std.specs.BTreeMap.{insert_entry, is_at}
use Rattle.std.specs.BTreeMap.Range.{entries_between}
use Rattle.std.specs.declared.ops.Bound.TheVariants.{Included, Unbounded}
use Rattle.std.specs.Map.{remove_entry}
use Rattle.std.specs.Option.{unwrap_or}
use Rattle.std.specs.Ordering.{nat_cmp}

-- the runs whose last number is this one or behind it
abbrev pub runs_from : ℕ → List (ℕ × ℕ) → List (ℕ × ℕ)
runs_from n runs = entries_between nat_cmp (Included n) Unbounded runs

abbrev pub next_among : ℕ → List (ℕ × ℕ) → Option ℕ
next_among n [] = None
next_among n (run ∷ runs) = if run.1 == n + 1 then Some run.0 else None

-- its last number
abbrev pub next_run : ℕ → List (ℕ × ℕ) → Option ℕ
next_run n runs = next_among n (runs_from n runs)

-- without the run that ends at a number, where there is one
abbrev pub cut : ℕ → Option ℕ → List (ℕ × ℕ) → List (ℕ × ℕ)
cut last None runs = runs
cut last (Some first) runs = remove_entry (is_at (nat_cmp last)) runs

-- with a number, by the first number of the run that ends right before it, and the last of the one that begins right behind it
abbrev pub put : ℕ → Option ℕ → Option ℕ → List (ℕ × ℕ) → List (ℕ × ℕ)
put n before next runs = cut (n - 1) before (insert_entry nat_cmp runs (unwrap_or next n) (unwrap_or before n))
