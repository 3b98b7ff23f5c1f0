-- Where a register stands among those in the byte order of their names.
use Rattle.std.specs.Prelude.{ℕ, ◌+◌, List, [], ◌∷◌}
use Rattle.std.specs.Cmp.Lexicographic.{slice_cmp}
use Rattle.std.specs.Ordering.{nat_cmp, match_ordering}
use Rattle.method_templates.specs.declared.locals.Place.{Place}
use Rattle.method_templates.specs.declared.locals.Place.TheVariants.{At, Before}
use Rattle.method_templates.specs.declared.locals.Row.{Row}

-- so many rows were passed over
abbrev pub place_from : ℕ → List ℕ → List Row → Place
place_from k name [] = Before k
place_from k name (r ∷ rs) = match_ordering (slice_cmp nat_cmp name r.name) (Before k) (At k) (place_from (k + 1) name rs)

abbrev pub place_in : List ℕ → List Row → Place
place_in name rows = place_from 0 name rows
