-- What the owed answers end as, where a `&mut` to one of their units is returned.
use Rattle.std.specs.Prelude.{ℕ, Option}
use Rattle.std.specs.Borrow.{LendsIf, Fml, MutBor}
use Rattle.number_windows.specs.Numbered.{changed_at}
use Rattle.owed_answers.specs.Owed.{OwedState, OwedUnit}
use Rattle.owed_answers.specs.contracts.owed.Owed.{the_row as unit_row}
use Rattle.owed_answers.specs.contracts.owed_answers.OwedAnswers.{the_row}

-- once the borrow ends, the last unit written through it stands at the place; at `None` all stays as it is
abbrev pub lends_unit : MutBor OwedState → ℕ → Option (MutBor OwedUnit) → Fml
lends_unit owed place unit =
    LendsIf the_row unit_row owed unit (λ w. record owed.now { owed = changed_at place (λ _. w) owed.now.owed }) owed.now
