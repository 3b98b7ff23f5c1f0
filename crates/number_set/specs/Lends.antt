-- What a window ends as, where a `&mut` to what stands for one of its numbers is returned.
use Rattle.std.specs.Prelude.{ℕ, List, Option, Some, slice_set}
use Rattle.std.specs.Borrow.{LendsIf, Lends, Fml, RattleType, MutBor}
use Rattle.std.specs.contracts.option.Option.{the_row as option_row}
use Rattle.number_set.specs.declared.place.Place.{Ghosts}
use Rattle.number_set.specs.contracts.dense_window.DenseWindow.{the_row}

module _ (T : RattleType) (option : Ghosts (Option T.Denot)) (window : MutBor (List (Option T.Denot))) (number : ℕ) where
  -- once the borrow ends, the last value written through it stands for the number
  abbrev pub lends_value : MutBor T.Denot → Fml
  lends_value value = Lends (the_row (option_row T) option) T window value (λ w. slice_set window.now number (Some w))

  -- the same where it is a reference, and at `None` the window stays as it is
  abbrev pub lends_get : Option (MutBor T.Denot) → Fml
  lends_get value = LendsIf (the_row (option_row T) option) T window value (λ w. slice_set window.now number (Some w)) window.now
