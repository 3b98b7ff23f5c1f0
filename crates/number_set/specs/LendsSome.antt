-- What an option ends as, where a `&mut` to its value is returned.
use Rattle.std.specs.Prelude.{Option, Some}
use Rattle.std.specs.Borrow.{Lends, Fml, RattleType, MutBor}
use Rattle.std.specs.contracts.option.Option.{the_row}

abbrev pub lends_some : (T : RattleType) → MutBor (Option T.Denot) → MutBor T.Denot → Fml
lends_some T place value = Lends (the_row T) T place value Some
