-- Results that go on where they are Ok.
use Rattle.std.specs.Prelude.{Result, Ok, Err}

abbrev pub and_then : {A B E : Type 0} → Result A E → (A → Result B E) → Result B E
and_then (Ok a) f = f a
and_then (Err e) f = Err e
