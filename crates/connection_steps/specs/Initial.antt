-- What stands open at first.
use Rattle.std.specs.Prelude.{[], false}
use Rattle.connection_steps.specs.States.{State}

abbrev pub initial : State
initial = record { own = record { made = 0; waiting = [] }; theirs = record { came = 0; calls = [] }; owed = record { places = 0; owed = [] }; is_over = false }
