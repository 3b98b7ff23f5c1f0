-- What a poll of a future answered.
use Rattle.std.specs.Prelude.{Option, Some, None}
use Rattle.futures.specs.declared.task.Poll.{Poll}
use Rattle.futures.specs.declared.task.Poll.TheVariants.{Ready, Pending}

-- it is ready, with something of which this holds
abbrev pub IsReadyWith : {A : Type 0} → Poll A → (A → Type 0) → Type 0
IsReadyWith (Ready a) P = P a
IsReadyWith Pending P = ⊥

-- what the future is ready with; none is Pending
abbrev pub answered_with : {A : Type 0} → Poll A → Option A
answered_with (Ready a) = Some a
answered_with Pending = None
