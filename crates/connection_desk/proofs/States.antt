-- The states of calls and of owed answers, by their parts.
use Rattle.std.proofs.Common.{ℕ, List}
use Rattle.open_calls.specs.declared.own_call.OwnCall.{OwnCall}
use Rattle.open_calls.specs.declared.their_call.TheirCall.{TheirCall}
use Rattle.open_calls.specs.Own.{OwnState}
use Rattle.open_calls.specs.Theirs.{TheirState}
use Rattle.owed_answers.specs.Owed.{OwedState, OwedUnit}

abbrev pub own_state : ℕ → List (ℕ × OwnCall) → OwnState
own_state made waiting = record { made = made; waiting = waiting }

abbrev pub their_state : ℕ → List (ℕ × TheirCall) → TheirState
their_state came calls = record { came = came; calls = calls }

abbrev pub owed_state : ℕ → List (ℕ × OwedUnit) → OwedState
owed_state places owed = record { places = places; owed = owed }
