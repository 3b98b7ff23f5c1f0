-- The stages of numbers: those that weren't given, and those that are over, are gone.
use Rattle.std.specs.Prelude.{ℕ, List, Bool, true, false, slice_index_or}
use Rattle.peer_events.specs.declared.stage.Stage.{Stage}
use Rattle.peer_events.specs.declared.stage.Stage.TheVariants.{Gone, Faulty, Idle, Out, Over, Failed}

abbrev pub is_gone : Stage → Bool
is_gone Gone = true
is_gone (Faulty error) = false
is_gone (Idle h written) = false
is_gone (Out written) = false
is_gone (Over h written) = false
is_gone Failed = false

-- the stage of a number; a number that wasn't given is gone
abbrev pub stage_at : List Stage → ℕ → Stage
stage_at stages n = slice_index_or stages n Gone
