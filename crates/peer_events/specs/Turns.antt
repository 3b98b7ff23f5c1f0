-- How often handlers can be turned yet.
use Rattle.std.specs.Prelude.{ℕ, ◌+◌, ◌-◌, List, length, sum_by}
use Rattle.peer_events.specs.declared.stage.Stage.{Stage}
use Rattle.peer_events.specs.declared.stage.Stage.TheVariants.{Gone, Faulty, Idle, Out, Over, Failed}

-- Each turn but the last sends a message, and a step sends at most one.
abbrev pub turns_left : Stage → ℕ
turns_left Gone = 0
turns_left (Faulty error) = 0
turns_left (Idle h so_far) = 1 + (length h.program.steps - length h.messages)
turns_left (Out so_far) = 0
turns_left (Over h so_far) = 0
turns_left Failed = 0

abbrev pub all_turns_left : List Stage → ℕ
all_turns_left stages = sum_by turns_left stages
