-- Jobs go out and come back; the input ends; what is due is written.
use Rattle.std.specs.Prelude.{◌≡◌, ℕ, ◌+◌, List, [], ◌∷◌, ◌++◌, length, map, max, flat_map, slice_set, Bool, true, false, Option, Some, None, if◌then◌else◌}
use Rattle.lsp_frames.specs.Frames.{written}
use Rattle.method_templates.specs.Steps.{Step, calls_of}
use Rattle.method_steps.specs.Steps.{MethodTable}
use Rattle.answer_desk.specs.State.{State, new_state as new_desk, opening_state as opening_desk, number_at, with_board_closed, front_texts, without_front}
use Rattle.open_numbers.specs.OpenCalls.{is_marked_number}
use Rattle.handler_future.specs.State.{HandlerState, new_state, opening_program}
use Rattle.handler_future.specs.declared.outcome.Outcome.{Outcome}
use Rattle.handler_future.specs.declared.outcome.Outcome.TheVariants.{Answer, Failed as NoMemory}
use Rattle.peer_events.specs.declared.stage.Stage.{Stage}
use Rattle.peer_events.specs.declared.stage.Stage.TheVariants.{Gone, Faulty, Idle, Out, Over, Failed}
use Rattle.peer_output.specs.Items.{bytes_of}
use Rattle.peer_events.specs.Core.{Core, stage_at, with_stage, unwritten_from}
use Rattle.peer_events.specs.Hearing.{hear_waits, is_ready}
use Rattle.peer_events.specs.Finishing.{finished, cancelled}

-- ---- the start: number 0 is the opening's, where the table has one

abbrev pub opening_stage : List Step → Stage
opening_stage [] = Gone
opening_stage (s ∷ ss) = Idle (new_state 0 (opening_program (s ∷ ss))) 0

abbrev pub first_desk : List Step → State
first_desk [] = new_desk
first_desk (s ∷ ss) = opening_desk (calls_of (s ∷ ss))

abbrev pub start : MethodTable → Core
start table = record { desk = first_desk table.opening; stages = opening_stage table.opening ∷ [] }

-- ---- a job goes out

abbrev pub is_ready_stage : State → Stage → Bool
is_ready_stage desk (Idle h written) = is_ready desk h
is_ready_stage desk Gone = false
is_ready_stage desk (Faulty error) = false
is_ready_stage desk (Out written) = false
is_ready_stage desk (Over h written) = false
is_ready_stage desk Failed = false

-- the numbers of the handlers that are ready, from number n on
abbrev pub ready_from : State → ℕ → List Stage → List ℕ
ready_from desk n [] = []
ready_from desk n (stage ∷ stages) =
    if is_ready_stage desk stage then n ∷ ready_from desk (n + 1) stages else ready_from desk (n + 1) stages

abbrev pub ready : Core → List ℕ
ready s = ready_from s.desk 0 s.stages

-- the handler of number n goes out, which hears what it waits for, and leaves this behind
pub record Leaves (s : Core) (n : ℕ) (job : HandlerState) (after : Core) : Type 0 where
  pub handler : HandlerState
  pub so_far : ℕ
  pub stage : stage_at s n ≡ Idle handler so_far
  pub is_ready : is_ready s.desk handler ≡ true
  pub job_is : job ≡ (hear_waits s.desk handler).handler
  pub after_is : after ≡ record { desk = (hear_waits s.desk handler).desk; stages = slice_set s.stages n (Out so_far) }

-- ---- it comes back, with what its poll answered

-- One whose poll answered Pending stays, unless a cancel has reached its request; an answer stands.
abbrev pub returned_with : Core → HandlerState → ℕ → Option Outcome → Core
returned_with s h written None =
    if is_marked_number (number_at s.desk h.number) then cancelled s h written else with_stage s h.number (Idle h written)
returned_with s h written (Some (Answer answer)) = finished s h written answer
returned_with s h written (Some NoMemory) = with_stage s h.number Failed

abbrev pub returned_to : Core → HandlerState → Option Outcome → Stage → Core
returned_to s h outcome (Out written) = returned_with s h written outcome
returned_to s h outcome Gone = s
returned_to s h outcome (Faulty error) = s
returned_to s h outcome (Idle other written) = s
returned_to s h outcome (Over other written) = s
returned_to s h outcome Failed = s

abbrev pub returned : Core → HandlerState → Option Outcome → Core
returned s h outcome = returned_to s h outcome (stage_at s h.number)

-- ---- the input ends: no further reply comes

abbrev pub closed : Core → Core
closed s = record s { desk = with_board_closed s.desk }

-- ---- what is due is written: first what numbers have sent, then answers

abbrev pub due_bytes : Core → List ℕ
due_bytes s = bytes_of (unwritten_from 0 s.stages) ++ flat_map written (front_texts s.desk)

abbrev pub written_stage : Stage → Stage
written_stage Gone = Gone
written_stage (Faulty error) = Faulty error
written_stage (Idle h so_far) = Idle h (max so_far (length h.messages))
written_stage (Out so_far) = Out so_far
written_stage (Over h so_far) = Gone
written_stage Failed = Failed

abbrev pub drained : Core → Core
drained s = record { desk = without_front s.desk; stages = map written_stage s.stages }
