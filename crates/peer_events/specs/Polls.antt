-- How many polls were made: each has made a message that awaits replies, or was the last of its number.
use Rattle.std.specs.Prelude.{◌≡◌, ℕ, ◌+◌, ◌-◌, ◌≤◌, List, [], ◌∷◌, ◌++◌, map, drop, length, count_by, Bool, true, false, Option, Some, None}
use Rattle.method_templates.specs.Steps.{Step}
use Rattle.method_steps.specs.Steps.{MethodTable}
use Rattle.handler_future.specs.State.{HandlerState}
use Rattle.peer_events.specs.declared.stage.Stage.{Stage}
use Rattle.peer_events.specs.declared.stage.Stage.TheVariants.{Gone, Faulty, Idle, Out, Over, Failed}
use Rattle.peer_output.specs.Course.{Sending}
use Rattle.peer_output.specs.Items.{Item, sent, count_calls}
use Rattle.peer_events.specs.Core.{Core, made_by, unwritten}

-- ---- what is to be written yet

-- what a job that is out has made: it is written once the job is back
abbrev pub made_out : Option HandlerState → ℕ → List Sending
made_out None so_far = []
made_out (Some h) so_far = drop so_far (made_by h)

-- of one number, whose job this is, where it is out
abbrev pub to_write : Stage → Option HandlerState → List Sending
to_write Gone job = []
to_write (Faulty error) job = []
to_write (Idle h so_far) job = unwritten (Idle h so_far)
to_write (Out so_far) job = made_out job so_far
to_write (Over h so_far) job = unwritten (Over h so_far)
to_write Failed job = []

-- of numbers from n on, number by number
abbrev pub to_write_from : (ℕ → Option HandlerState) → ℕ → List Stage → List Item
to_write_from jobs n [] = []
to_write_from jobs n (stage ∷ stages) = map (sent n) (to_write stage (jobs n)) ++ to_write_from jobs (n + 1) stages

-- ---- whose handler runs yet, here or out

abbrev pub is_running : Stage → Bool
is_running Gone = false
is_running (Faulty error) = false
is_running (Idle h so_far) = true
is_running (Out so_far) = true
is_running (Over h so_far) = false
is_running Failed = false

abbrev pub count_running : List Stage → ℕ
count_running stages = count_by is_running stages

-- the opening is run once, where the table has one
abbrev pub opening_runs : List Step → ℕ
opening_runs [] = 0
opening_runs (s ∷ ss) = 1

-- ---- the polls

-- So many polls fit a session that has written these items. Each has made a message that awaits replies, which is written or is to be
-- written; or it was the last of its number, which is not polled again. The number 0 is the opening's.
pub record PollsFit (table : MethodTable) (s : Core) (jobs : ℕ → Option HandlerState) (items : List Item) (polls : ℕ) : Type 0 where
  pub last : ℕ
  pub each : polls ≡ count_calls items + count_calls (to_write_from jobs 0 s.stages) + last
  pub one_a_number : last + count_running s.stages ≤ (length s.stages - 1) + opening_runs table.opening

-- So many polls were made in all, once nothing is left of any number: one for each message that awaits replies, and at most one more
-- for each number and for the opening.
pub record PollsWithin (table : MethodTable) (numbers call_frames polls : ℕ) : Type 0 where
  pub least : call_frames ≤ polls
  pub most : polls ≤ numbers + call_frames + opening_runs table.opening
