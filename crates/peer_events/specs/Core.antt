-- What a session keeps of units and numbers: what its desk does, and the stage of each number.
use Rattle.std.specs.Prelude.{ℕ, ◌+◌, List, [], ◌∷◌, ◌++◌, map, drop, slice_index_or, slice_set}
use Rattle.answer_desk.specs.State.{State}
use Rattle.handler_future.specs.State.{HandlerState}
use Rattle.peer_events.specs.declared.stage.Stage.{Stage}
use Rattle.peer_events.specs.declared.stage.Stage.TheVariants.{Gone, Faulty, Idle, Out, Over, Failed}
use Rattle.peer_output.specs.Course.{Sending, message, withdrawal}
use Rattle.peer_output.specs.Items.{Item, sent}

-- The stages are those of the numbers from 0 on that were given.
pub record Core : Type 0 where
  pub desk : State
  pub stages : List Stage

abbrev pub stage_at : Core → ℕ → Stage
stage_at s n = slice_index_or s.stages n Gone

abbrev pub with_stage : Core → ℕ → Stage → Core
with_stage s n stage = record s { stages = slice_set s.stages n stage }

abbrev pub with_desk : Core → State → Core
with_desk s desk = record s { desk = desk }

-- ---- what numbers have sent

-- what a handler that is here has sent: its messages, and, once it is over, the withdrawals of the calls that it still waited for
abbrev pub made_by : HandlerState → List Sending
made_by h = map message h.messages

abbrev pub all_of : HandlerState → List Sending
all_of h = map message h.messages ++ map withdrawal h.waits

-- what of it isn't written; what a job that is out has made waits until it is back
abbrev pub unwritten : Stage → List Sending
unwritten Gone = []
unwritten (Faulty error) = []
unwritten (Idle h written) = drop written (made_by h)
unwritten (Out written) = []
unwritten (Over h written) = drop written (all_of h)
unwritten Failed = []

-- of numbers from n on, number by number
abbrev pub unwritten_from : ℕ → List Stage → List Item
unwritten_from n [] = []
unwritten_from n (stage ∷ stages) = map (sent n) (unwritten stage) ++ unwritten_from (n + 1) stages
