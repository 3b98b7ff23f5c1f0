-- What a handler holds, and what is true of it.
use Rattle.std.specs.Prelude.{◌<◌, length, Option, Some, None}
use Rattle.std.specs.Arc.{arc_value}
use Rattle.std.specs.declared.alloc.Global.{Global}
use Rattle.std.specs.declared.sync.Arc.{Arc}
use Rattle.serde_json.specs.Data.{Data, null}
use Rattle.rpc_messages.specs.declared.call.Call.{Call}
use Rattle.method_templates.specs.Steps.{AreWithinLimits}
use Rattle.method_steps.specs.Steps.{shared_steps}
use Rattle.handler_future.specs.declared.handler.Handler.TheInside.{Inside}
use Rattle.handler_future.specs.declared.run.Run.{Run}
use Rattle.handler_future.specs.Inner.Course.{Seen, HasRoom, seen}
use Rattle.handler_future.specs.Evaluation.{Program}
use Rattle.handler_future.specs.Inner.Standing.{Stands}
use Rattle.handler_future.specs.State.{HandlerState, params_data}

-- the params of its call; null for an opening, which has no call
abbrev pub params_in : Option (Arc Call Global) → Data
params_in None = null
params_in (Some call) = params_data (arc_value call).params

abbrev pub program_of : Run → Program
program_of r = record { steps = shared_steps r.steps; params = params_in r.call }

-- its course, with the params of its call lent
abbrev pub seen_course : Run → Seen
seen_course r = seen (params_in r.call) r.course

abbrev pub run_state : Run → HandlerState
run_state r = record {
  number = r.number;
  program = program_of r;
  messages = r.course.messages.items;
  heard = r.course.heard.items;
  waits = r.course.waits.items;
  phase = r.phase;
}

abbrev pub state_of : Inside → HandlerState
state_of h = run_state h.run.value

pub record IsRun (r : Run) : Type 0 where
  pub limits : AreWithinLimits (shared_steps r.steps)
  pub room : 0 < length r.course.waits.items → HasRoom r.course
  pub stands : Stands (program_of r) r.phase (seen_course r)

abbrev pub IsHandler : Inside → Type 0
IsHandler h = IsRun h.run.value
