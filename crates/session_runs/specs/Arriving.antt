-- What is done for a call as it arrives.
use Rattle.std.specs.Prelude.{◌≢◌, ◌<◌, length}
use Rattle.rpc_messages.specs.declared.call.Call.{Call}
use Rattle.rpc_messages.specs.declared.params.Params.TheVariants.{Fractional}
use Rattle.method_steps.specs.Steps.{MethodTable}
use Rattle.handler_future.specs.State.{program_for}
use Rattle.peer_output.specs.Work.{Work, fault, run}
use Rattle.session_runs.specs.declared.work.Work.{Work as WorkMade}
use Rattle.session_runs.specs.declared.work.Work.TheVariants.{Fault, Run}

abbrev pub work_seen : MethodTable → Call → WorkMade → Work
work_seen table c (Fault error) = fault error
work_seen table c (Run method) = run (program_for table.methods method c)

-- a method that runs is the table's, and the params have no fraction
abbrev pub MayRun : MethodTable → Call → WorkMade → Type 0
MayRun table c (Fault error) = Unit {0}
MayRun table c (Run method) = (method < length table.methods) × (c.params ≢ Fractional)
