-- What the peer is to do for each number: run the steps of a method, or answer with an error at once.
use Rattle.std.specs.Prelude.{ℕ, zero, suc, nat_eq, List, [], ◌∷◌, Bool, codes, Option, Some, None, if◌then◌else◌}
use Rattle.std.specs.List.{starts_with}
use Rattle.rpc_messages.specs.Entry.{SeenEntry}
use Rattle.rpc_messages.specs.Replies.{call_numbered}
use Rattle.rpc_messages.specs.declared.call.Call.{Call}
use Rattle.rpc_messages.specs.declared.params.Params.{Params}
use Rattle.rpc_messages.specs.declared.params.Params.TheVariants.{Omitted, Whole, Fractional}
use Rattle.message_ids.specs.declared.standard.Standard.{Standard}
use Rattle.message_ids.specs.declared.standard.Standard.TheVariants.{MethodNotFound, InvalidParams}
use Rattle.method_templates.specs.Steps.{Step}
use Rattle.method_steps.specs.Steps.{MethodTable, place_of}
use Rattle.handler_future.specs.Evaluation.{Program}
use Rattle.handler_future.specs.State.{program_for, opening_program}

pub data Work : Type 0 where
  -- there is no such call, or the table has no opening
  nothing : Work
  -- this error is the answer, and nothing is sent
  fault : Standard → Work
  -- a handler runs these steps
  run : Program → Work

-- Methods that begin with `$/` are the protocol's own (LSP 3.17, "$ Notifications and Requests"): no table has them.
abbrev pub is_protocol_method : List ℕ → Bool
is_protocol_method name = starts_with nat_eq name (codes "$/")

-- Numbers with a fraction aren't computed with, which is our own rule: `Invalid params` (JSON-RPC 2.0, section 5.1).
abbrev pub work_with : MethodTable → ℕ → Call → Params → Work
work_with table place c Omitted = run (program_for table.methods place c)
work_with table place c (Whole params) = run (program_for table.methods place c)
work_with table place c Fractional = fault InvalidParams

-- A method that isn't in the table: `Method not found` (JSON-RPC 2.0, section 5.1).
abbrev pub work_at : MethodTable → Call → Option ℕ → Work
work_at table c None = fault MethodNotFound
work_at table c (Some place) = work_with table place c c.params

abbrev pub call_work : MethodTable → Call → Work
call_work table c = if is_protocol_method c.method then fault MethodNotFound else work_at table c (place_of c.method table.methods)

abbrev pub work_for : MethodTable → Option Call → Work
work_for table None = nothing
work_for table (Some c) = call_work table c

-- the steps that the peer begins by itself, where there are any
abbrev pub opening_work : List Step → Work
opening_work [] = nothing
opening_work (s ∷ ss) = run (opening_program (s ∷ ss))

-- Number n is that of the n-th call of the stream, a request or a notification. Number 0 is the opening's, for which no call came.
abbrev pub work : MethodTable → List SeenEntry → ℕ → Work
work table entries zero = opening_work table.opening
work table entries (suc n) = work_for table (call_numbered (suc n) entries)
