-- The courses that a cancel allows beside the whole one (LSP 3.17, "Cancellation Support").
use Rattle.std.specs.Prelude.{◌≡◌, ℕ, List, ◌++◌, map, filter, Bool, true, false, Option, ◌⊎◌}
use Rattle.std.specs.List.{list_any}
use Rattle.std.specs.Option.{option_and_then, option_map_or}
use Rattle.rpc_messages.specs.Entry.{SeenEntry, call, reply, stray, invalid}
use Rattle.message_ids.specs.Ids.{has_id}
use Rattle.rpc_messages.specs.Replies.{call_numbered, after_call, replies}
use Rattle.rpc_messages.specs.declared.call.Call.{Call}
use Rattle.message_ids.specs.declared.id.Id.{Id}
use Rattle.rpc_messages.specs.declared.reply.Reply.TheVariants.{Standard}
use Rattle.message_ids.specs.declared.standard.Standard.TheVariants.{Cancelled}
use Rattle.method_steps.specs.Steps.{MethodTable}
use Rattle.handler_future.specs.declared.message.Message.{Message}
use Rattle.handler_future.specs.Evaluation.{Replies, Program, evaluation}
use Rattle.handler_future.specs.Front.{last_turns}
use Rattle.peer_output.specs.Work.{run, work}
use Rattle.peer_output.specs.Course.{message, withdrawal, Course, course}

-- the list begins the other
pub record Begins {A : Type 0} (front whole : List A) : Type 0 where
  pub rest : List A
  pub joined : whole ≡ front ++ rest

-- the entry is a cancel of the request with this id
abbrev pub cancels : Id → SeenEntry → Bool
cancels id (call c) = has_id id c.target
cancels id (reply n t r) = false
cancels id stray = false
cancels id invalid = false

-- the id of the call with this number; a notification has none, and nor has the opening
abbrev pub request_id : List SeenEntry → ℕ → Option Id
request_id entries n = option_and_then (λ (c : Call). c.id) (call_numbered n entries)

-- A cancel reaches the requests with its id that stand before it in the stream, those of its own batch too.
abbrev pub is_cancelled : List SeenEntry → ℕ → Bool
is_cancelled entries n = option_map_or (λ id. list_any (cancels id) (after_call n entries)) (request_id entries n) false

-- A run that was cut short: it sends some first messages, then it withdraws calls of the last of these, as many as it likes, in order
-- and each at most once, and it answers `Request cancelled`.
pub record IsCutShort (R : Replies) (program : Program) (c : Course) : Type 0 where
  pub made : List Message
  pub is_withdrawn : ℕ → Bool
  pub begins : Begins made (evaluation R program).messages
  pub sends : c.sends ≡ map message made ++ map withdrawal (filter is_withdrawn (last_turns made))
  pub answer : c.answer ≡ Standard Cancelled

-- Only a run can be cut short, and only where a cancel reaches it.
pub record IsCancelledCourse (table : MethodTable) (entries : List SeenEntry) (n : ℕ) (c : Course) : Type 0 where
  pub reached : is_cancelled entries n ≡ true
  pub program : Program
  pub runs : work table entries n ≡ run program
  pub cut : IsCutShort (replies entries n) program c

-- The courses that a number may take.
abbrev pub MayTake : MethodTable → List SeenEntry → ℕ → Course → Type 0
MayTake table entries n c = (c ≡ course table entries n) ⊎ IsCancelledCourse table entries n c
