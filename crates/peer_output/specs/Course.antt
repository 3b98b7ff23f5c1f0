-- The course of a number: what it sends, in order, and what it answers, if nobody cancels it.
use Rattle.std.specs.Prelude.{ℕ, List, [], map}
use Rattle.serde_json.specs.Data.{null}
use Rattle.rpc_messages.specs.Entry.{SeenEntry}
use Rattle.rpc_messages.specs.Replies.{replies}
use Rattle.rpc_messages.specs.declared.reply.Reply.{Reply}
use Rattle.rpc_messages.specs.declared.reply.Reply.TheVariants.{Done, Standard}
use Rattle.method_steps.specs.Steps.{MethodTable}
use Rattle.handler_future.specs.declared.message.Message.{Message}
use Rattle.handler_future.specs.Evaluation.{Replies, Evaluation, evaluation}
use Rattle.peer_output.specs.Work.{Work, nothing, fault, run, work}

-- What a number sends: a message that its handler made, or the withdrawal of its call of some turn.
pub data Sending : Type 0 where
  message : Message → Sending
  withdrawal : ℕ → Sending

-- The answer of a notification, and that of the opening, is asked for by nobody.
pub record Course : Type 0 where
  pub sends : List Sending
  pub answer : Reply

abbrev pub silent : Reply → Course
silent reply = record { sends = []; answer = reply }

abbrev pub evaluated : Evaluation → Course
evaluated e = record { sends = map message e.messages; answer = e.answer }

-- the course of some work, where the replies to its calls are these
abbrev pub course_of : Replies → Work → Course
course_of R nothing = silent (Done null)
course_of R (fault standard) = silent (Standard standard)
course_of R (run program) = evaluated (evaluation R program)

-- The course of a number in a stream: its work, with the replies that stand in the stream.
abbrev pub course : MethodTable → List SeenEntry → ℕ → Course
course table entries n = course_of (replies entries n) (work table entries n)
