-- What is certain of a number while its stream goes on: it holds under every later stream.
use Rattle.std.specs.Prelude.{◌≡◌, ℕ, List, Bool, true, false}
use Rattle.rpc_messages.specs.Entry.{SeenEntry}
use Rattle.rpc_messages.specs.Replies.{replies}
use Rattle.method_steps.specs.Steps.{MethodTable}
use Rattle.handler_future.specs.Front.{Heard, AgreesWith}
use Rattle.peer_output.specs.Course.{Sending, Course, course}
use Rattle.peer_output.specs.Cancelled.{Begins, MayTake}

-- The streams that may yet be: any that begins with what has come, and just that once the input is over.
abbrev pub MayBecome : {A : Type 0} → Bool → List A → List A → Type 0
MayBecome true so_far later = later ≡ so_far
MayBecome false so_far later = Begins so_far later

-- Of a number that isn't finished: what it has sent begins its course.
abbrev pub IsUnderWay : MethodTable → Bool → List SeenEntry → ℕ → List Sending → Type 0
IsUnderWay table is_over entries n sends = (later : List SeenEntry) → MayBecome is_over entries later → Begins sends (course table later n).sends

-- Of one that is: the course that it took is one that it may take.
abbrev pub IsFinished : MethodTable → Bool → List SeenEntry → ℕ → Course → Type 0
IsFinished table is_over entries n c = (later : List SeenEntry) → MayBecome is_over entries later → MayTake table later n c

-- What its handler has heard are the replies that stand in the stream.
abbrev pub IsHeardFrom : Bool → List SeenEntry → ℕ → Heard → Type 0
IsHeardFrom is_over entries n heard = (later : List SeenEntry) → MayBecome is_over entries later → AgreesWith heard (replies later n)
