-- A method that goes on until it waits for replies or ends. Only private functions' clauses cite this.
use Rattle.std.specs.Prelude.{◌≡◌, ◌+◌, ◌≤◌, ◌<◌, List, [], ◌++◌, length, drop, Result, Ok, Err}
use Rattle.std.specs.declared.alloc.AllocError.{AllocError}
use Rattle.rpc_messages.specs.declared.key.TheConstants.{MOST_TURNS}
use Rattle.method_templates.specs.Steps.{Step, calls_of}
use Rattle.handler_future.specs.declared.course.Progress.{Progress}
use Rattle.handler_future.specs.declared.course.Progress.TheVariants.{Going, Waiting, Ended}
use Rattle.handler_future.specs.declared.message.Message.{Message}
use Rattle.handler_future.specs.Inner.Course.{Seen, Course, HasRoom}
use Rattle.handler_future.specs.State.{AddsNotices, AddsCalls}

-- what was heard stays, and messages are only added
pub record Stays (before after : Seen) : Type 0 where
  pub heard : after.heard ≡ before.heard
  pub messages : (more : List Message) × (after.messages ≡ before.messages ++ more)

-- what it adds to the messages, by what it came to
abbrev pub Extends : Result Progress AllocError → Seen → Seen → Type 0
Extends (Ok Going) before after = AddsNotices before.messages after.messages []
Extends (Ok Waiting) before after = AddsCalls before.messages after.messages
Extends (Ok (Ended r)) before after = AddsNotices before.messages after.messages []
Extends (Err e) before after = AddsNotices before.messages after.messages []

-- ---- what may be counted on

-- nothing is waited for, and the turns of the steps that are left are few
pub record IsRunnable (steps : List Step) (c : Seen) : Type 0 where
  pub no_waits : c.waits ≡ []
  pub not_asked : c.asked ≡ 0
  pub turns : c.turn + calls_of (drop c.place steps) ≤ MOST_TURNS + 1

-- all that was waited for was heard
pub record IsSettling (steps : List Step) (c : Seen) : Type 0 where
  pub no_waits : c.waits ≡ []
  pub asked : 0 < c.asked
  pub place : c.place < length steps
  pub heard : c.heard_before ≤ length c.heard
  pub turns : (c.turn + c.asked) + calls_of (drop (c.place + 1) steps) ≤ MOST_TURNS + 1

pub record IsReady (steps : List Step) (c : Seen) : Type 0 where
  pub run : c.asked ≡ 0 → IsRunnable steps c
  pub take_replies : 0 < c.asked → IsSettling steps c

abbrev pub HasRoomToWait : Progress → Course → Type 0
HasRoomToWait Going c = Unit {0}
HasRoomToWait Waiting c = HasRoom c
HasRoomToWait (Ended r) c = Unit {0}
