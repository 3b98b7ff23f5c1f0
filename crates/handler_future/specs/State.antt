-- A handler as its callers see it, and what a poll does.
use Rattle.std.specs.Prelude.{◌≡◌, ◌≢◌, ℕ, ◌<◌, ◌≤◌, ◌==◌, List, [], ◌∷◌, ◌++◌, length, map, All, true, not, Option, Some, None, unwrap_or}
use Rattle.std.specs.Arc.{arc_value}
use Rattle.std.specs.List.{filter}
use Rattle.std.specs.declared.alloc.Global.{Global}
use Rattle.std.specs.declared.sync.Arc.{Arc}
use Rattle.serde_json.specs.Data.{Data, null}
use Rattle.rpc_messages.specs.declared.call.Call.{Call}
use Rattle.rpc_messages.specs.declared.outgoing.Outgoing.{Outgoing}
use Rattle.rpc_messages.specs.declared.params.Params.{Params}
use Rattle.rpc_messages.specs.declared.params.Params.TheVariants.{Omitted, Whole, Fractional}
use Rattle.rpc_messages.specs.declared.reply.Reply.{Reply}
use Rattle.method_templates.specs.Steps.{Step, calls_of}
use Rattle.method_steps.specs.Steps.{NamedSteps, steps_at}
use Rattle.handler_future.specs.declared.message.Message.{Message}
use Rattle.handler_future.specs.declared.message.Message.TheVariants as message
use Rattle.handler_future.specs.declared.outcome.Outcome.{Outcome}
use Rattle.handler_future.specs.declared.outcome.Outcome.TheVariants.{Answer, Failed}
use Rattle.handler_future.specs.declared.phase.Phase.{Phase}
use Rattle.handler_future.specs.declared.phase.Phase.TheVariants as phases
use Rattle.handler_future.specs.Evaluation.{Replies, Program, evaluation}
use Rattle.handler_future.specs.Front.{Heard, AgreesWith, front, unheard, are_heard, last_turns, turns_of}

pub record HandlerState : Type 0 where
  pub number : ℕ
  pub program : Program
  -- all made so far
  pub messages : List Message
  -- all heard so far
  pub heard : Heard
  -- the turns awaited and not heard
  pub waits : List ℕ
  -- whether a poll was ready, and with what
  pub phase : Phase

-- the value of the register `params`: null where they are omitted
abbrev pub params_data : Params → Data
params_data Omitted = null
params_data (Whole d) = d
params_data Fractional = null

-- what the method at a place of a table does for a call
abbrev pub program_for : List NamedSteps → ℕ → Call → Program
program_for methods method call = record { steps = unwrap_or (steps_at methods method) []; params = params_data call.params }

-- the same for a call that is shared
abbrev pub program_at : List NamedSteps → ℕ → Arc Call Global → Program
program_at methods method call = program_for methods method (arc_value call)

-- what the opening of a table does: no call runs it, so its register `params` is null
abbrev pub opening_program : List Step → Program
opening_program steps = record { steps = steps; params = null }

-- before the first poll
abbrev pub new_state : ℕ → Program → HandlerState
new_state n p = record { number = n; program = p; messages = []; heard = []; waits = []; phase = phases.UnderWay }

-- the opening's handler before its first poll, where the table has an opening: its number is 0
abbrev pub opening_state : List Step → Option HandlerState
opening_state [] = None
opening_state (s ∷ ss) = Some (new_state 0 (opening_program (s ∷ ss)))

-- once the reply to a call that it waits for was heard
abbrev pub with_heard : HandlerState → ℕ → Reply → HandlerState
with_heard s t r = record s { heard = s.heard ++ (t, r) ∷ []; waits = filter (λ u. not (u == t)) s.waits }

-- It waits: the messages are the front of what was heard, and it waits for the turns of the last that weren't heard.
pub record IsWaiting (s : HandlerState) : Type 0 where
  pub messages : s.messages ≡ front s.program s.heard
  pub waits : s.waits ≡ unheard s.heard (last_turns s.messages)
  pub some : 0 < length s.waits
  pub within : All (λ t. (1 ≤ t) × (t ≤ calls_of s.program.steps)) s.waits
  pub under_way : s.phase ≡ phases.UnderWay

-- It has ended: all was heard, and the messages and the answer are those of the evaluation.
pub record HasEnded (s : HandlerState) (answer : Reply) : Type 0 where
  pub heard : are_heard s.heard s.messages ≡ true
  pub evaluated : (R : Replies) → AgreesWith s.heard R → evaluation R s.program ≡ record { messages = s.messages; answer = answer }
  pub no_waits : s.waits ≡ []
  pub over : s.phase ≡ phases.Answered

-- It has failed: the messages begin those of the evaluation.
pub record HasFailed (s : HandlerState) : Type 0 where
  pub begins : (R : Replies) → AgreesWith s.heard R → (more : List Message) × ((evaluation R s.program).messages ≡ s.messages ++ more)
  pub no_waits : s.waits ≡ []
  pub over : s.phase ≢ phases.UnderWay

-- what a poll's answer says of the handler; none is Pending
abbrev pub PollLeaves : HandlerState → Option Outcome → Type 0
PollLeaves s None = IsWaiting s
PollLeaves s (Some (Answer a)) = HasEnded s a
PollLeaves s (Some Failed) = HasFailed s

-- the phase that a poll with this answer leaves; a poll after Ready leaves it as it is
abbrev pub phase_after : Phase → Option Outcome → Phase
phase_after phases.UnderWay None = phases.UnderWay
phase_after phases.UnderWay (Some (Answer a)) = phases.Answered
phase_after phases.UnderWay (Some Failed) = phases.Failed
phase_after phases.Answered answer = phases.Answered
phase_after phases.Failed answer = phases.Failed

-- some notifications were added, and then `last`
pub record AddsNotices (before after last : List Message) : Type 0 where
  pub notices : List Outgoing
  pub made : after ≡ before ++ (map message.Notice notices ++ last)

-- notifications were added, and then a message with calls
pub record AddsCalls (before after : List Message) : Type 0 where
  pub last : Message
  pub calls : 0 < length (turns_of last)
  pub added : AddsNotices before after (last ∷ [])

-- what a poll that awaits nothing adds, by its answer
abbrev pub Adds : List Message → List Message → Option Outcome → Type 0
Adds before after None = AddsCalls before after
Adds before after (Some outcome) = AddsNotices before after []

-- a poll from one state to the next
pub record IsPoll (before after : HandlerState) (answer : Option Outcome) : Type 0 where
  pub same_number : after.number ≡ before.number
  pub same_program : after.program ≡ before.program
  pub same_heard : after.heard ≡ before.heard
  pub messages_stay : (more : List Message) × (after.messages ≡ before.messages ++ more)
  -- a poll that awaits nothing goes on: it comes to a message with calls, or it is ready
  pub adds : before.waits ≡ [] → Adds before.messages after.messages answer
  -- a poll that awaits replies changes nothing
  pub while_waiting : 0 < length before.waits → (answer ≡ None) × (after ≡ before)
  pub leaves : PollLeaves after answer
  pub waits : after.waits ≡ unheard after.heard (last_turns after.messages)
  pub phase : after.phase ≡ phase_after before.phase answer
  -- after Ready it fails, and changes nothing
  pub after_ready : before.phase ≢ phases.UnderWay → (answer ≡ Some Failed) × (after ≡ before)
