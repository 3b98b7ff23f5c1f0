-- Where a handler stands beside the evaluation of its method.
use Rattle.std.specs.Prelude.{◌≡◌, ℕ, ◌+◌, ◌≤◌, ◌<◌, List, [], ◌∷◌, ◌++◌, length, drop, take, true, false}
use Rattle.std.specs.List.{range_with_len}
use Rattle.rpc_messages.specs.declared.reply.Reply.{Reply}
use Rattle.method_templates.specs.Steps.{Step, calls_of}
use Rattle.handler_future.specs.declared.act.Act.{Act}
use Rattle.handler_future.specs.declared.act.Act.TheVariants as act
use Rattle.handler_future.specs.declared.course.Progress.{Progress}
use Rattle.handler_future.specs.declared.course.Progress.TheVariants.{Going, Waiting, Ended}
use Rattle.handler_future.specs.declared.message.Message.{Message}
use Rattle.handler_future.specs.declared.message.Message.TheVariants as message
use Rattle.handler_future.specs.declared.phase.Phase.{Phase}
use Rattle.handler_future.specs.declared.phase.Phase.TheVariants.{UnderWay, Answered, Failed}
use Rattle.handler_future.specs.Act.{act_of}
use Rattle.handler_future.specs.Inner.Course.{Seen}
use Rattle.handler_future.specs.Evaluation.{Replies, Program, evaluation, eval, preceded}
use Rattle.handler_future.specs.Front.{is_heard, AgreesWith, unheard, are_heard}

-- Nothing is awaited: the evaluation is the messages so far and then the evaluation from its place on, whatever is still to
-- be heard.
pub record StandsBefore (p : Program) (c : Seen) : Type 0 where
  pub law : (R : Replies) → AgreesWith c.heard R → evaluation R p ≡ preceded c.messages (eval R 0 (drop c.place p.steps) c.registers c.turn)
  pub heard : are_heard c.heard c.messages ≡ true
  pub none_ahead : (t : ℕ) → c.turn ≤ t → is_heard c.heard t ≡ false
  pub no_waits : c.waits ≡ []
  pub not_asked : c.asked ≡ 0
  pub from_one : 1 ≤ c.turn
  pub turns : c.turn + calls_of (drop c.place p.steps) ≤ 1 + calls_of p.steps

-- the act makes this message, with so many calls from a turn on
abbrev pub Asks : ℕ → Act → Message → ℕ → Type 0
Asks t (act.Call o) m k = (m ≡ message.Call t o) × (k ≡ 1)
Asks t (act.Calls os) m k = (m ≡ message.Calls t os) × (k ≡ length os)
Asks t _ m k = ⊥

-- The step at its place has made its calls.
pub record IsParked (p : Program) (c : Seen) : Type 0 where
  pub done : List Message
  pub last : Message
  pub step : Step
  pub made : c.messages ≡ done ++ last ∷ []
  pub here : drop c.place p.steps ≡ step ∷ drop (c.place + 1) p.steps
  pub asks : Asks c.turn (act_of c.registers step) last c.asked
  pub law : (R : Replies) → AgreesWith c.heard R → evaluation R p ≡ preceded done (eval R 0 (drop c.place p.steps) c.registers c.turn)
  pub heard : are_heard c.heard done ≡ true
  pub none_ahead : (t : ℕ) → c.turn + c.asked ≤ t → is_heard c.heard t ≡ false
  pub none_before : (t : ℕ) → c.turn ≤ t → is_heard (take c.heard_before c.heard) t ≡ false
  pub few : c.heard_before ≤ length c.heard
  pub waits : c.waits ≡ unheard c.heard (range_with_len c.turn c.asked)
  pub some : 0 < c.asked
  pub from_one : 1 ≤ c.turn
  pub turns : (c.turn + c.asked) + calls_of (drop (c.place + 1) p.steps) ≤ 1 + calls_of p.steps

pub record IsUnderWay (p : Program) (c : Seen) : Type 0 where
  pub before : c.asked ≡ 0 → StandsBefore p c
  pub parked : 0 < c.asked → IsParked p c

-- It has come to its end.
pub record HasCome (p : Program) (c : Seen) (answer : Reply) : Type 0 where
  pub law : (R : Replies) → AgreesWith c.heard R → evaluation R p ≡ record { messages = c.messages; answer = answer }
  pub heard : are_heard c.heard c.messages ≡ true
  pub no_waits : c.waits ≡ []

-- Its messages begin those of the evaluation.
pub record Begins (p : Program) (c : Seen) : Type 0 where
  pub law : (R : Replies) → AgreesWith c.heard R → (more : List Message) × ((evaluation R p).messages ≡ c.messages ++ more)
  pub heard : are_heard c.heard c.messages ≡ true
  pub no_waits : c.waits ≡ []

-- where it stands, by what it came to
abbrev pub Leads : Program → Seen → Progress → Type 0
Leads p c Going = StandsBefore p c
Leads p c Waiting = IsParked p c × (0 < length c.waits)
Leads p c (Ended r) = HasCome p c r

abbrev pub Stands : Program → Phase → Seen → Type 0
Stands p UnderWay c = IsUnderWay p c
Stands p Answered c = Begins p c
Stands p Failed c = Begins p c
