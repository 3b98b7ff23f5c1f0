-- A method under way: what each step makes of it.
use Rattle.std.specs.Prelude.{ℕ, ◌+◌, ◌≤◌, List, [], ◌∷◌, ◌++◌, length, drop, Result, Ok, Err, Vec, vec_len, vec_capacity}
use Rattle.std.specs.List.{range_with_len}
use Rattle.std.specs.declared.alloc.Global.{Global}
use Rattle.serde_json.specs.Data.{Data, Members, no_members, put}
use Rattle.rpc_messages.specs.declared.reply.Reply.{Reply}
use Rattle.method_templates.specs.declared.locals.Row.{Row}
use Rattle.method_templates.specs.Locals.{with_lent}
use Rattle.method_templates.specs.Steps.{Step}
use Rattle.handler_future.specs.declared.act.Act.{Act}
use Rattle.handler_future.specs.declared.act.Act.TheVariants as act
use Rattle.handler_future.specs.declared.course.CourseOf.{CourseOf}
use Rattle.handler_future.specs.declared.course.Progress.{Progress}
use Rattle.handler_future.specs.declared.course.Progress.TheVariants.{Going, Waiting, Ended}
use Rattle.handler_future.specs.declared.message.Message.{Message}
use Rattle.handler_future.specs.declared.message.Message.TheVariants as message
use Rattle.handler_future.specs.ReplyValues.{register_of, value_of_replies}
use Rattle.handler_future.specs.Evaluation.{Replies, replies_from}
use Rattle.handler_future.specs.Front.{Heard, heard_replies}

-- a course, its lists told from the room that they have
pub record Seen : Type 0 where
  pub place : ℕ
  pub registers : Members
  pub turn : ℕ
  pub asked : ℕ
  pub heard_before : ℕ
  pub messages : List Message
  pub waits : List ℕ
  pub heard : Heard

abbrev pub Course : Type 0
Course = CourseOf (List Row) (Vec Message Global) (Vec (ℕ × Reply) Global)

-- there is room for the replies that it waits for
abbrev pub HasRoom : Course → Type 0
HasRoom c = vec_len c.heard + length c.waits.items ≤ vec_capacity c.heard

-- with this value lent to the registers that have none of their own
abbrev pub seen : Data → Course → Seen
seen lent c = record {
  place = c.place;
  registers = with_lent lent c.registers;
  turn = c.turn;
  asked = c.asked;
  heard_before = c.heard_before;
  messages = c.messages.items;
  waits = c.waits.items;
  heard = c.heard.items;
}

-- ---- one step, for private functions' clauses

abbrev pub with_value : Step → Data → Seen → Seen
with_value s d c = record c { place = c.place + 1; registers = put (register_of s) d c.registers }

abbrev pub past : ℕ → Seen → Seen
past n c = record c { place = c.place + (1 + n) }

abbrev pub with_notice : Message → Seen → Seen
with_notice m c = record c { place = c.place + 1; messages = c.messages ++ m ∷ [] }

abbrev pub asking : Message → ℕ → Seen → Seen
asking m k c = record c { asked = k; heard_before = length c.heard; messages = c.messages ++ m ∷ []; waits = range_with_len c.turn k }

abbrev pub without_registers : Seen → Seen
without_registers c = record c { registers = no_members }

abbrev pub after_act : Step → Seen → Act → Seen × Progress
after_act s c (act.Put d) = (with_value s d c, Going)
after_act s c (act.Skip n) = (past n c, Going)
after_act s c (act.Notify o) = (with_notice (message.Notice o) c, Going)
after_act s c (act.Call o) = (asking (message.Call c.turn o) 1 c, Waiting)
after_act s c (act.Calls os) = (asking (message.Calls c.turn os) (length os) c, Waiting)
after_act s c (act.End r) = (without_registers c, Ended r)

-- ---- after the replies

abbrev pub with_answered : Step → Data → Seen → Seen
with_answered s d c = record c { place = c.place + 1; registers = put (register_of s) d c.registers; turn = c.turn + c.asked; asked = 0 }

abbrev pub after_value : Step → Seen → Result Data Reply → Seen × Progress
after_value s c (Ok d) = (with_answered s d c, Going)
after_value s c (Err r) = (c, Ended r)

-- the replies that came since the calls were made
abbrev pub late_replies : Seen → Replies
late_replies c = heard_replies (drop c.heard_before c.heard)

abbrev pub after_replies : Step → Seen → Seen × Progress
after_replies s c = after_value s c (value_of_replies s (replies_from (late_replies c) c.turn c.asked))
