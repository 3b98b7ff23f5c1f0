-- An event's head and texts.
use Rattle.std.specs.Prelude.{ℕ, List, [], Option, Some, None, ℤ, pos, length, min}
use Rattle.lsp_frames.specs.declared.frame.FrameFault.TheVariants.{BadHead, BadLength, TwoLengths, TooLarge, NoLength, HeadTooLong, Truncated, LongLength}
use Rattle.connection_messages.specs.Texts.{id_text}
use Rattle.message_ids.specs.declared.id.Id.{Id}
use Rattle.connection_messages.specs.declared.reply.Reply.{Reply}
use Rattle.connection_messages.specs.declared.reply.Reply.TheVariants.{Result, Error}
use Rattle.connection_history.specs.declared.broken.Defect.{Defect}
use Rattle.connection_history.specs.declared.broken.Defect.TheVariants.{Unreadable, Invalid}
use Rattle.connection_history.specs.declared.close.Close.{Close}
use Rattle.connection_history.specs.declared.close.Close.TheVariants.{Clean, Fault, ReadFailed, Full}
use Rattle.connection_history.specs.declared.event.Event.{Event}
use Rattle.connection_history.specs.declared.event.Event.TheVariants.{Call, Cancelled, Replied, Unanswered, Over, Broken}
use Rattle.host_calls.specs.declared.head.EventHead.{EventHead}

abbrev pub no_head : EventHead
no_head = record { kind = 0; flags = 0; number = 0; key = 0; code = pos 0; name_len = 0; text_len = 0; id_len = 0 }

-- a head without marks, of texts of these lengths
abbrev pub of_lengths : ℕ → ℕ → ℕ → EventHead
of_lengths name text id = record no_head { name_len = name; text_len = text; id_len = id }

abbrev pub flag_of : Close → ℕ
flag_of Clean = 0
flag_of (Fault BadHead) = 1
flag_of (Fault BadLength) = 2
flag_of (Fault TwoLengths) = 3
flag_of (Fault TooLarge) = 4
flag_of (Fault NoLength) = 5
flag_of (Fault HeadTooLong) = 6
flag_of (Fault Truncated) = 7
flag_of (Fault LongLength) = 2
flag_of ReadFailed = 8
flag_of Full = 9

abbrev pub replied_with : EventHead → ℕ → Reply → EventHead
replied_with h key (Result text) = record h { kind = 3; key = key }
replied_with h key (Error e) = record h { kind = 3; flags = 1; key = key; code = e.code }

-- how many entries are invalid, or the greatest i64
abbrev pub count_of : ℕ → ℤ
count_of n = pos (min n 9223372036854775807)

-- what is wrong with a content, and the first invalid entry
abbrev pub broken_with : EventHead → ℕ → Defect → EventHead
broken_with h place Unreadable = record h { kind = 6; number = place }
broken_with h place (Invalid first count) = record h { kind = 6; flags = 1; number = place; key = first; code = count_of count }

-- whether it is a request
abbrev pub request_flag : Option Id → ℕ
request_flag None = 0
request_flag (Some id) = 1

abbrev pub head_with : ℕ → ℕ → ℕ → Event → EventHead
head_with x y z (Call number call) = record (of_lengths x y z) { kind = 1; flags = request_flag call.id; number = number }
head_with x y z (Cancelled number) = record (of_lengths x y z) { kind = 2; number = number }
head_with x y z (Replied key reply) = replied_with (of_lengths x y z) key reply
head_with x y z (Unanswered key) = record (of_lengths x y z) { kind = 4; key = key }
head_with x y z (Over close) = record (of_lengths x y z) { kind = 5; flags = flag_of close }
head_with x y z (Broken b) = broken_with (of_lengths x y z) b.place b.defect

abbrev pub or_empty : Option (List ℕ) → List ℕ
or_empty None = []
or_empty (Some text) = text

abbrev pub name_replied : Reply → List ℕ
name_replied (Result text) = []
name_replied (Error e) = e.message

abbrev pub text_replied : Reply → List ℕ
text_replied (Result text) = text
text_replied (Error e) = or_empty e.«data»

abbrev pub name_of : Event → List ℕ
name_of (Call number call) = call.method
name_of (Cancelled number) = []
name_of (Replied key reply) = name_replied reply
name_of (Unanswered key) = []
name_of (Over close) = []
name_of (Broken b) = []

abbrev pub text_of : Event → List ℕ
text_of (Call number call) = or_empty call.params
text_of (Cancelled number) = []
text_of (Replied key reply) = text_replied reply
text_of (Unanswered key) = []
text_of (Over close) = []
text_of (Broken b) = b.start

abbrev pub id_or_empty : Option Id → List ℕ
id_or_empty None = []
id_or_empty (Some id) = id_text id

abbrev pub id_of : Event → List ℕ
id_of (Call number call) = id_or_empty call.id
id_of (Cancelled number) = []
id_of (Replied key reply) = []
id_of (Unanswered key) = []
id_of (Over close) = []
id_of (Broken b) = []

abbrev pub head_of : Event → EventHead
head_of e = head_with (length (name_of e)) (length (text_of e)) (length (id_of e)) e
