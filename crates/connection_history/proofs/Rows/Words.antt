-- The words of the worked rows. What happened is listed in its order, the earliest first.
use Rattle.std.proofs.Common.{ℕ, List, [], codes, map, Option, Some, None}
use Rattle.message_ids.specs.declared.id.Id.TheVariants.{Unsigned}
use Rattle.connection_messages.specs.declared.answer.Answer.TheVariants as answers
use Rattle.connection_messages.specs.declared.call.Call.{Call}
use Rattle.connection_messages.specs.declared.entry.Entry.{Entry}
use Rattle.connection_messages.specs.declared.entry.Entry.TheVariants as entries
use Rattle.connection_messages.specs.declared.outgoing.Outgoing.{Outgoing}
use Rattle.connection_messages.specs.declared.reply.Reply.{Reply}
use Rattle.connection_messages.specs.declared.reply.Reply.TheVariants as replies
use Rattle.connection_messages.specs.declared.unit.Unit.TheVariants.{Single, Batch}
use Rattle.connection_history.specs.declared.event.Event.{Event}
use Rattle.connection_history.specs.declared.order.Order.{Order}
use Rattle.connection_history.specs.declared.refused.Refused.{Refused}
use Rattle.connection_history.specs.Events.{events_of}
use Rattle.connection_history.specs.History.{Happening, came, answered}
use Rattle.connection_history.specs.Items.{items_of, text_of}
use Rattle.connection_history.specs.Refusals.{after, refusal}
use Rattle.connection_messages.specs.declared.cancels.Cancels.TheVariants.{Lsp}

-- ---- what stands after a row

abbrev pub told : List Happening → List Event
told happened = events_of (after [] happened)

abbrev pub written : Order → List Happening → List (List ℕ)
written order happened = map text_of (items_of order (after [] happened))

-- why something is refused after a row, where the protocol has cancels
abbrev pub refused : List Happening → Happening → Option Refused
refused happened h = refusal (Some Lsp) (after [] happened) h

-- ---- what comes

-- the request `add` with this id
abbrev pub add : ℕ → Call
add id = record { id = Some (Unsigned id); method = codes "add"; params = Some (codes "[1.50]") }

-- the notification `note`
abbrev pub note : Call
note = record { id = None; method = codes "note"; params = None }

abbrev pub request : ℕ → Entry
request id = entries.Call (add id)

abbrev pub notification : Entry
notification = entries.Call note

abbrev pub cancel : ℕ → Entry
cancel id = entries.Cancel (Unsigned id)

abbrev pub yes : Reply
yes = replies.Result (codes "true")

abbrev pub no : Reply
no = replies.Result (codes "false")

abbrev pub reply : ℕ → Reply → Entry
reply key r = entries.Reply key r

-- one entry came, or an array
abbrev pub one : Entry → Happening
one e = came None (Single e)

abbrev pub array : List Entry → Happening
array es = came None (Batch es)

-- ---- what the host says

abbrev pub ask : Outgoing
ask = record { method = codes "ask"; params = None }

-- with params of one fraction and one number beyond every float
abbrev pub tell : Outgoing
tell = record { method = codes "tell"; params = Some (codes "[0.50,1e400]") }

-- the host answers a call with this result
abbrev pub gives : ℕ → List ℕ → Happening
gives number text = answered number (Some (answers.Result text))
