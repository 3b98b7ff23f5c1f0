-- What one JSON value is: a call, a reply to a call of ours, or neither (JSON-RPC 2.0, sections 4 to 6).
use Rattle.std.specs.Prelude.{ℕ, ◌||◌, Option, Some, None, option_and_then, is_some, if◌then◌else◌}
use Rattle.std.specs.Arc.{arc_value}
use Rattle.serde_json.specs.Data.{Data, object}
use Rattle.serde_json.specs.Find.{as_str}
use Rattle.rpc_messages.specs.Key.{key_of}
use Rattle.rpc_messages.specs.Call.{call_in}
use Rattle.rpc_messages.specs.Answered.{reply_in}
use Rattle.rpc_messages.specs.Envelope.{SeenEnvelope, envelope_of}
use Rattle.rpc_messages.specs.declared.call.Call.{Call}
use Rattle.rpc_messages.specs.declared.entry.Entry.{Entry}
use Rattle.rpc_messages.specs.declared.entry.Entry.TheVariants as entry
use Rattle.rpc_messages.specs.declared.reply.Reply.{Reply}

-- An entry: a call; a reply, with the number of the handler whose call it answers and that call's turn; a reply to no call of
-- ours; anything else.
pub data SeenEntry : Type 0 where
  call : Call → SeenEntry
  reply : ℕ → ℕ → Reply → SeenEntry
  stray : SeenEntry
  invalid : SeenEntry

-- what an `Entry` holds, wherever its call or its reply lies in memory
abbrev pub entry_seen : Entry → SeenEntry
entry_seen (entry.Call c) = call (arc_value c)
entry_seen (entry.Reply n t r) = reply n t r.value
entry_seen entry.Stray = stray
entry_seen entry.Invalid = invalid

abbrev pub call_or_invalid : Option Call → SeenEntry
call_or_invalid None = invalid
call_or_invalid (Some c) = call c

abbrev pub reply_or_stray : Option (ℕ × ℕ) → Reply → SeenEntry
reply_or_stray None r = stray
reply_or_stray (Some key) r = reply key.0 key.1 r

-- a reply has the key of a call of ours as its id
abbrev pub reply_key : SeenEnvelope → Option (ℕ × ℕ)
reply_key e = option_and_then key_of (option_and_then as_str e.id)

-- an object with a member `method` is a call or invalid; one with `result` or `error` is a reply; any other is invalid
abbrev pub message_in : SeenEnvelope → SeenEntry
message_in e =
    if is_some e.method then call_or_invalid (call_in e) else (if is_some e.result || is_some e.error then reply_or_stray (reply_key e) (reply_in e) else invalid)

abbrev pub entry_of : Data → SeenEntry
entry_of (object ms) = message_in (envelope_of ms)
entry_of _ = invalid
