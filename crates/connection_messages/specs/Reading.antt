-- What a content is (JSON-RPC 2.0, sections 4 to 6), and what a cancel names (LSP 3.17, "Cancellation Support"; MCP 2025-06-18,
-- "Cancellation").
use Rattle.std.specs.Prelude.{ℕ, ◌==◌, ◌&&◌, ◌||◌, nat_lt, List, [], ◌∷◌, length, Bool, true, false, Option, Some, None, option_map, option_and_then, is_some, codes, if◌then◌else◌, ℤ, negsuc}
use Rattle.std.specs.Option.{option_map_or, is_none}
use Rattle.std.specs.Str.{bytes_eq}
use Rattle.json.specs.Json.{Json, null, number, string, array, object, Items, no_items, item}
use Rattle.json.specs.Find.{get, as_str, as_number}
use Rattle.json_texts.specs.Texts.{json_text, value_of}
use Rattle.message_ids.specs.declared.id.Id.{Id}
use Rattle.message_ids.specs.declared.id.Id.TheVariants.{Null, Text, Signed, Unsigned}
use Rattle.connection_messages.specs.Numbers.{unsigned_of, negative_of, integer_of}
use Rattle.connection_messages.specs.declared.call.Call.{Call as Came}
use Rattle.connection_messages.specs.declared.cancels.Cancels.{Cancels}
use Rattle.connection_messages.specs.declared.cancels.Cancels.TheVariants.{Lsp, Mcp}
use Rattle.connection_messages.specs.declared.entry.Entry.{Entry}
use Rattle.connection_messages.specs.declared.entry.Entry.TheVariants.{Call, Cancel, Reply, Stray, Invalid}
use Rattle.connection_messages.specs.declared.read.unit.TheConstants.{MOST_DEPTH_IN}
use Rattle.connection_messages.specs.declared.reply.Reply.{Reply as Replied}
use Rattle.connection_messages.specs.declared.reply.Reply.TheVariants.{Result, Error}
use Rattle.connection_messages.specs.declared.rules.Rules.{Rules}
use Rattle.connection_messages.specs.declared.unit.Unit.{Unit as Units}
use Rattle.connection_messages.specs.declared.unit.Unit.TheVariants.{Unreadable, Single, Batch}

-- ---- members

-- null counts as absent
abbrev pub unless_null : Option Json → Option Json
unless_null (Some null) = None
unless_null member = member

-- section 4: the member `jsonrpc` is exactly "2.0"
abbrev pub is_version_2 : Json → Bool
is_version_2 j = option_map_or (bytes_eq (codes "2.0")) (option_and_then as_str (get (codes "jsonrpc") j)) false

-- a whole number as an id, which is one of u64, or one of i64 below 0
abbrev pub signed_id : Option ℤ → Option Id
signed_id None = None
signed_id (Some z) = Some (Signed z)

abbrev pub number_id_of : Option ℕ → Option ℤ → Option Id
number_id_of (Some n) negative = Some (Unsigned n)
number_id_of None negative = signed_id negative

abbrev pub number_id : List ℕ → Option Id
number_id s = number_id_of (unsigned_of s) (negative_of s)

-- section 4: an id is a string, a whole number or null
abbrev pub id_of : Json → Option Id
id_of null = Some Null
id_of (number s) = number_id s
id_of (string s) = Some (Text s)
id_of _ = None

-- section 4.1: a call without the member `id` is a notification
abbrev pub call_id : Option Json → Option (Option Id)
call_id None = Some None
call_id (Some j) = option_map Some (id_of j)

-- section 4.2: `params` may be omitted, and is an array or an object. Null counts as omitted, or is told as null where that is
-- asked for.
abbrev pub null_params : Bool → Option (List ℕ)
null_params told = if told then Some (codes "null") else None

abbrev pub call_params : Bool → Option Json → Option (Option (List ℕ))
call_params told None = Some None
call_params told (Some null) = Some (null_params told)
call_params told (Some (array js)) = Some (Some (json_text (array js)))
call_params told (Some (object ms)) = Some (Some (json_text (object ms)))
call_params told (Some _) = None

-- ---- calls and cancels

-- a call has the version, a string as its method, and params and an id as said
abbrev pub call_from : Bool → Option (List ℕ) → Option (Option (List ℕ)) → Option (Option Id) → Option Came
call_from true (Some method) (Some params) (Some id) = Some (record { id = id; method = method; params = params })
call_from _ _ _ _ = None

abbrev pub call_in : Bool → Json → Option Came
call_in told j = call_from (is_version_2 j) (option_and_then as_str (get (codes "method") j)) (call_params told (get (codes "params") j)) (call_id (get (codes "id") j))

-- LSP: a notification `$/cancelRequest`, whose params name a request by `id`;
-- MCP: a notification `notifications/cancelled`, whose params name it by `requestId`
abbrev pub cancel_method : Cancels → List ℕ
cancel_method Lsp = codes "$/cancelRequest"
cancel_method Mcp = codes "notifications/cancelled"

abbrev pub cancel_member : Cancels → List ℕ
cancel_member Lsp = codes "id"
cancel_member Mcp = codes "requestId"

-- LSP and MCP: the id to cancel is a string or an integer
abbrev pub cancelled_id : Json → Option Id
cancelled_id (number s) = number_id s
cancelled_id (string s) = Some (Text s)
cancelled_id _ = None

-- the id that the params name
abbrev pub target_in : Cancels → Json → Option Id
target_in by j = option_and_then (λ params. option_and_then cancelled_id (get (cancel_member by) params)) (get (codes "params") j)

-- such a notification with such an id is a cancel
abbrev pub is_cancel : Cancels → Came → Bool
is_cancel by c = is_none c.id && bytes_eq c.method (cancel_method by)

abbrev pub cancel_or_call : Cancels → Came → Option Id → Entry
cancel_or_call by c None = Call c
cancel_or_call by c (Some target) = if is_cancel by c then Cancel target else Call c

-- without cancels, what would be one is a call
abbrev pub call_entry : Option Cancels → Option Came → Json → Entry
call_entry cancels None j = Invalid
call_entry None (Some c) j = Call c
call_entry (Some by) (Some c) j = cancel_or_call by c (target_in by j)

-- ---- replies

-- a reply that is none
abbrev pub invalid_reply : Replied
invalid_reply = Error (record { code = negsuc 32602; message = codes "Invalid reply"; «data» = None })

-- section 5.1: an error has a whole number as its code and a string as its message, and may have data
abbrev pub error_from : Option ℤ → Option (List ℕ) → Option (List ℕ) → Replied
error_from (Some c) (Some m) extra = Error (record { code = c; message = m; «data» = extra })
error_from _ _ _ = invalid_reply

abbrev pub error_in : Json → Replied
error_in j =
    error_from (option_and_then integer_of (option_and_then as_number (get (codes "code") j))) (option_and_then as_str (get (codes "message") j))
    (option_map json_text (get (codes "data") j))

-- section 5: either an error or a result, and not both
abbrev pub outcome_of : Option Json → Option Json → Replied
outcome_of None None = invalid_reply
outcome_of None (Some result) = Result (json_text result)
outcome_of (Some error) result = if is_some (unless_null result) then invalid_reply else error_in error

abbrev pub reply_in : Json → Replied
reply_in j = if is_version_2 j then outcome_of (unless_null (get (codes "error") j)) (get (codes "result") j) else invalid_reply

-- our calls have whole numbers from 1 on as their ids
abbrev pub own_key : Option ℕ → Option ℕ
own_key None = None
own_key (Some k) = if k == 0 then None else Some k

abbrev pub key_in : Json → Option ℕ
key_in j = own_key (option_and_then unsigned_of (option_and_then as_number (get (codes "id") j)))

abbrev pub reply_entry : Option ℕ → Replied → Entry
reply_entry None r = Stray
reply_entry (Some k) r = Reply k r

-- ---- entries and units

-- What has a member `method` is a call or invalid; what has `result` or `error` is a reply; anything else is invalid.
abbrev pub entry_of : Rules → Json → Entry
entry_of rules j =
    if is_some (get (codes "method") j) then call_entry rules.cancels (call_in rules.null_params j) j
    else (if is_some (get (codes "result") j) || is_some (get (codes "error") j) then reply_entry (key_in j) (reply_in j) else Invalid)

abbrev pub entries_of : Rules → Items → List Entry
entries_of rules no_items = []
entries_of rules (item j js) = entry_of rules j ∷ entries_of rules js

-- section 6: an empty array is no batch, but one invalid entry
abbrev pub batch_of : List Entry → Units
batch_of [] = Single Invalid
batch_of (e ∷ es) = Batch (e ∷ es)

-- whether so many are more than a batch may have
abbrev pub are_too_many : Option ℕ → ℕ → Bool
are_too_many None n = false
are_too_many (Some most) n = nat_lt most n

-- a batch of too many entries is one invalid entry too
abbrev pub batch_within : Option ℕ → List Entry → Units
batch_within most es = if are_too_many most (length es) then Single Invalid else batch_of es

abbrev pub value_unit : Rules → Json → Units
value_unit rules (array js) = batch_within rules.most_entries (entries_of rules js)
value_unit rules j = Single (entry_of rules j)

abbrev pub unit_of_reading : Rules → Option Json → Units
unit_of_reading rules None = Unreadable
unit_of_reading rules (Some j) = value_unit rules j

-- The content of a foreign frame, and one that is no JSON of at most 127 levels, are unreadable. The truth value says whether
-- the frame is foreign.
abbrev pub unit_of : Rules → Bool → List ℕ → Units
unit_of rules true content = Unreadable
unit_of rules false content = unit_of_reading rules (value_of MOST_DEPTH_IN content)
