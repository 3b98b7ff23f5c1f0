-- What an entry breaks by itself (JSON-RPC 2.0, sections 4 to 6; LSP and MCP where they differ), and what is kept of it.
use Rattle.std.specs.Prelude.{ℕ, ◌&&◌, ◌||◌, not, nat_le, nat_lt, ◌==◌, List, [], ◌∷◌, ◌++◌, map, take, Bool, true, false, Option, Some, None, option_map, option_and_then, if◌then◌else◌, codes}
use Rattle.std.specs.Option.{option_map_or}
use Rattle.std.specs.Str.{bytes_eq}
use Rattle.conversation_reading.specs.Numbers.{is_whole}
use Rattle.conversation_reading.specs.Wholes.{whole_of}
use Rattle.conversation_reading.specs.declared.entry.Entry.{Entry}
use Rattle.conversation_reading.specs.declared.entry.Faults.{Faults}
use Rattle.conversation_reading.specs.First.{First}
use Rattle.conversation_reading.specs.declared.entry.Kind.{Kind}
use Rattle.conversation_reading.specs.declared.entry.Kind.TheVariants.{Request, Notification, Answer, BrokenAnswer, Invalid}
use Rattle.conversation_reading.specs.declared.entry.There.{There}
use Rattle.conversation_reading.specs.declared.entry.WrittenId.{WrittenId}
use Rattle.conversation_reading.specs.declared.entry.WrittenId.TheVariants.{Null, Text, Number}
use Rattle.conversation_reading.specs.declared.whole.Whole.{Whole}
use Rattle.conversation_rules.specs.Amounts.{is_plain, is_null}
use Rattle.conversation_rules.specs.Dues.{owed_more, is_asked, cancelled_in}
use Rattle.conversation_rules.specs.Owed.{Due, has_twice, owed_on}
use Rattle.conversation_rules.specs.Protocols.{cancel_method, is_lsp, is_mcp, may_leave_ids_out, odd_id_level}
use Rattle.conversation_rules.specs.Speakers.{Speaker, found, found_if}
use Rattle.conversation_rules.specs.Used.{is_used, use_id, fills}
use Rattle.conversation_rules.specs.declared.finding.Finding.{Finding}
use Rattle.conversation_rules.specs.declared.finding.Message.{Message}
use Rattle.conversation_rules.specs.declared.finding.Rule.TheVariants as rules
use Rattle.conversation_rules.specs.declared.level.Level.{Level}
use Rattle.conversation_rules.specs.declared.level.Level.TheVariants.{Must, Should, Note}
use Rattle.conversation_rules.specs.declared.protocol.Protocol.{Protocol}

abbrev pub is_request : Kind → Bool
is_request Request = true
is_request Notification = false
is_request Answer = false
is_request BrokenAnswer = false
is_request Invalid = false

abbrev pub is_notification : Kind → Bool
is_notification Request = false
is_notification Notification = true
is_notification Answer = false
is_notification BrokenAnswer = false
is_notification Invalid = false

-- an answer that is one by all rules
abbrev pub is_well : Kind → Bool
is_well Request = false
is_well Notification = false
is_well Answer = true
is_well BrokenAnswer = false
is_well Invalid = false

-- an answer, broken or not
abbrev pub is_answer : Kind → Bool
is_answer Request = false
is_answer Notification = false
is_answer Answer = true
is_answer BrokenAnswer = true
is_answer Invalid = false

abbrev pub has_method : List ℕ → Entry → Bool
has_method method entry = option_map_or (bytes_eq method) entry.method false

-- ---- object, version, method, params, id, outcome, error: each rule by which it is no message

-- an error has no id where that of its request couldn't be read (MCP 2025-11-25, messages)
abbrev pub may_lack_id : Protocol → There → Bool
may_lack_id protocol there = may_leave_ids_out protocol && (there.error && not (there.id || there.result))

-- the id by which a single answer is looked for: such an error's is null
abbrev pub id_by : Option WrittenId → Bool → Option WrittenId
id_by (Some id) lacks = Some id
id_by None lacks = if lacks then Some Null else None

abbrev pub answer_id : Protocol → Entry → Option WrittenId
answer_id protocol entry = id_by entry.id (may_lack_id protocol entry.there)

abbrev pub fault_findings : Protocol → Message → ℕ → There → Faults → List Finding
fault_findings protocol message at there faults =
    found_if faults.object (found message at rules.Object Must) ++ found_if faults.version (found message at rules.Version Must)
    ++ found_if faults.method (found message at rules.Method Must) ++ found_if faults.params (found message at rules.Params Must)
    ++ found_if (faults.id && not (may_lack_id protocol there)) (found message at rules.Id Must) ++ found_if faults.outcome (found message at rules.Outcome Must)
    ++ found_if faults.error (found message at rules.Error Must)

-- ---- both-kinds: a request has a method, and an answer a result or an error (JSON-RPC 2.0, sections 4 and 5). With an id it
-- could be either; it is read as a request.

abbrev pub is_both : There → Bool
is_both there = there.method && (there.id && (there.result || there.error))

abbrev pub both_findings : Message → ℕ → Entry → List Finding
both_findings message at entry = found_if (is_both entry.there) (found message at rules.BothKinds Must)

-- ---- twice: the names of an object should be unique (RFC 8259, section 4). Of a message they are its members; the last counts.

abbrev pub twice_findings : Message → ℕ → Entry → List Finding
twice_findings message at entry = found_if (has_twice entry) (found message at rules.Twice Should)

-- ---- code: JSON-RPC 2.0, section 5.1; LSP 3.17, ErrorCodes

-- a whole number from -most to -least
abbrev pub is_between : ℕ → ℕ → Whole → Bool
is_between least most whole = whole.minus && nat_le least whole.size && nat_le whole.size most

abbrev pub is_reserved : Protocol → Whole → Bool
is_reserved protocol code = is_between 32000 32768 code || (is_lsp protocol && is_between 32800 32899 code)

abbrev pub is_defined : Protocol → Whole → Bool
is_defined protocol code = is_between 32700 32700 code || is_between 32600 32603 code || is_between 32000 32099 code || (is_lsp protocol && is_between 32800 32803 code)

abbrev pub is_undefined : Protocol → Whole → Bool
is_undefined protocol code = is_reserved protocol code && not (is_defined protocol code)

-- by its value, whatever it is written like
abbrev pub code_of : Entry → Option Whole
code_of entry = option_and_then whole_of entry.code

abbrev pub code_findings : Protocol → Message → ℕ → Entry → List Finding
code_findings protocol message at entry = found_if (is_well entry.kind && option_map_or (is_undefined protocol) (code_of entry) false) (found message at rules.Code Must)

-- ---- rpc-name: JSON-RPC 2.0, section 4

abbrev pub is_kept_name : List ℕ → Bool
is_kept_name method = bytes_eq (take 4 method) (codes "rpc.")

abbrev pub name_findings : Message → ℕ → Entry → List Finding
name_findings message at entry = found_if ((is_request entry.kind || is_notification entry.kind) && option_map_or is_kept_name entry.method false) (found message at rules.RpcName Note)

-- ---- cancels: LSP 3.17, cancellation; MCP, cancellation

abbrev pub is_cancel : Protocol → Entry → Bool
is_cancel protocol entry = is_notification entry.kind && option_map_or (λ method. has_method method entry) (cancel_method protocol) false

-- a content that couldn't be read may have been the request
abbrev pub unknown_level : Protocol → Speaker → Level
unknown_level protocol own = if is_mcp protocol && not own.has_unreadable then Must else Note

-- one that names no request where it may leave that out (MCP 2025-11-25, cancellation)
abbrev pub cancel_params_level : Protocol → Entry → Level
cancel_params_level protocol entry = if may_leave_ids_out protocol && entry.cancels_none then Note else Must

abbrev pub named_findings : Protocol → Message → ℕ → Speaker → WrittenId → List Finding
named_findings protocol message at own id =
    found_if (not (is_used id own.used) && not own.used.is_full) (found message at rules.CancelUnknown (unknown_level protocol own))
    ++ found_if (is_mcp protocol && is_used id own.initialize) (found message at rules.CancelInitialize Must)

-- the id that it names, if its params are a cancel's
abbrev pub target_findings : Protocol → Message → ℕ → Speaker → Level → Option WrittenId → List Finding
target_findings protocol message at own level None = found message at rules.CancelParams level ∷ []
target_findings protocol message at own level (Some id) = named_findings protocol message at own id

abbrev pub cancel_findings : Protocol → Message → ℕ → Speaker → Entry → List Finding
cancel_findings protocol message at own entry = if is_cancel protocol entry then target_findings protocol message at own (cancel_params_level protocol entry) entry.target else []

-- it reaches each open request with this id that stands before it, in the same batch too
abbrev pub cancelled_by : Protocol → Option WrittenId → List Due → List Due
cancelled_by protocol None owed = owed
cancelled_by protocol (Some id) owed = map (cancelled_in (is_mcp protocol) id) owed

abbrev pub owed_after_last : Protocol → Entry → List Due → List Due
owed_after_last protocol entry owed = if is_cancel protocol entry then cancelled_by protocol entry.target owed else owed

-- by the members that stand first it may be a cancel too
abbrev pub has_first_method : List ℕ → First → Bool
has_first_method method first = option_map_or (bytes_eq method) first.method false

abbrev pub is_first_cancel : Protocol → First → Bool
is_first_cancel protocol first = option_map_or (λ method. has_first_method method first) (cancel_method protocol) false

abbrev pub owed_after_first : Protocol → Option First → List Due → List Due
owed_after_first protocol None owed = owed
owed_after_first protocol (Some first) owed = if is_first_cancel protocol first then cancelled_by protocol first.target owed else owed

abbrev pub owed_after_cancel : Protocol → Entry → List Due → List Due
owed_after_cancel protocol entry owed = owed_after_first protocol entry.first (owed_after_last protocol entry owed)

-- a cancel by rules where its request may be left without an answer
abbrev pub may_leave : Protocol → Entry → Bool
may_leave protocol entry = is_mcp protocol && (is_cancel protocol entry || option_map_or (is_first_cancel protocol) entry.first false)

-- ---- params-object, result-object: MCP, messages. The params of a cancel have a rule of their own.

abbrev pub has_array_params : Protocol → Entry → Bool
has_array_params protocol entry = (is_request entry.kind || is_notification entry.kind) && (entry.array_params && not (is_cancel protocol entry))

abbrev pub object_findings : Protocol → Message → ℕ → Entry → List Finding
object_findings protocol message at entry =
    found_if (is_mcp protocol && has_array_params protocol entry) (found message at rules.ParamsObject Must)
    ++ found_if (is_mcp protocol && (is_well entry.kind && entry.bare_result)) (found message at rules.ResultObject Must)

-- ---- id-null, id-fraction, id-form, id-again: JSON-RPC 2.0, sections 4 and 6; LSP, Request Message; MCP, messages

abbrev pub number_findings : Protocol → Message → ℕ → List ℕ → List Finding
number_findings protocol message at number =
    if is_whole number then found_if (not (is_plain number)) (found message at rules.IdForm Note) else found message at rules.IdFraction (odd_id_level protocol) ∷ []

abbrev pub form_findings : Protocol → Message → ℕ → WrittenId → List Finding
form_findings protocol message at Null = found message at rules.IdNull (odd_id_level protocol) ∷ []
form_findings protocol message at (Text text) = []
form_findings protocol message at (Number number) = number_findings protocol message at number

-- in MCP an id that its side ever used, and else alone one that is open
abbrev pub again_findings : Protocol → Message → ℕ → Bool → Speaker → WrittenId → List Finding
again_findings protocol message at in_batch own id =
    if is_null id then []
    else (if is_mcp protocol then found_if (is_used id own.used) (found message at rules.IdAgain Must)
    else found_if (not in_batch && is_asked id own.owed) (found message at rules.IdAgain Note))

abbrev pub request_findings : Protocol → Message → ℕ → Bool → Speaker → WrittenId → List Finding
request_findings protocol message at in_batch own id = form_findings protocol message at id ++ again_findings protocol message at in_batch own id

abbrev pub id_findings : Protocol → Message → ℕ → Bool → Speaker → Entry → List Finding
id_findings protocol message at in_batch own entry = if is_request entry.kind then option_map_or (request_findings protocol message at in_batch own) entry.id [] else []

-- ---- ids that are used: of all that is no answer

abbrev pub id_used : Entry → Option WrittenId
id_used entry = if is_answer entry.kind then None else entry.id

abbrev pub fills_id : Entry → Speaker → Bool
fills_id entry own = option_map_or (λ id. fills id own.used) (id_used entry) false

abbrev pub full_findings : Message → ℕ → Speaker → Entry → List Finding
full_findings message at own entry = found_if (fills_id entry own) (found message at rules.NotJudged Note)

abbrev pub is_initialize : Protocol → Entry → Bool
is_initialize protocol entry = is_mcp protocol && has_method (codes "initialize") entry

abbrev pub with_id_of : Protocol → Entry → Speaker → Speaker
with_id_of protocol entry own = record own {
  used = option_map_or (λ id. use_id id own.used) (id_used entry) own.used;
  initialize = if is_initialize protocol entry then option_map_or (λ id. use_id id own.initialize) (id_used entry) own.initialize else own.initialize;
}

-- ---- all of an entry

abbrev pub part_findings : Protocol → Message → ℕ → Entry → List Finding
part_findings protocol message at entry = fault_findings protocol message at entry.there entry.faults ++ both_findings message at entry ++ twice_findings message at entry ++ code_findings protocol message at entry ++ name_findings message at entry ++ object_findings protocol message at entry

abbrev pub plain_findings : Protocol → Message → Bool → ℕ → Entry → Speaker → List Finding
plain_findings protocol message in_batch at entry own = part_findings protocol message at entry ++ cancel_findings protocol message at own entry ++ id_findings protocol message at in_batch own entry

abbrev pub entry_findings : Protocol → Message → Bool → ℕ → Entry → Speaker → List Finding
entry_findings protocol message in_batch at entry own = plain_findings protocol message in_batch at entry own ++ full_findings message at own entry

-- `exit`, or what may be read as it by the members that stand first
abbrev pub is_exit : Protocol → Entry → Bool
is_exit protocol entry = is_lsp protocol && ((is_notification entry.kind && has_method (codes "exit") entry) || option_map_or (has_first_method (codes "exit")) entry.first false)

-- what a notification says beside
abbrev pub with_notification : Protocol → Entry → Speaker → Speaker
with_notification protocol entry own = record own { owed = owed_after_cancel protocol entry own.owed; has_cancelled = own.has_cancelled || may_leave protocol entry; has_exited = own.has_exited || is_exit protocol entry }

-- what the other side owes on it
abbrev pub with_owed : Protocol → ℕ → Entry → Speaker → Speaker
with_owed protocol at entry own = record own { owed = option_map_or (λ owed. owed_more owed own.owed) (owed_on protocol at entry) own.owed }

abbrev pub behind_entry : Protocol → ℕ → Entry → Speaker → Speaker
behind_entry protocol at entry own = with_owed protocol at entry (with_notification protocol entry (with_id_of protocol entry own))
