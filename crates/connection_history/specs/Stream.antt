-- The entries of units, and the calls among them (JSON-RPC 2.0, sections 4 to 6).
use Rattle.std.specs.Prelude.{ℕ, zero, suc, ◌-◌, ◌==◌, ◌||◌, List, [], ◌∷◌, ◌++◌, Bool, true, false, slice_get, Option, Some, None, option_and_then, if◌then◌else◌}
use Rattle.message_ids.specs.Ids.{has_id}
use Rattle.message_ids.specs.declared.id.Id.{Id}
use Rattle.connection_messages.specs.declared.call.Call.{Call as Came}
use Rattle.connection_messages.specs.declared.entry.Entry.{Entry}
use Rattle.connection_messages.specs.declared.entry.Entry.TheVariants.{Call, Cancel, Reply, Stray, Invalid}
use Rattle.connection_messages.specs.declared.reply.Reply.{Reply as Replied}
use Rattle.connection_messages.specs.declared.unit.Unit.{Unit}
use Rattle.connection_messages.specs.declared.unit.Unit.TheVariants.{Unreadable, Single, Batch}

-- the entries of a unit, in their order
abbrev pub entries_in : Unit → List Entry
entries_in Unreadable = []
entries_in (Single e) = e ∷ []
entries_in (Batch es) = es

-- the entries of units, in the order of the stream
abbrev pub entries_along : List Unit → List Entry
entries_along [] = []
entries_along (u ∷ us) = entries_in u ++ entries_along us

abbrev pub is_invalid : Entry → Bool
is_invalid (Call c) = false
is_invalid (Cancel id) = false
is_invalid (Reply k r) = false
is_invalid Stray = false
is_invalid Invalid = true

-- the calls among entries; in this order they have the numbers 1, 2, ..
abbrev pub call_in : Entry → List Came
call_in (Call c) = c ∷ []
call_in (Cancel id) = []
call_in (Reply k r) = []
call_in Stray = []
call_in Invalid = []

abbrev pub calls_in : List Entry → List Came
calls_in [] = []
calls_in (e ∷ es) = call_in e ++ calls_in es

-- the call that has the number n
abbrev pub call_numbered : ℕ → List Entry → Option Came
call_numbered zero es = None
call_numbered (suc n) es = slice_get (calls_in es) n

-- the id of the request with the number n; a notification has none
abbrev pub request_id : ℕ → List Entry → Option Id
request_id n es = option_and_then (λ c. c.id) (call_numbered n es)

-- the first reply with the key k
abbrev pub first_reply : ℕ → List Entry → Option Replied
first_reply k [] = None
first_reply k (Call c ∷ es) = first_reply k es
first_reply k (Cancel id ∷ es) = first_reply k es
first_reply k (Reply j r ∷ es) = if j == k then Some r else first_reply k es
first_reply k (Stray ∷ es) = first_reply k es
first_reply k (Invalid ∷ es) = first_reply k es

-- what stands after call n; nothing where there is no such call
abbrev pub after_call : ℕ → List Entry → List Entry
after_call n [] = []
after_call n (Call c ∷ es) = if n == 1 then es else after_call (n - 1) es
after_call n (Cancel id ∷ es) = after_call n es
after_call n (Reply k r ∷ es) = after_call n es
after_call n (Stray ∷ es) = after_call n es
after_call n (Invalid ∷ es) = after_call n es

-- whether one of the entries cancels requests with this id
abbrev pub cancels : Option Id → List Entry → Bool
cancels id [] = false
cancels id (Call c ∷ es) = cancels id es
cancels id (Cancel target ∷ es) = has_id target id || cancels id es
cancels id (Reply k r ∷ es) = cancels id es
cancels id (Stray ∷ es) = cancels id es
cancels id (Invalid ∷ es) = cancels id es

-- A cancel reaches the requests with its id that stand before it (LSP 3.17, "Cancellation Support"; MCP 2025-06-18,
-- "Cancellation").
abbrev pub is_cancelled : ℕ → List Entry → Bool
is_cancelled n es = cancels (request_id n es) (after_call n es)
