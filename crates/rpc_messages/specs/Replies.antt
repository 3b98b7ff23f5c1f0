-- The reply that each call of ours gets.
use Rattle.std.specs.Prelude.{ℕ, zero, suc, ◌==◌, ◌&&◌, List, [], ◌∷◌, ◌++◌, slice_get, Option, Some, None, unwrap_or, if◌then◌else◌}
use Rattle.rpc_messages.specs.Entry.{SeenEntry, call, reply, stray, invalid}
use Rattle.rpc_messages.specs.Numbering.{entries_in}
use Rattle.rpc_messages.specs.Unit.{SeenUnit}
use Rattle.rpc_messages.specs.declared.call.Call.{Call}
use Rattle.rpc_messages.specs.declared.reply.Reply.{Reply}
use Rattle.rpc_messages.specs.declared.reply.Reply.TheVariants.{Standard}
use Rattle.message_ids.specs.declared.standard.Standard.TheVariants.{NoReply}

-- the entries of units, in the order of the stream
abbrev pub entries_along : List SeenUnit → List SeenEntry
entries_along [] = []
entries_along (u ∷ us) = entries_in u ++ entries_along us

-- the calls among entries; in this order they have the numbers 1, 2, ..
abbrev pub calls_in : List SeenEntry → List Call
calls_in [] = []
calls_in (call c ∷ es) = c ∷ calls_in es
calls_in (reply n t r ∷ es) = calls_in es
calls_in (stray ∷ es) = calls_in es
calls_in (invalid ∷ es) = calls_in es

-- the call that has the number n
abbrev pub call_numbered : ℕ → List SeenEntry → Option Call
call_numbered zero es = None
call_numbered (suc n) es = slice_get (calls_in es) n

-- what stands after call n: all of the entries where n is 0, and nothing where there is no such call
abbrev pub after_call : ℕ → List SeenEntry → List SeenEntry
after_call zero es = es
after_call (suc n) [] = []
after_call (suc n) (call c ∷ es) = after_call n es
after_call (suc n) (reply m t r ∷ es) = after_call (suc n) es
after_call (suc n) (stray ∷ es) = after_call (suc n) es
after_call (suc n) (invalid ∷ es) = after_call (suc n) es

-- the first reply with the key of call t of handler n
abbrev pub first_reply : ℕ → ℕ → List SeenEntry → Option Reply
first_reply n t [] = None
first_reply n t (call c ∷ es) = first_reply n t es
first_reply n t (reply m u r ∷ es) = if (m == n) && (u == t) then Some r else first_reply n t es
first_reply n t (stray ∷ es) = first_reply n t es
first_reply n t (invalid ∷ es) = first_reply n t es

-- The reply to call t of handler n is the first that stands after call entry n, whether or not ours was made by then.
abbrev pub reply_to : ℕ → ℕ → List SeenEntry → Option Reply
reply_to n t es = first_reply n t (after_call n es)

-- what each call of handler n is answered in the end
abbrev pub replies : List SeenEntry → ℕ → ℕ → Reply
replies es n t = unwrap_or (reply_to n t es) (Standard NoReply)
