-- Worked rows of a conversation with MCP's cancels.
use Rattle.std.proofs.Common.{◌≡◌, List, [], ◌∷◌, ◌++◌, codes, Option, Some, None, true, refl}
use Rattle.std.specs.Fmt.{digits}
use Rattle.json.specs.Print.{escape_byte}
use Rattle.message_ids.specs.declared.standard.Standard.TheVariants.{Cancelled}
use Rattle.connection_messages.specs.declared.answer.Answer.TheVariants as answers
use Rattle.connection_messages.specs.declared.cancels.Cancels.TheVariants.{Lsp, Mcp}
use Rattle.connection_history.specs.declared.close.Close.TheVariants.{Clean}
use Rattle.connection_history.specs.declared.event.Event.TheVariants as event
use Rattle.connection_history.specs.declared.order.Order.TheVariants.{AsAnswered, AsCame}
use Rattle.connection_history.specs.declared.refused.Refused.{Refused}
use Rattle.connection_history.specs.declared.refused.Refused.TheVariants.{NotOpen, NotWaiting, Empty}
use Rattle.connection_history.specs.History.{Happening, called, called_all, withdrew, answered, ended, is_waiting}
use Rattle.connection_history.specs.Refusals.{after, refusal, cancel_of}
use Rattle.connection_history.proofs.Rows.Counts.{counts}
use Rattle.connection_history.proofs.Rows.Words.{told, written, add, request, notification, cancel, reply, yes, one, array, ask, gives}

-- why something is refused after a row
abbrev refused : List Happening → Happening → Option Refused
refused happened h = refusal (Some Mcp) (after [] happened) h

-- ---- a request whose cancel came is closed without an answer

abbrev cancelled : List Happening
cancelled = one (request 7) ∷ one (cancel 7) ∷ []

cancelled_is_told : told cancelled ≡ event.Call 1 (add 7) ∷ event.Cancelled 1 ∷ []
cancelled_is_told = refl

cancelled_is_left : cancel_of (Some Mcp) 1 (after [] cancelled) ≡ answered 1 None ∷ []
cancelled_is_left = refl

left_writes_nothing : written AsAnswered (cancelled ++ answered 1 None ∷ []) ≡ []
left_writes_nothing = refl

left_isnt_counted : counts AsAnswered (cancelled ++ answered 1 None ∷ []) ≡ 1 ∷ 1 ∷ 0 ∷ 0 ∷ 0 ∷ 0 ∷ 0 ∷ 0 ∷ 0 ∷ []
left_isnt_counted = refl

left_twice : refused (cancelled ++ answered 1 None ∷ []) (answered 1 None) ≡ Some NotOpen
left_twice = refl

-- the host may answer it all the same
cancelled_may_be_answered : refused cancelled (gives 1 (codes "1")) ≡ None
cancelled_may_be_answered = refl

cancelled_is_answered : written AsAnswered (cancelled ++ gives 1 (codes "1") ∷ []) ≡ codes "{\"id\":7,\"jsonrpc\":\"2.0\",\"result\":1}" ∷ []
unfolding digits escape_byte
cancelled_is_answered = refl

-- ---- without its cancel it is answered

not_cancelled_by_host : cancel_of (Some Mcp) 1 (after [] (one (request 7) ∷ [])) ≡ answered 1 (Some (answers.Standard Cancelled)) ∷ []
not_cancelled_by_host = refl

nothing_for_a_request : refused (one (request 7) ∷ []) (answered 1 None) ≡ Some Empty
nothing_for_a_request = refl

nothing_for_another : refused (one (request 7) ∷ one (request 8) ∷ one (cancel 7) ∷ []) (answered 2 None) ≡ Some Empty
nothing_for_another = refl

nothing_for_a_notification : refused (one notification ∷ []) (answered 1 None) ≡ Some Empty
nothing_for_a_notification = refl

nothing_for_lsp : refusal (Some Lsp) (after [] cancelled) (answered 1 None) ≡ Some Empty
nothing_for_lsp = refl

nothing_without_cancels : refusal None (after [] cancelled) (answered 1 None) ≡ Some Empty
nothing_without_cancels = refl

-- ---- in a batch

-- its entry is left out
left_out_of_a_batch : written AsAnswered (array (request 7 ∷ request 8 ∷ []) ∷ one (cancel 7) ∷ answered 1 None ∷ gives 2 (codes "2") ∷ [])
    ≡ codes "[{\"id\":8,\"jsonrpc\":\"2.0\",\"result\":2}]" ∷ []
unfolding digits escape_byte
left_out_of_a_batch = refl

-- a batch of which nothing is left writes nothing
whole_batch_left : written AsAnswered (array (request 7 ∷ request 8 ∷ []) ∷ one (cancel 7) ∷ one (cancel 8) ∷ answered 1 None ∷ answered 2 None ∷ []) ≡ []
whole_batch_left = refl

-- as they came, what comes behind it goes out
passed_as_came : written AsCame (one (request 7) ∷ one (request 8) ∷ gives 2 (codes "2") ∷ one (cancel 7) ∷ answered 1 None ∷ [])
    ≡ codes "{\"id\":8,\"jsonrpc\":\"2.0\",\"result\":2}" ∷ []
unfolding digits escape_byte
passed_as_came = refl

held_as_came : written AsCame (one (request 7) ∷ one (request 8) ∷ gives 2 (codes "2") ∷ one (cancel 7) ∷ []) ≡ []
held_as_came = refl

-- ---- calls that are withdrawn

abbrev withdrawn : List Happening
withdrawn = called 0 ask ∷ withdrew Mcp 1 ∷ []

withdrawal_is_written : written AsAnswered withdrawn
    ≡ codes "{\"id\":1,\"jsonrpc\":\"2.0\",\"method\":\"ask\"}"
    ∷ codes "{\"jsonrpc\":\"2.0\",\"method\":\"notifications/cancelled\",\"params\":{\"requestId\":1}}" ∷ []
unfolding digits escape_byte
withdrawal_is_written = refl

-- it waits no longer: its reply is ignored, and it isn't told at the end
withdrawn_reply : told (withdrawn ++ one (reply 1 yes) ∷ []) ≡ []
withdrawn_reply = refl

withdrawn_reply_is_ignored : counts AsAnswered (withdrawn ++ one (reply 1 yes) ∷ []) ≡ 0 ∷ 0 ∷ 0 ∷ 0 ∷ 1 ∷ 0 ∷ 0 ∷ 0 ∷ 1 ∷ []
withdrawn_reply_is_ignored = refl

withdrawn_at_the_end : told (withdrawn ++ called 0 ask ∷ ended Clean ∷ []) ≡ event.Unanswered 2 ∷ event.Over Clean ∷ []
withdrawn_at_the_end = refl

withdrawn_twice : refused withdrawn (withdrew Mcp 1) ≡ Some NotWaiting
withdrawn_twice = refl

-- the others wait on
others_wait : told (called_all 0 (ask ∷ ask ∷ []) ∷ withdrew Mcp 1 ∷ one (reply 2 yes) ∷ []) ≡ event.Replied 2 yes ∷ []
others_wait = refl

-- a withdrawal before its call has no effect
withdrawn_before : is_waiting 1 (after [] (withdrew Mcp 1 ∷ called 0 ask ∷ [])) ≡ true
withdrawn_before = refl

-- the notification is the conversation's own
by_the_other_name : refused (called 0 ask ∷ []) (withdrew Lsp 1) ≡ Some NotWaiting
by_the_other_name = refl

by_its_name : refused (called 0 ask ∷ []) (withdrew Mcp 1) ≡ None
by_its_name = refl

-- a cancel withdraws the calls that were made for the request
cancel_withdraws : cancel_of (Some Mcp) 1 (after [] (one (request 7) ∷ called 1 ask ∷ one (cancel 7) ∷ called 0 ask ∷ [])) ≡ withdrew Mcp 1 ∷ answered 1 None ∷ []
cancel_withdraws = refl
