-- Worked rows of cancels, by the other side and by the host.
use Rattle.std.proofs.Common.{◌≡◌, List, [], ◌∷◌, ◌++◌, codes, Some, refl, None}
use Rattle.std.specs.Fmt.{digits}
use Rattle.json.specs.Print.{escape_byte}
use Rattle.connection_messages.specs.declared.answer.Answer.TheVariants as answers
use Rattle.message_ids.specs.declared.standard.Standard.TheVariants.{Cancelled}
use Rattle.connection_history.specs.declared.close.Close.TheVariants.{Clean}
use Rattle.connection_messages.specs.Texts.{error_head, code_text, error_rest, error_end}
use Rattle.connection_history.specs.declared.event.Event.TheVariants as event
use Rattle.connection_history.specs.declared.order.Order.TheVariants.{AsAnswered}
use Rattle.connection_history.specs.declared.refused.Refused.TheVariants.{NotOpen}
use Rattle.connection_history.specs.History.{Happening, called, called_all, withdrew, answered, ended}
use Rattle.connection_history.specs.Refusals.{after, cancel_of}
use Rattle.connection_history.proofs.Rows.Words.{told, written, refused, add, request, notification, cancel, reply, yes, one, array, ask, gives}
use Rattle.connection_messages.specs.declared.cancels.Cancels.TheVariants.{Lsp}

-- ---- cancels that come

cancel_after_its_request : told (array (request 7 ∷ cancel 7 ∷ []) ∷ []) ≡ event.Call 1 (add 7) ∷ event.Cancelled 1 ∷ []
cancel_after_its_request = refl

cancel_before_its_request : told (array (cancel 7 ∷ request 7 ∷ []) ∷ []) ≡ event.Call 1 (add 7) ∷ []
cancel_before_its_request = refl

cancel_of_another_id : told (one (request 7) ∷ one (cancel 8) ∷ []) ≡ event.Call 1 (add 7) ∷ []
cancel_of_another_id = refl

cancel_of_answered : told (one (request 7) ∷ gives 1 (codes "1") ∷ one (cancel 7) ∷ []) ≡ event.Call 1 (add 7) ∷ []
cancel_of_answered = refl

-- each request with the id is told once, the earliest first
cancel_of_two : told (one (request 7) ∷ one (request 7) ∷ one (cancel 7) ∷ one (cancel 7) ∷ [])
    ≡ event.Call 1 (add 7) ∷ event.Call 2 (add 7) ∷ event.Cancelled 1 ∷ event.Cancelled 2 ∷ []
cancel_of_two = refl

-- a cancel reaches what an earlier one came too early for
cancel_again : told (one (request 7) ∷ one (cancel 7) ∷ one (request 7) ∷ one (cancel 7) ∷ [])
    ≡ event.Call 1 (add 7) ∷ event.Cancelled 1 ∷ event.Call 2 (add 7) ∷ event.Cancelled 2 ∷ []
cancel_again = refl

-- a cancel writes nothing, and a cancelled request still has its answer
cancelled_is_answered : written AsAnswered (one (request 7) ∷ one (cancel 7) ∷ gives 1 (codes "1") ∷ [])
    ≡ codes "{\"id\":7,\"jsonrpc\":\"2.0\",\"result\":1}" ∷ []
unfolding digits escape_byte
cancelled_is_answered = refl

-- ---- the host cancels

-- a request with two calls that wait, one that has its reply, one that is withdrawn, and one of the host's own
abbrev busy : List Happening
busy = one (request 7) ∷ called_all 1 (ask ∷ ask ∷ ask ∷ ask ∷ []) ∷ called 0 ask ∷ one (reply 2 yes) ∷ withdrew Lsp 3 ∷ []

abbrev cancelled : List Happening
cancelled = cancel_of (Some Lsp) 1 (after [] busy)

busy_is_cancelled : cancelled ≡ withdrew Lsp 1 ∷ withdrew Lsp 4 ∷ answered 1 (Some (answers.Standard Cancelled)) ∷ []
busy_is_cancelled = refl

busy_is_written : written AsAnswered (busy ++ cancelled)
    ≡ written AsAnswered busy
    ++ codes "{\"jsonrpc\":\"2.0\",\"method\":\"$/cancelRequest\",\"params\":{\"id\":1}}"
    ∷ codes "{\"jsonrpc\":\"2.0\",\"method\":\"$/cancelRequest\",\"params\":{\"id\":4}}"
    ∷ codes "{\"error\":{\"code\":-32800,\"message\":\"Request cancelled\"},\"id\":7,\"jsonrpc\":\"2.0\"}"
    ∷ []
unfolding digits escape_byte error_head code_text error_rest error_end
busy_is_written = refl

-- once the input is over, or without cancels, the request is only answered
cancelled_at_the_end : cancel_of (Some Lsp) 1 (ended Clean ∷ after [] busy) ≡ answered 1 (Some (answers.Standard Cancelled)) ∷ []
cancelled_at_the_end = refl

cancelled_without_cancels : cancel_of None 1 (after [] busy) ≡ answered 1 (Some (answers.Standard Cancelled)) ∷ []
cancelled_without_cancels = refl

-- a notification is closed
notification_is_cancelled : written AsAnswered (one notification ∷ answered 1 (Some (answers.Standard Cancelled)) ∷ []) ≡ []
notification_is_cancelled = refl

zero_is_never_cancelled : refused busy (answered 0 (Some (answers.Standard Cancelled))) ≡ Some NotOpen
zero_is_never_cancelled = refl
