-- Worked rows of the end of the input.
use Rattle.std.proofs.Common.{◌≡◌, List, [], ◌∷◌, codes, Some, None, refl}
use Rattle.std.specs.Fmt.{digits}
use Rattle.json.specs.Print.{escape_byte}
use Rattle.connection_history.specs.declared.close.Close.TheVariants.{Clean, ReadFailed}
use Rattle.connection_history.specs.declared.event.Event.TheVariants as event
use Rattle.connection_history.specs.declared.order.Order.TheVariants.{AsAnswered}
use Rattle.connection_history.specs.declared.refused.Refused.TheVariants.{Over, NotOpen, NotWaiting}
use Rattle.connection_history.specs.History.{Happening, called, called_all, noticed, withdrew, ended}
use Rattle.connection_history.proofs.Rows.Words.{told, written, refused, add, request, reply, yes, one, ask, gives}
use Rattle.connection_messages.specs.declared.cancels.Cancels.TheVariants.{Lsp}

-- three calls are made, one has its reply, and the input ends
abbrev end : List Happening
end = one (request 7) ∷ called 1 ask ∷ called 0 ask ∷ called 1 ask ∷ one (reply 2 yes) ∷ ended Clean ∷ []

end_is_told : told end ≡ event.Call 1 (add 7) ∷ event.Replied 2 yes ∷ event.Unanswered 1 ∷ event.Unanswered 3 ∷ event.Over Clean ∷ []
end_is_told = refl

-- a call whose number was answered is not told to have no reply
end_after_the_answer : told (one (request 7) ∷ called 1 ask ∷ gives 1 (codes "1") ∷ ended ReadFailed ∷ []) ≡ event.Call 1 (add 7) ∷ event.Over ReadFailed ∷ []
end_after_the_answer = refl

nothing_comes_after_the_end : refused end (one (request 8)) ≡ Some Over
nothing_comes_after_the_end = refl

ends_once : refused end (ended Clean) ≡ Some Over
ends_once = refl

call_after_the_end : refused end (called 1 ask) ≡ Some Over
call_after_the_end = refl

own_call_after_the_end : refused end (called 0 ask) ≡ Some Over
own_call_after_the_end = refl

-- the number is looked at first, and the length of the batch last
call_for_no_number_after_the_end : refused end (called 2 ask) ≡ Some NotOpen
call_for_no_number_after_the_end = refl

no_calls_after_the_end : refused end (called_all 1 []) ≡ Some Over
no_calls_after_the_end = refl

withdrawal_after_the_end : refused end (withdrew Lsp 1) ≡ Some NotWaiting
withdrawal_after_the_end = refl

-- an open request may still be answered, and notifications go out
answer_after_the_end : refused end (gives 1 (codes "1")) ≡ None
answer_after_the_end = refl

notice_after_the_end : refused end (noticed ask) ≡ None
notice_after_the_end = refl

answer_after_the_end_is_written : written AsAnswered (one (request 7) ∷ ended Clean ∷ noticed ask ∷ gives 1 (codes "1") ∷ [])
    ≡ codes "{\"jsonrpc\":\"2.0\",\"method\":\"ask\"}" ∷ codes "{\"id\":7,\"jsonrpc\":\"2.0\",\"result\":1}" ∷ []
unfolding digits escape_byte
answer_after_the_end_is_written = refl
