-- Worked rows of calls of ours and their replies.
use Rattle.std.proofs.Common.{◌≡◌, List, [], ◌∷◌, ◌++◌, codes, Some, None, refl}
use Rattle.std.specs.Fmt.{digits}
use Rattle.json.specs.Print.{escape_byte}
use Rattle.connection_history.specs.declared.event.Event.TheVariants as event
use Rattle.connection_history.specs.declared.order.Order.TheVariants.{AsAnswered, AsCame}
use Rattle.connection_history.specs.declared.refused.Refused.TheVariants.{NotOpen, NotWaiting, Empty}
use Rattle.connection_history.specs.History.{Happening, called, called_all, noticed, withdrew}
use Rattle.connection_history.specs.Refusals.{after, refusal}
use Rattle.connection_history.proofs.Rows.Words.{told, written, refused, add, request, reply, yes, no, one, array, ask, tell, gives}
use Rattle.connection_messages.specs.declared.cancels.Cancels.TheVariants.{Lsp}

-- ---- a call back

-- a request asks back, the reply comes, and the request is answered
abbrev call_back : List Happening
call_back = one (request 7) ∷ called 1 ask ∷ one (reply 1 yes) ∷ gives 1 (codes "1") ∷ []

call_back_is_told : told call_back ≡ event.Call 1 (add 7) ∷ event.Replied 1 yes ∷ []
call_back_is_told = refl

call_back_is_written : written AsCame call_back
    ≡ codes "{\"id\":1,\"jsonrpc\":\"2.0\",\"method\":\"ask\"}" ∷ codes "{\"id\":7,\"jsonrpc\":\"2.0\",\"result\":1}" ∷ []
unfolding digits escape_byte
call_back_is_written = refl

-- a reply that comes before its call is ignored, and the one after it is told
reply_before_its_call : told (one (reply 1 no) ∷ called 0 ask ∷ one (reply 1 yes) ∷ []) ≡ event.Replied 1 yes ∷ []
reply_before_its_call = refl

-- of two replies the first is told, also within an array
double_reply : told (called 0 ask ∷ one (reply 1 yes) ∷ one (reply 1 no) ∷ []) ≡ event.Replied 1 yes ∷ []
double_reply = refl

double_reply_in_array : told (called 0 ask ∷ array (reply 1 yes ∷ reply 1 no ∷ []) ∷ []) ≡ event.Replied 1 yes ∷ []
double_reply_in_array = refl

-- A number is answered while its call waits. The reply that comes later isn't told, and the call waits no longer.
abbrev answered_early : List Happening
answered_early = one (request 7) ∷ called 1 ask ∷ gives 1 (codes "1") ∷ []

late_reply : told (answered_early ++ one (reply 1 yes) ∷ []) ≡ event.Call 1 (add 7) ∷ []
late_reply = refl

withdrawn_too_late : refused answered_early (withdrew Lsp 1) ≡ Some NotWaiting
withdrawn_too_late = refl

called_too_late : refused answered_early (called 1 ask) ≡ Some NotOpen
called_too_late = refl

-- ---- the host's own calls

own_calls : written AsAnswered (called 0 ask ∷ noticed tell ∷ called 0 tell ∷ [])
    ≡ codes "{\"id\":1,\"jsonrpc\":\"2.0\",\"method\":\"ask\"}"
    ∷ codes "{\"jsonrpc\":\"2.0\",\"method\":\"tell\",\"params\":[0.50,1e400]}"
    ∷ codes "{\"id\":2,\"jsonrpc\":\"2.0\",\"method\":\"tell\",\"params\":[0.50,1e400]}"
    ∷ []
unfolding digits escape_byte
own_calls = refl

call_for_an_unknown_number : refused (one (request 7) ∷ []) (called 2 ask) ≡ Some NotOpen
call_for_an_unknown_number = refl

-- ---- several calls in one array

-- their keys go up in order, and their replies may come singly and in any array
abbrev several : List Happening
several = called 0 ask ∷ called_all 0 (ask ∷ tell ∷ []) ∷ array (reply 3 no ∷ []) ∷ one (reply 2 yes) ∷ []

several_are_written : written AsAnswered several
    ≡ codes "{\"id\":1,\"jsonrpc\":\"2.0\",\"method\":\"ask\"}"
    ∷ (codes "[{\"id\":2,\"jsonrpc\":\"2.0\",\"method\":\"ask\"}," ++ codes "{\"id\":3,\"jsonrpc\":\"2.0\",\"method\":\"tell\",\"params\":[0.50,1e400]}]")
    ∷ []
unfolding digits escape_byte
several_are_written = refl

several_replies : told several ≡ event.Replied 3 no ∷ event.Replied 2 yes ∷ []
several_replies = refl

array_of_one : written AsAnswered (called_all 0 (ask ∷ []) ∷ []) ≡ codes "[{\"id\":1,\"jsonrpc\":\"2.0\",\"method\":\"ask\"}]" ∷ []
unfolding digits escape_byte
array_of_one = refl

array_of_none : refused [] (called_all 0 []) ≡ Some Empty
array_of_none = refl

-- the number is looked at first
array_of_none_for_no_call : refused [] (called_all 1 []) ≡ Some NotOpen
array_of_none_for_no_call = refl

-- ---- calls that are withdrawn

-- a withdrawn call still waits, and its reply is told
abbrev withdrawn : List Happening
withdrawn = called 0 ask ∷ withdrew Lsp 1 ∷ []

withdrawal_is_written : written AsAnswered withdrawn
    ≡ codes "{\"id\":1,\"jsonrpc\":\"2.0\",\"method\":\"ask\"}" ∷ codes "{\"jsonrpc\":\"2.0\",\"method\":\"$/cancelRequest\",\"params\":{\"id\":1}}" ∷ []
unfolding digits escape_byte
withdrawal_is_written = refl

reply_to_withdrawn : told (withdrawn ++ one (reply 1 yes) ∷ []) ≡ event.Replied 1 yes ∷ []
reply_to_withdrawn = refl

withdrawn_twice : refused withdrawn (withdrew Lsp 1) ≡ Some NotWaiting
withdrawn_twice = refl

withdrawn_after_its_reply : refused (called 0 ask ∷ one (reply 1 yes) ∷ []) (withdrew Lsp 1) ≡ Some NotWaiting
withdrawn_after_its_reply = refl

withdrawn_unknown : refused withdrawn (withdrew Lsp 2) ≡ Some NotWaiting
withdrawn_unknown = refl

withdrawal_without_cancels : refusal None (after [] (called 0 ask ∷ [])) (withdrew Lsp 1) ≡ Some NotWaiting
withdrawal_without_cancels = refl

withdrawal_in_time : refused (called 0 ask ∷ []) (withdrew Lsp 1) ≡ None
withdrawal_in_time = refl
