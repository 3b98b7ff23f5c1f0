-- Worked rows of answers, in both orders.
use Rattle.std.proofs.Common.{◌≡◌, List, [], ◌∷◌, ◌++◌, codes, Some, None, refl}
use Rattle.std.specs.Fmt.{digits}
use Rattle.json.specs.Print.{escape_byte}
use Rattle.connection_messages.specs.declared.entry.Entry.TheVariants.{Invalid, Stray}
use Rattle.connection_messages.specs.declared.unit.Unit.TheVariants.{Unreadable}
use Rattle.connection_messages.specs.Texts.{error_head, code_text, error_rest, error_end}
use Rattle.connection_history.specs.declared.event.Event.TheVariants as event
use Rattle.connection_history.specs.declared.order.Order.TheVariants.{AsAnswered, AsCame}
use Rattle.connection_history.specs.declared.refused.Refused.TheVariants.{NotOpen}
use Rattle.connection_history.specs.History.{Happening, came}
use Rattle.connection_history.proofs.Rows.Words.{told, written, refused, add, note, request, notification, one, array, gives}

-- ---- two requests, answered in the other order

abbrev two : List Happening
two = one (request 7) ∷ one (request 8) ∷ gives 2 (codes "0.10") ∷ gives 1 (codes "1e400") ∷ []

two_are_told : told two ≡ event.Call 1 (add 7) ∷ event.Call 2 (add 8) ∷ []
two_are_told = refl

two_as_answered : written AsAnswered two
    ≡ codes "{\"id\":8,\"jsonrpc\":\"2.0\",\"result\":0.10}" ∷ codes "{\"id\":7,\"jsonrpc\":\"2.0\",\"result\":1e400}" ∷ []
unfolding digits escape_byte
two_as_answered = refl

two_as_came : written AsCame two
    ≡ codes "{\"id\":7,\"jsonrpc\":\"2.0\",\"result\":1e400}" ∷ codes "{\"id\":8,\"jsonrpc\":\"2.0\",\"result\":0.10}" ∷ []
unfolding digits escape_byte
two_as_came = refl

-- as they came, the later one waits
one_of_two_as_came : written AsCame (one (request 7) ∷ one (request 8) ∷ gives 2 (codes "2") ∷ []) ≡ []
one_of_two_as_came = refl

-- ---- what is answered without the host

parse_error : written AsCame (came None Unreadable ∷ [])
    ≡ codes "{\"error\":{\"code\":-32700,\"message\":\"Parse error\"},\"id\":null,\"jsonrpc\":\"2.0\"}" ∷ []
unfolding digits escape_byte error_head code_text error_rest error_end
parse_error = refl

invalid_request : written AsCame (one Invalid ∷ [])
    ≡ codes "{\"error\":{\"code\":-32600,\"message\":\"Invalid Request\"},\"id\":null,\"jsonrpc\":\"2.0\"}" ∷ []
unfolding digits escape_byte error_head code_text error_rest error_end
invalid_request = refl

-- an array of one invalid entry, as `[1]`, is answered with an array
array_of_invalid : written AsAnswered (array (Invalid ∷ []) ∷ [])
    ≡ codes "[{\"error\":{\"code\":-32600,\"message\":\"Invalid Request\"},\"id\":null,\"jsonrpc\":\"2.0\"}]" ∷ []
unfolding digits escape_byte error_head code_text error_rest error_end
array_of_invalid = refl

-- none of these stands before another's answer, as they come
invalid_after_request : written AsCame (one (request 7) ∷ one Invalid ∷ []) ≡ []
invalid_after_request = refl

invalid_after_notification : written AsCame (one notification ∷ one Stray ∷ one Invalid ∷ [])
    ≡ codes "{\"error\":{\"code\":-32600,\"message\":\"Invalid Request\"},\"id\":null,\"jsonrpc\":\"2.0\"}" ∷ []
unfolding digits escape_byte error_head code_text error_rest error_end
invalid_after_notification = refl

-- ---- batches

-- the entries are answered in the other order, and stay in their places
abbrev batch : List Happening
batch = array (request 7 ∷ notification ∷ Invalid ∷ request 8 ∷ []) ∷ gives 3 (codes "3") ∷ gives 1 (codes "1") ∷ []

batch_is_told : told batch ≡ event.Call 1 (add 7) ∷ event.Call 2 note ∷ event.Call 3 (add 8) ∷ []
batch_is_told = refl

batch_is_answered : written AsAnswered batch
    ≡ (codes "[{\"id\":7,\"jsonrpc\":\"2.0\",\"result\":1}," ++ codes "{\"error\":{\"code\":-32600,\"message\":\"Invalid Request\"},\"id\":null,\"jsonrpc\":\"2.0\"},"
    ++ codes "{\"id\":8,\"jsonrpc\":\"2.0\",\"result\":3}]") ∷ []
unfolding digits escape_byte error_head code_text error_rest error_end
batch_is_answered = refl

batch_waits_for_all : written AsAnswered (array (request 7 ∷ request 8 ∷ []) ∷ gives 2 (codes "2") ∷ []) ≡ []
batch_waits_for_all = refl

-- a batch of a notification alone has no answer, also once the host is done with it
batch_of_notification : written AsAnswered (array (notification ∷ []) ∷ gives 1 (codes "0") ∷ []) ≡ []
batch_of_notification = refl

-- ---- answers that are refused

answered_twice : refused two (gives 1 (codes "1")) ≡ Some NotOpen
answered_twice = refl

notification_done_twice : refused (one notification ∷ gives 1 (codes "0") ∷ []) (gives 1 (codes "0")) ≡ Some NotOpen
notification_done_twice = refl

unknown_number : refused two (gives 3 (codes "3")) ≡ Some NotOpen
unknown_number = refl

zero_is_never_answered : refused two (gives 0 (codes "0")) ≡ Some NotOpen
zero_is_never_answered = refl

first_answer : refused (one (request 7) ∷ []) (gives 1 (codes "1")) ≡ None
first_answer = refl
