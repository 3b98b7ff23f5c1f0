-- Worked rows of counts.
use Rattle.std.proofs.Common.{◌≡◌, ℕ, List, [], ◌∷◌, ◌++◌, codes, length, refl, None}
use Rattle.connection_messages.specs.declared.entry.Entry.TheVariants.{Invalid, Stray}
use Rattle.connection_messages.specs.declared.unit.Unit.TheVariants.{Unreadable}
use Rattle.connection_history.specs.declared.order.Order.{Order}
use Rattle.connection_history.specs.declared.order.Order.TheVariants.{AsAnswered, AsCame}
use Rattle.connection_history.specs.History.{Happening, History, came, called, called_all, waiting, key_count}
use Rattle.connection_history.specs.Refusals.{after}
use Rattle.connection_history.specs.Events.{call_count}
use Rattle.connection_history.specs.Counts.{request_count, open_count, unreadable_count, invalid_count, answer_count, ignored_count}
use Rattle.connection_history.proofs.Rows.Words.{request, notification, cancel, reply, yes, no, one, array, ask, gives}

abbrev pub counts_of : Order → History → List ℕ
counts_of order history =
    call_count history ∷ request_count history ∷ open_count history ∷ length (waiting history) ∷ key_count history
    ∷ answer_count order history ∷ unreadable_count history ∷ invalid_count history ∷ ignored_count history ∷ []

-- calls, requests, open, waiting, own calls, answers written, unreadable, invalid, ignored
abbrev pub counts : Order → List Happening → List ℕ
counts order happened = counts_of order (after [] happened)

nothing : counts AsCame [] ≡ 0 ∷ 0 ∷ 0 ∷ 0 ∷ 0 ∷ 0 ∷ 0 ∷ 0 ∷ 0 ∷ []
nothing = refl

-- ---- calls that come

open_request : counts AsAnswered (one (request 7) ∷ []) ≡ 1 ∷ 1 ∷ 1 ∷ 0 ∷ 0 ∷ 0 ∷ 0 ∷ 0 ∷ 0 ∷ []
open_request = refl

answered_request : counts AsAnswered (one (request 7) ∷ gives 1 (codes "1") ∷ []) ≡ 1 ∷ 1 ∷ 0 ∷ 0 ∷ 0 ∷ 1 ∷ 0 ∷ 0 ∷ 0 ∷ []
answered_request = refl

-- a notification is a call and no request, and has no answer
open_notification : counts AsAnswered (one notification ∷ []) ≡ 1 ∷ 0 ∷ 1 ∷ 0 ∷ 0 ∷ 0 ∷ 0 ∷ 0 ∷ 0 ∷ []
open_notification = refl

closed_notification : counts AsAnswered (one notification ∷ gives 1 (codes "0") ∷ []) ≡ 1 ∷ 0 ∷ 0 ∷ 0 ∷ 0 ∷ 0 ∷ 0 ∷ 0 ∷ 0 ∷ []
closed_notification = refl

-- as they came, the second answer waits for the first
waiting_answer : counts AsCame (one (request 7) ∷ one (request 8) ∷ gives 2 (codes "2") ∷ []) ≡ 2 ∷ 2 ∷ 1 ∷ 0 ∷ 0 ∷ 0 ∷ 0 ∷ 0 ∷ 0 ∷ []
waiting_answer = refl

both_answers : counts AsCame (one (request 7) ∷ one (request 8) ∷ gives 2 (codes "2") ∷ gives 1 (codes "1") ∷ []) ≡ 2 ∷ 2 ∷ 0 ∷ 0 ∷ 0 ∷ 2 ∷ 0 ∷ 0 ∷ 0 ∷ []
both_answers = refl

-- ---- a batch

-- two requests, an invalid entry and a stray, whose answer is one
abbrev batch : List Happening
batch = array (request 7 ∷ Invalid ∷ Stray ∷ request 8 ∷ []) ∷ gives 1 (codes "1") ∷ []

open_batch : counts AsAnswered batch ≡ 2 ∷ 2 ∷ 1 ∷ 0 ∷ 0 ∷ 0 ∷ 0 ∷ 1 ∷ 1 ∷ []
open_batch = refl

answered_batch : counts AsAnswered (batch ++ gives 2 (codes "2") ∷ []) ≡ 2 ∷ 2 ∷ 0 ∷ 0 ∷ 0 ∷ 1 ∷ 0 ∷ 1 ∷ 1 ∷ []
answered_batch = refl

-- ---- what has no events

unreadable : counts AsAnswered (came None Unreadable ∷ []) ≡ 0 ∷ 0 ∷ 0 ∷ 0 ∷ 0 ∷ 1 ∷ 1 ∷ 0 ∷ 0 ∷ []
unreadable = refl

invalid : counts AsAnswered (one Invalid ∷ []) ≡ 0 ∷ 0 ∷ 0 ∷ 0 ∷ 0 ∷ 1 ∷ 0 ∷ 1 ∷ 0 ∷ []
invalid = refl

stray : counts AsAnswered (one Stray ∷ []) ≡ 0 ∷ 0 ∷ 0 ∷ 0 ∷ 0 ∷ 0 ∷ 0 ∷ 0 ∷ 1 ∷ []
stray = refl

-- ---- replies

unknown_key : counts AsAnswered (one (reply 9 yes) ∷ []) ≡ 0 ∷ 0 ∷ 0 ∷ 0 ∷ 0 ∷ 0 ∷ 0 ∷ 0 ∷ 1 ∷ []
unknown_key = refl

calls_that_wait : counts AsAnswered (called_all 0 (ask ∷ ask ∷ []) ∷ []) ≡ 0 ∷ 0 ∷ 0 ∷ 2 ∷ 2 ∷ 0 ∷ 0 ∷ 0 ∷ 0 ∷ []
calls_that_wait = refl

first_reply : counts AsAnswered (called 0 ask ∷ one (reply 1 yes) ∷ []) ≡ 0 ∷ 0 ∷ 0 ∷ 0 ∷ 1 ∷ 0 ∷ 0 ∷ 0 ∷ 0 ∷ []
first_reply = refl

-- the second is ignored, also in the same batch
second_reply : counts AsAnswered (called 0 ask ∷ array (reply 1 yes ∷ reply 1 no ∷ []) ∷ []) ≡ 0 ∷ 0 ∷ 0 ∷ 0 ∷ 1 ∷ 0 ∷ 0 ∷ 0 ∷ 1 ∷ []
second_reply = refl

-- ---- cancels

cancel_of_nothing : counts AsAnswered (one (cancel 7) ∷ []) ≡ 0 ∷ 0 ∷ 0 ∷ 0 ∷ 0 ∷ 0 ∷ 0 ∷ 0 ∷ 1 ∷ []
cancel_of_nothing = refl

cancel_that_reaches : counts AsAnswered (one (request 7) ∷ one (cancel 7) ∷ []) ≡ 1 ∷ 1 ∷ 1 ∷ 0 ∷ 0 ∷ 0 ∷ 0 ∷ 0 ∷ 0 ∷ []
cancel_that_reaches = refl

-- of a batch's two cancels the first reaches the request, and the second nothing
cancelled_twice : counts AsAnswered (array (request 7 ∷ cancel 7 ∷ cancel 7 ∷ []) ∷ []) ≡ 1 ∷ 1 ∷ 1 ∷ 0 ∷ 0 ∷ 0 ∷ 0 ∷ 0 ∷ 1 ∷ []
cancelled_twice = refl
