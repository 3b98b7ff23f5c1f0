-- A request, from where it was made to where its response is told.
use Rattle.std.proofs.Common.{◌≡◌, ◌⊎◌, inl, inr, ℕ, zero, suc, ◌+◌, List, [], ◌∷◌, filter, Bool, true, false, cond, Option, Some, refl, sym, ap, ◌∙◌, arith}
use Rattle.std.proofs.lemmas.Option.{slice_get_within}
use Rattle.std.specs.Prelude.{slice_get, option_and_then}
use Rattle.message_ids.specs.declared.id.Id.TheVariants.{Unsigned}
use Rattle.connection_messages.specs.ReadBack.{reply_as_read}
use Rattle.connection_messages.specs.declared.answer.Answer.{Answer}
use Rattle.connection_messages.specs.declared.call.Call.{Call as Came}
use Rattle.connection_messages.specs.declared.cancels.Cancels.{Cancels}
use Rattle.connection_history.specs.declared.order.Order.{Order}
use Rattle.connection_history.specs.Refusals.{IsLawful}
use Rattle.connection_history.specs.Stream.{calls_in, request_id}
use Rattle.connection_history.specs.Told.{IsLeft}
use Rattle.connection_history.specs.History.{History, stream, answer_to, caller_of, callers}
use Rattle.connection.specs.BackToBack.{messages_of}
use Rattle.call_laws.specs.Calls.{requests_of, IsAnswered}
use Rattle.call_laws.specs.Endings.{replied, given_up, caller_closed, IsEnded}
use Rattle.call_laws.specs.Talks.{HasHeardAll, IsHeard}
use Rattle.call_laws.proofs.Asked.{is_request, asked_all, all_count, as_many, count_at, known_at}
use Rattle.call_laws.proofs.Withdrawn.{left_given_up}

-- what passes stands in the list
from_filter : (cs : List Came) (j : ℕ) (c : Came) → slice_get (filter is_request cs) j ≡ Some c → (i : ℕ) × (slice_get cs i ≡ Some c)
from_filter [] j c at = absurd (cc)
from_filter (d ∷ cs) j c at = from (is_request d) refl j at (from_filter cs)
  where
    later : (i : ℕ) × (slice_get cs i ≡ Some c) → (i : ℕ) × (slice_get (d ∷ cs) i ≡ Some c)
    later it = (suc it.0, it.1)

    here : (j : ℕ) → slice_get (d ∷ filter is_request cs) j ≡ Some c → ((j : ℕ) (c : Came) → slice_get (filter is_request cs) j ≡ Some c → (i : ℕ) × (slice_get cs i ≡ Some c)) → (i : ℕ) × (slice_get (d ∷ cs) i ≡ Some c)
    here zero at rest = (0, at)
    here (suc j) at rest = later (rest j c at)

    from : (b : Bool) → is_request d ≡ b → (j : ℕ) → slice_get (cond (is_request d) (d ∷ filter is_request cs) (filter is_request cs)) j ≡ Some c
        → ((j : ℕ) (c : Came) → slice_get (filter is_request cs) j ≡ Some c → (i : ℕ) × (slice_get cs i ≡ Some c)) → (i : ℕ) × (slice_get (d ∷ cs) i ≡ Some c)
    from true is j at rest = here j (ap (λ b. slice_get (cond b (d ∷ filter is_request cs) (filter is_request cs)) j) (sym is) ∙ at) rest
    from false is j at rest = later (rest j c (ap (λ b. slice_get (cond b (d ∷ filter is_request cs) (filter is_request cs)) j) (sym is) ∙ at))

-- each request that was made has come, once all has
pub request_came : (order : Order) (ours theirs : History) (key caller : ℕ) → HasHeardAll (messages_of order ours) theirs → caller_of key ours ≡ Some caller → (number : ℕ) × (request_id number (stream theirs) ≡ Some (Unsigned key))
request_came order ours theirs zero caller heard made = absurd (cc)
request_came order ours theirs (suc k) caller heard made =
    let bound = slice_get_within (callers ours) k caller made in
    let many = as_many ours in
    let it = known_at (requests_of ours) k (omega (arith, bound, many)) in
    let named = count_at 1 k (requests_of ours) it.0 (all_count ours) it.1 in
    let there = from_filter (calls_in (stream theirs)) k it.0 (ap (λ cs. slice_get cs k) (sym (asked_all order ours theirs heard)) ∙ it.1) in
    (suc there.0, ap (option_and_then (λ (c : Came). c.id)) there.1 ∙ named ∙ ap (λ n. Some (Unsigned n)) (let same : 1 + k ≡ suc k = omega arith in same))

abbrev pub Answered : ℕ → History → Type 0
Answered number history = (given : Answer) × (answer_to number history ≡ Some (Some given))

abbrev pub WholeWay : ℕ → History → History → Type 0
WholeWay key ours theirs = ((given : Answer) × IsAnswered (Unsigned key) theirs given × IsEnded key ours (replied (reply_as_read given))) ⊎ IsEnded key ours given_up ⊎ IsEnded key ours caller_closed

pub whole_way : (conversation : Option Cancels) (first : Order) (ours theirs : History) (key number : ℕ) → IsLawful conversation ours → IsHeard (messages_of first ours) theirs → request_id number (stream theirs) ≡ Some (Unsigned key)
    → Answered number theirs ⊎ IsLeft conversation number theirs
    → ((given : Answer) → IsAnswered (Unsigned key) theirs given → IsEnded key ours (replied (reply_as_read given)) ⊎ IsEnded key ours given_up ⊎ IsEnded key ours caller_closed) → WholeWay key ours theirs
whole_way conversation first ours theirs key number lawful heard request (inl answered) home = from answered.0 it (home answered.0 it)
  where
    it : IsAnswered (Unsigned key) theirs answered.0
    it = record { number = number; request = request; response = answered.1 }

    from : (given : Answer) → IsAnswered (Unsigned key) theirs given → IsEnded key ours (replied (reply_as_read given)) ⊎ IsEnded key ours given_up ⊎ IsEnded key ours caller_closed → WholeWay key ours theirs
    from given is (inl told) = inl (given, is, told)
    from given is (inr other) = inr other
whole_way conversation first ours theirs key number lawful heard request (inr left) home = inr (inl (left_given_up conversation first ours theirs key number lawful heard request left))
