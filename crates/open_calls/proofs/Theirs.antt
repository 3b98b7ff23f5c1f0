-- The index of the other side's calls after a change, and the state that is seen.
use Rattle.std.proofs.Common.{◌≡◌, ℕ, suc, ◌<◌, ◌≤◌, ◌==◌, ◌&&◌, not, Bool, true, false, cond, if◌then◌else◌, List, Option, Some, None, refl, ap, sym, ◌∙◌, inl, inr, nat_le, min}
use Rattle.std.proofs.lemmas.Bool.{eqb-true, leb-true, leb-false, le-leb}
use Rattle.std.specs.Option.{option_map}
use Rattle.std.specs.List.{find}
use Rattle.message_ids.specs.declared.id.Id.{Id}
use Rattle.message_ids.specs.Ids.{same_id, has_id}
use Rattle.message_ids.proofs.Ids.{same-is}
use Rattle.open_calls.specs.declared.their_call.TheirCall.{TheirCall}
use Rattle.open_calls.specs.declared.numbers_by_id.NumbersById.{NumbersById}
use Rattle.number_windows.specs.Numbered.{at, up_to, changed_at, Below, Ascending}
use Rattle.open_calls.specs.Theirs.{TheirState, is_reached, reached, cancelled}
use Rattle.open_calls.specs.Inner.{is_listed, passes, IsNumberIndex}
use Rattle.number_windows.proofs.Numbered.{find_none, find_first, find_among}
use Rattle.number_windows.proofs.Rows.{at_replaced}
use Rattle.open_calls.proofs.Newest.{either, at_up_to, older_changes, newer_changes, up_to_least}
use Rattle.open_calls.proofs.Own.{gone_step, come_step, passes_at, and_false, false_and, some_of, both_false}

abbrev pub state_of : ℕ → List (ℕ × TheirCall) → TheirState
state_of came calls = record { came = came; calls = calls }

pub same_calls : (came : ℕ) (es fs : List (ℕ × TheirCall)) → es ≡ fs → state_of came es ≡ state_of came fs
same_calls came es fs is = ap (λ calls. state_of came calls) is

-- ---- the index

pub index_seen : (index : NumbersById) (was now : List (ℕ × TheirCall)) → IsNumberIndex index was → ((k : ℕ) → at k now ≡ at k was) → IsNumberIndex index now
index_seen index was now is same = λ id k. is id k ∙ ap (passes (is_reached id)) (sym (same k))

index_kept : (old new : NumbersById) (was now : List (ℕ × TheirCall)) → ((q : Id) (k : ℕ) → is_listed new q k ≡ is_listed old q k) → IsNumberIndex old was
    → ((k : ℕ) → at k now ≡ at k was) → IsNumberIndex new now
index_kept old new was now kept is same = λ id k. kept id k ∙ index_seen old was now is same id k

-- no call is behind a number
pub index_least : (index : NumbersById) (m n : ℕ) (es : List (ℕ × TheirCall)) → Below (suc n) es → IsNumberIndex index (up_to m es) → IsNumberIndex index (up_to (min m n) es)
index_least index m n es under is = index_seen index (up_to m es) (up_to (min m n) es) is (up_to_least m n es under)

pub number_gone : (old new : NumbersById) (was now : List (ℕ × TheirCall)) (number : ℕ) (call : TheirCall)
    → ((q : Id) (k : ℕ) → is_listed new q k ≡ (if has_id q call.id && (number == k) then false else is_listed old q k))
    → IsNumberIndex old was → ((k : ℕ) → at k now ≡ cond (number == k) None (at k was)) → at number was ≡ Some call → IsNumberIndex new now
number_gone old new was now number call has index changes there =
    λ id k. has id k
    ∙ gone_step (has_id id call.id) (number == k) (is_listed old id k) (at k was) None (is_reached id) (index id k) refl
    (λ here apart. passes_at (is_reached id) number k call was there here ∙ false_and (has_id id call.id) (not call.is_cancelled) apart)
    ∙ ap (passes (is_reached id)) (sym (changes k))

pub forgotten : (old new : NumbersById) (m : ℕ) (es now : List (ℕ × TheirCall)) (number : ℕ) (call : TheirCall)
    → (number ≤ m → (q : Id) (k : ℕ) → is_listed new q k ≡ (if has_id q call.id && (number == k) then false else is_listed old q k))
    → (m < number → (q : Id) (k : ℕ) → is_listed new q k ≡ is_listed old q k)
    → IsNumberIndex old (up_to m es) → ((k : ℕ) → at k now ≡ cond (number == k) None (at k es)) → at number es ≡ Some call → IsNumberIndex new (up_to m now)
forgotten old new m es now number call older newer index changes there =
    elim (either (nat_le number m)) [
      | inl within ↦ number_gone old new (up_to m es) (up_to m now) number call (older (leb-true number m within)) index
          (older_changes m number None es now (leb-true number m within) changes)
          (at_up_to m number es ∙ ap (λ b. cond b (at number es) None) within ∙ there)
      | inr past ↦ index_kept old new (up_to m es) (up_to m now) (newer (leb-false number m past)) index (newer_changes m number None es now (leb-false number m past) changes)
    ]

pub number_come : (old new : NumbersById) (was now : List (ℕ × TheirCall)) (number : ℕ) (call : TheirCall)
    → ((q : Id) (k : ℕ) → is_listed new q k ≡ (if is_reached q call && (number == k) then true else is_listed old q k))
    → IsNumberIndex old was → ((k : ℕ) → at k now ≡ cond (number == k) (Some call) (at k was)) → at number was ≡ None → IsNumberIndex new now
number_come old new was now number call has index changes none =
    λ id k. has id k
    ∙ come_step (is_reached id call) (number == k) (is_listed old id k) (at k was) call (is_reached id) (index id k) refl
    (λ here. ap (λ n. at n was) (sym (eqb-true number k here)) ∙ none)
    ∙ ap (passes (is_reached id)) (sym (changes k))

-- ---- a cancel

and_left : (a b : Bool) → (a && b) ≡ true → a ≡ true
and_left true b is = refl
and_left false b is = cc

same_other : (id : Option Id) (reaching q : Id) → has_id reaching id ≡ true → same_id reaching q ≡ false → has_id q id ≡ false
same_other None reaching q is other = refl
same_other (Some one) reaching q is other = ap (λ i. same_id i q) (same-is one reaching is) ∙ other

pub number_reached : (old new : NumbersById) (was now : List (ℕ × TheirCall)) (number : ℕ) (id : Id) (call : TheirCall)
    → ((q : Id) (k : ℕ) → is_listed new q k ≡ (if same_id id q && (number == k) then false else is_listed old q k))
    → IsNumberIndex old was → ((k : ℕ) → at k now ≡ cond (number == k) (Some (cancelled call)) (at k was)) → at number was ≡ Some call → is_reached id call ≡ true → IsNumberIndex new now
number_reached old new was now number id call has index changes there is =
    λ q k. has q k
    ∙ gone_step (same_id id q) (number == k) (is_listed old q k) (at k was) (Some (cancelled call)) (is_reached q) (index q k) (and_false (has_id q call.id))
    (λ here apart. passes_at (is_reached q) number k call was there here
    ∙ false_and (has_id q call.id) (not call.is_cancelled) (same_other call.id id q (and_left (has_id id call.id) (not call.is_cancelled) is) apart))
    ∙ ap (passes (is_reached q)) (sym (changes k))

pub reached_gone : (old new : NumbersById) (m : ℕ) (es now : List (ℕ × TheirCall)) (number : ℕ) (id : Id)
    → (number ≤ m → (q : Id) (k : ℕ) → is_listed new q k ≡ (if same_id id q && (number == k) then false else is_listed old q k))
    → (m < number → (q : Id) (k : ℕ) → is_listed new q k ≡ is_listed old q k)
    → IsNumberIndex old (up_to m es) → now ≡ changed_at number cancelled es → passes (is_reached id) (at number es) ≡ true → IsNumberIndex new (up_to m now)
reached_gone old new m es now number id older newer index is reached =
    let found = some_of (is_reached id) (at number es) reached in
    let call = found.0 in
    let changes = at_replaced number cancelled call es now is found.1 in
    elim (either (nat_le number m)) [
      | inl within ↦ number_reached old new (up_to m es) (up_to m now) number id call (older (leb-true number m within)) index
          (older_changes m number (Some (cancelled call)) es now (leb-true number m within) changes)
          (at_up_to m number es ∙ ap (λ b. cond b (at number es) None) within ∙ found.1) found.2
      | inr past ↦ index_kept old new (up_to m es) (up_to m now) (newer (leb-false number m past)) index
          (newer_changes m number (Some (cancelled call)) es now (leb-false number m past) changes)
    ]

-- ---- the first that a cancel can reach

abbrev pub can_reach : Id → List (ℕ × TheirCall) → ℕ → Bool
can_reach id es k = passes (is_reached id) (at k es)

reached_among : (id : Id) (most : ℕ) (es : List (ℕ × TheirCall)) → reached id (up_to most es) ≡ option_map (λ e. e.0) (find (λ e. nat_le e.0 most && is_reached id e.1) es)
reached_among id most es = ap (λ o. option_map (λ e. e.0) o) (find_among (λ (e : ℕ × TheirCall). is_reached id e.1) (λ e. nat_le e.0 most) es)

pub none_up_to : (es : List (ℕ × TheirCall)) (id : Id) (most : ℕ) → Ascending es → ((k : ℕ) → k ≤ most → can_reach id es k ≡ false) → None ≡ reached id (up_to most es)
none_up_to es id most order none =
    sym (reached_among id most es ∙ ap (λ o. option_map (λ e. e.0) o) (find_none (λ e. nat_le e.0 most && is_reached id e.1) es order
    (λ n x there. both_false (nat_le n most) (is_reached id x) (λ within. ap (passes (is_reached id)) (sym there) ∙ none n (leb-true n most within)))))

-- the first of all, where its number is at most this one
pub first_up_to : (es : List (ℕ × TheirCall)) (id : Id) (number most : ℕ) → Ascending es → number ≤ most → can_reach id es number ≡ true → ((k : ℕ) → k < number → can_reach id es k ≡ false)
    → Some number ≡ reached id (up_to most es)
first_up_to es id number most order within is least =
    let found = some_of (is_reached id) (at number es) is in
    sym (reached_among id most es ∙ ap (λ o. option_map (λ e. e.0) o) (find_first (λ e. nat_le e.0 most && is_reached id e.1) number found.0 es order found.1
    (ap (λ b. b && is_reached id found.0) (le-leb number most within) ∙ found.2)
    (λ n y under it. both_false (nat_le n most) (is_reached id y) (λ _. ap (passes (is_reached id)) (sym it) ∙ least n under))))
