-- The indexes of our calls after a change, and the state that is seen.
use Rattle.std.proofs.Common.{◌≡◌, ℕ, ◌+◌, ◌-◌, ◌<◌, ◌≤◌, ◌==◌, ◌&&◌, Bool, true, false, cond, if◌then◌else◌, List, Option, Some, None, MatchOption, refl, ap, sym, ◌∙◌, arith, not, inl, inr, nat_lt, nat_le, zero, suc, ◌++◌, ◌∷◌, [], append_assoc}
use Rattle.std.proofs.lemmas.List.{append-nil}
use Rattle.std.proofs.lemmas.List.Elements.{filter-append}
use Rattle.std.proofs.lemmas.Bool.{eqb-true, ltb-true, lt-ltb, leb-true, leb-false}
use Rattle.std.specs.Option.{option_map, option_map_or}
use Rattle.open_calls.specs.declared.own_call.OwnCall.{OwnCall}
use Rattle.open_calls.specs.declared.keys_by_caller.KeysByCaller.{KeysByCaller}
use Rattle.number_windows.specs.Numbered.{at, up_to, Above, Below, Ascending}
use Rattle.open_calls.specs.Own.{OwnState, is_wanted_by, next_wanted, new_call, new_calls}
use Rattle.open_calls.specs.Inner.{has_key, is_of, passes, IsNext, IsKeyIndex}
use Rattle.number_windows.proofs.Numbered.{find_none, find_first, above_push, up_to_all, up_to_above}
use Rattle.open_calls.proofs.Newest.{either, passing, passed_over, at_up_to, older_changes, newer_changes}

abbrev pub state_of : ℕ → List (ℕ × OwnCall) → OwnState
state_of made waiting = record { made = made; waiting = waiting }

pub same_waiting : (made : ℕ) (es fs : List (ℕ × OwnCall)) → es ≡ fs → state_of made es ≡ state_of made fs
same_waiting made es fs is = ap (λ waiting. state_of made waiting) is

-- ---- a key goes

pub gone_step : {X : Type 0} (same here was : Bool) (o w : Option X) (p : X → Bool) → was ≡ passes p o → passes p w ≡ false → (here ≡ true → same ≡ false → passes p o ≡ false)
    → (if same && here then false else was) ≡ passes p (cond here w o)
gone_step true true was o w p is none only = sym none
gone_step true false was o w p is none only = is
gone_step false true was o w p is none only = is ∙ only refl refl ∙ sym none
gone_step false false was o w p is none only = is

pub passes_at : {X : Type 0} (p : X → Bool) (key k : ℕ) (call : X) (es : List (ℕ × X)) → at key es ≡ Some call → (key == k) ≡ true → passes p (at k es) ≡ p call
passes_at p key k call es is here = ap (λ n. passes p (at n es)) (sym (eqb-true key k here)) ∙ ap (passes p) is

pub index_gone : (old new : KeysByCaller) (was now : List (ℕ × OwnCall)) (key : ℕ) (call : OwnCall)
    → ((c k : ℕ) → has_key new c k ≡ (if (call.caller == c) && (key == k) then false else has_key old c k))
    → IsKeyIndex old was → ((k : ℕ) → at k now ≡ cond (key == k) None (at k was)) → at key was ≡ Some call → IsKeyIndex new now
index_gone old new was now key call has index changes is =
    λ c k. has c k
    ∙ gone_step (call.caller == c) (key == k) (has_key old c k) (at k was) None (is_of c) (index c k) refl (λ here apart. passes_at (is_of c) key k call was is here ∙ apart)
    ∙ ap (passes (is_of c)) (sym (changes k))

index_kept : (old new : KeysByCaller) (was now : List (ℕ × OwnCall)) → ((c k : ℕ) → has_key new c k ≡ has_key old c k) → IsKeyIndex old was
    → ((k : ℕ) → at k now ≡ at k was) → IsKeyIndex new now
index_kept old new was now kept is same = λ c k. kept c k ∙ is c k ∙ ap (passes (is_of c)) (sym (same k))

pub index_seen : (index : KeysByCaller) (was now : List (ℕ × OwnCall)) → IsKeyIndex index was → ((k : ℕ) → at k now ≡ at k was) → IsKeyIndex index now
index_seen index was now is same = index_kept index index was now (λ c k. refl) is same

-- it is in the index if it is up to a number
pub forgotten : (old new : KeysByCaller) (m : ℕ) (es now : List (ℕ × OwnCall)) (key : ℕ) (call : OwnCall)
    → (key ≤ m → (c k : ℕ) → has_key new c k ≡ (if (call.caller == c) && (key == k) then false else has_key old c k))
    → (m < key → (c k : ℕ) → has_key new c k ≡ has_key old c k)
    → IsKeyIndex old (up_to m es) → ((k : ℕ) → at k now ≡ cond (key == k) None (at k es)) → at key es ≡ Some call → IsKeyIndex new (up_to m now)
forgotten old new m es now key call older newer index changes there =
    elim (either (nat_le key m)) [
      | inl within ↦ index_gone old new (up_to m es) (up_to m now) key call (older (leb-true key m within)) index
          (older_changes m key None es now (leb-true key m within) changes)
          (at_up_to m key es ∙ ap (λ b. cond b (at key es) None) within ∙ there)
      | inr past ↦ index_kept old new (up_to m es) (up_to m now) (newer (leb-false key m past)) index (newer_changes m key None es now (leb-false key m past) changes)
    ]

-- ---- an entry is changed, and its key stays

same_step : (here : Bool) (o : Option OwnCall) (w : OwnCall) (p : OwnCall → Bool) → (here ≡ true → passes p o ≡ p w) → passes p o ≡ passes p (cond here (Some w) o)
same_step true o w p is = is refl
same_step false o w p is = refl

same_within : (b : Bool) (o w : Option OwnCall) (p : OwnCall → Bool) → passes p o ≡ passes p w → passes p (cond b o None) ≡ passes p (cond b w None)
same_within true o w p is = is
same_within false o w p is = refl

pub index_same : (index : KeysByCaller) (m : ℕ) (was now : List (ℕ × OwnCall)) (key : ℕ) (call changed : OwnCall)
    → IsKeyIndex index (up_to m was) → ((k : ℕ) → at k now ≡ cond (key == k) (Some changed) (at k was)) → at key was ≡ Some call → changed.caller ≡ call.caller → IsKeyIndex index (up_to m now)
index_same index m was now key call changed is changes there same =
    λ c k. is c k ∙ ap (passes (is_of c)) (at_up_to m k was)
    ∙ same_within (nat_le k m) (at k was) (at k now) (is_of c)
    (same_step (key == k) (at k was) changed (is_of c) (λ here. passes_at (is_of c) key k call was there here ∙ ap (λ n. n == c) (sym same)) ∙ ap (passes (is_of c)) (sym (changes k)))
    ∙ ap (passes (is_of c)) (sym (at_up_to m k now))

-- ---- a key comes

pub come_step : {X : Type 0} (same here was : Bool) (o : Option X) (w : X) (p : X → Bool) → was ≡ passes p o → p w ≡ same → (here ≡ true → o ≡ None)
    → (if same && here then true else was) ≡ passes p (cond here (Some w) o)
come_step true true was o w p is like none = sym like
come_step true false was o w p is like none = is
come_step false true was o w p is like none = is ∙ ap (passes p) (none refl) ∙ sym like
come_step false false was o w p is like none = is

pub index_come : (old new : KeysByCaller) (was now : List (ℕ × OwnCall)) (key : ℕ) (call : OwnCall)
    → ((c k : ℕ) → has_key new c k ≡ (if (call.caller == c) && (key == k) then true else has_key old c k))
    → IsKeyIndex old was → ((k : ℕ) → at k now ≡ cond (key == k) (Some call) (at k was)) → at key was ≡ None → IsKeyIndex new now
index_come old new was now key call has index changes none =
    λ c k. has c k
    ∙ come_step (call.caller == c) (key == k) (has_key old c k) (at k was) call (is_of c) (index c k) refl
    (λ here. ap (λ n. at n was) (sym (eqb-true key k here)) ∙ none)
    ∙ ap (passes (is_of c)) (sym (changes k))

pub and_true : (b : Bool) → (b && true) ≡ b
and_true true = refl
and_true false = refl

pub and_false : (b : Bool) → (b && false) ≡ false
and_false true = refl
and_false false = refl

pub false_and : (b other : Bool) → b ≡ false → (b && other) ≡ false
false_and b other is = ap (λ x. x && other) is

-- ---- the next key of a caller

pub some_of : {X : Type 0} (p : X → Bool) (o : Option X) → passes p o ≡ true → (x : X) × (o ≡ Some x) × (p x ≡ true)
some_of p None is = absurd (cc)
some_of p (Some x) is = (x, refl, is)

pub both_false : (a b : Bool) → (a ≡ true → b ≡ false) → (a && b) ≡ false
both_false true b is = is refl
both_false false b is = refl

-- no call of the caller above the first key is wanted whose key is below the second; where there is none, none is
abbrev pub IsPassed : List (ℕ × OwnCall) → ℕ → ℕ → Option ℕ → Type 0
IsPassed es caller after result =
    MatchOption result
    ((k : ℕ) → after < k → passes (is_wanted_by caller) (at k es) ≡ false)
    (λ key. (after < key) × (passes (is_of caller) (at key es) ≡ true) × ((k : ℕ) → after < k → k < key → passes (is_wanted_by caller) (at k es) ≡ false))

abbrev pub is_withdrawn_in : Option OwnCall → Bool
is_withdrawn_in o = passes (λ call. call.is_withdrawn) o

unwanted : (caller : ℕ) (o : Option OwnCall) → passes (is_of caller) o ≡ false → passes (is_wanted_by caller) o ≡ false
unwanted caller None is = refl
unwanted caller (Some call) is = ap (λ b. b && not call.is_withdrawn) is

withdrawn_unwanted : (caller : ℕ) (o : Option OwnCall) → is_withdrawn_in o ≡ true → passes (is_wanted_by caller) o ≡ false
withdrawn_unwanted caller None is = refl
withdrawn_unwanted caller (Some call) is = ap (λ b. (call.caller == caller) && not b) is ∙ and_false (call.caller == caller)

-- the next one of a caller has passed none
pub first_passed : (es : List (ℕ × OwnCall)) (caller after : ℕ) (r : Option ℕ) → IsNext (passing (is_of caller) es) after r → IsPassed es caller after r
first_passed es caller after None next = λ k over. unwanted caller (at k es) (next k over)
first_passed es caller after (Some key) next = (next.0, next.1, λ k over under. unwanted caller (at k es) (next.2 k over under))

pub more_passed : (es : List (ℕ × OwnCall)) (caller after key : ℕ) (r : Option ℕ) → IsPassed es caller after (Some key) → is_withdrawn_in (at key es) ≡ true → IsPassed es caller key r → IsPassed es caller after r
more_passed es caller after key None was gone next =
    λ k over. passed_over (passing (is_wanted_by caller) es) after key k was.2 (withdrawn_unwanted caller (at key es) gone) (λ above. next k above) over
more_passed es caller after key (Some more) was gone next = (
  omega (arith, was.0, next.0),
  next.1,
  λ k over under. passed_over (passing (is_wanted_by caller) es) after key k was.2 (withdrawn_unwanted caller (at key es) gone) (λ above. next.2 k above under) over,
)

-- what is passed has fewer keys behind it

pub fewer_behind : (es : List (ℕ × OwnCall)) (caller made key : ℕ) (r : Option ℕ) → key < suc made → IsPassed es caller key r → option_map_or (λ k. suc made - k) r 0 < suc made - key
fewer_behind es caller made key None within passed = omega (arith, within)
fewer_behind es caller made key (Some more) within passed = omega (arith, within, passed.0)

-- where those in front of it are passed, one that isn't withdrawn is the next
pub wanted_next : (es : List (ℕ × OwnCall)) (caller after : ℕ) (r : Option ℕ) → Ascending es → IsPassed es caller after r → MatchOption r (Unit {0}) (λ key. is_withdrawn_in (at key es) ≡ false)
    → r ≡ next_wanted caller after es
wanted_next es caller after None order passed kept =
    sym (ap (λ o. option_map (λ e. e.0) o) (find_none (λ e. nat_lt after e.0 && is_wanted_by caller e.1) es order
    (λ n x there. both_false (nat_lt after n) (is_wanted_by caller x) (λ over. ap (passes (is_wanted_by caller)) (sym there) ∙ passed n (ltb-true after n over)))))
wanted_next es caller after (Some key) order passed kept =
    let found = some_of (is_of caller) (at key es) passed.1 in
    let stays : found.0.is_withdrawn ≡ false = ap is_withdrawn_in (sym found.1) ∙ kept in
    sym (ap (λ o. option_map (λ e. e.0) o) (find_first (λ e. nat_lt after e.0 && is_wanted_by caller e.1) key found.0 es order found.1
    (ap (λ b. b && is_wanted_by caller found.0) (lt-ltb after key passed.0) ∙ ap (λ b. b && not found.0.is_withdrawn) found.2 ∙ ap not stays)
    (λ n y under there. both_false (nat_lt after n) (is_wanted_by caller y) (λ over. ap (passes (is_wanted_by caller)) (sym there) ∙ passed.2 n (ltb-true after n over) under))))

-- ---- calls that are made one after another

pub calls_more : (made caller i : ℕ) (waiting : List (ℕ × OwnCall))
    → state_of ((made + i) + 1) ((waiting ++ new_calls made caller i) ++ ((made + i) + 1, new_call caller) ∷ []) ≡ state_of (made + (i + 1)) (waiting ++ new_calls made caller (i + 1))
calls_more made caller i waiting =
    let key : (made + i) + 1 ≡ made + suc i = omega arith in
    let next : i + 1 ≡ suc i = omega arith in
    ap (λ k. state_of k ((waiting ++ new_calls made caller i) ++ (k, new_call caller) ∷ [])) key
    ∙ ap (λ fs. state_of (made + suc i) fs) (append_assoc waiting (new_calls made caller i) ((made + suc i, new_call caller) ∷ []))
    ∙ ap (λ j. state_of (made + j) (waiting ++ new_calls made caller j)) (sym next)

above_new : (made caller n : ℕ) → Above made (new_calls made caller n)
above_new made caller zero = tt
above_new made caller (suc n) = above_push made (made + suc n) (new_call caller) (new_calls made caller n) (omega arith) (above_new made caller n)

-- what was put in is taken out again
pub calls_undone : (made caller n : ℕ) (waiting : List (ℕ × OwnCall)) → Below (suc made) waiting → up_to made (waiting ++ new_calls made caller n) ≡ waiting
calls_undone made caller n waiting under =
    filter-append (λ (e : ℕ × OwnCall). nat_le e.0 made) waiting (new_calls made caller n)
    ∙ ap (λ fs. fs ++ up_to made (new_calls made caller n)) (up_to_all made waiting under)
    ∙ ap (λ fs. waiting ++ fs) (up_to_above made (new_calls made caller n) (above_new made caller n))
    ∙ append-nil waiting
