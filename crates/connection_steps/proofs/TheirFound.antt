-- A call is looked up by its number.
use Rattle.std.proofs.Common.{◌≡◌, ℕ, zero, suc, ◌<◌, ◌≤◌, ◌==◌, List, [], ◌∷◌, ◌++◌, Option, Some, Bool, true, false, cond, ◌&&◌, ◌||◌, inl, inr, refl, sym, ap, ◌∙◌, arith}
use Rattle.std.proofs.lemmas.Bool.{cases_lt}
use Rattle.std.specs.Prelude.{is_some, option_map, unwrap_or}
use Rattle.connection_history.specs.Stream.{is_cancelled}
use Rattle.connection_history.specs.Events.{call_count}
use Rattle.connection_history.specs.History.{History, stream, units_of, is_open, numbers_to}
use Rattle.connection_history.proofs.Histories.{open_known}
use Rattle.connection_history.proofs.Streams.{call_numbered-within}
use Rattle.connection_history.proofs.Tests.{same, same_test, or-false, or_assoc}
use Rattle.open_calls.specs.declared.their_call.TheirCall.{TheirCall}
use Rattle.open_calls.specs.Numbered.{at}
use Rattle.connection_steps.specs.States.{theirs_of}
use Rattle.connection_steps.proofs.TheirSites.{sites_of, seen_as, all_seen, theirs-seen, numbers_in, all-numbers}

-- whether a number is among these
abbrev pub is_among : ℕ → List ℕ → Bool
is_among k [] = false
is_among k (n ∷ ns) = (k == n) || is_among k ns

found_step : (k : ℕ) (s : ℕ × TheirCall) (rest : List (ℕ × TheirCall)) (opened hit test this more : Bool) → (k == s.0) ≡ test → (test ≡ true → this ≡ opened)
    → is_some (at k rest) ≡ (this && more) → is_some (at k (seen_as opened hit s ++ rest)) ≡ (this && (test || more))
found_step k s rest true hit true this more is alike there =
    ap (λ b. is_some (cond b (Some (record s.1 { is_cancelled = hit })) (at k rest))) is ∙ sym (ap (λ b. b && true) (alike refl))
found_step k s rest true hit false this more is alike there =
    ap (λ b. is_some (cond b (Some (record s.1 { is_cancelled = hit })) (at k rest))) is ∙ there
found_step k s rest false hit true this more is alike there = there ∙ ap (λ b. b && more) (alike refl) ∙ sym (ap (λ b. b && true) (alike refl))
found_step k s rest false hit false this more is alike there = there

and-false : (b : Bool) → (b && false) ≡ false
and-false true = refl
and-false false = refl

-- what is seen under a number
pub seen-at : (k : ℕ) (history : History) (ss : List (ℕ × TheirCall)) → is_some (at k (all_seen history ss)) ≡ (is_open k history && is_among k (numbers_in ss))
seen-at k history [] = sym (and-false (is_open k history))
seen-at k history (s ∷ ss) =
    found_step k s (all_seen history ss) (is_open s.0 history) (is_cancelled s.0 (stream history)) (k == s.0) (is_open k history) (is_among k (numbers_in ss)) refl
    (λ here. ap (λ n. is_open n history) (same k s.0 here)) (seen-at k history ss)

among-push : (k n : ℕ) (ns : List ℕ) → is_among k (ns ++ n ∷ []) ≡ (is_among k ns || (k == n))
among-push k n [] = or-false (k == n)
among-push k n (m ∷ ns) = ap (λ b. (k == m) || b) (among-push k n ns) ∙ sym (or_assoc (k == m) (is_among k ns) (k == n))

or-true : (b : Bool) → (b || true) ≡ true
or-true true = refl
or-true false = refl

-- each number from 1 to m is among them
pub among-numbers : (k m : ℕ) → 0 < k → k ≤ m → is_among k (numbers_to m) ≡ true
among-numbers k zero some h = absurd (omega arith)
among-numbers k (suc m) some h = elim (cases_lt m k) [
  | inl last ↦ among-push k (suc m) (numbers_to m) ∙ ap (λ b. is_among k (numbers_to m) || b) (same_test k (suc m) (omega arith)) ∙ or-true (is_among k (numbers_to m))
  | inr front ↦ among-push k (suc m) (numbers_to m) ∙ ap (λ b. b || (k == suc m)) (among-numbers k m some front)
]

there : (opened among : Bool) → (opened ≡ true → among ≡ true) → opened ≡ (opened && among)
there true among h = sym (h refl)
there false among h = refl

-- a call is open where it is found
pub found : (history : History) (n : ℕ) → is_open (suc n) history ≡ is_some (at (suc n) (theirs_of history).calls)
found history n =
    there (is_open (suc n) history) (is_among (suc n) (numbers_in (sites_of history)))
    (λ opened.
    let known = open_known n history opened in
    ap (is_among (suc n)) (all-numbers history) ∙ among-numbers (suc n) (call_count history) (omega arith) (call_numbered-within (suc n) (stream history) known.0 known.1).1)
    ∙ sym (ap (λ cs. is_some (at (suc n) cs)) (theirs-seen history 0 1 (units_of history)) ∙ seen-at (suc n) history (sites_of history))

-- what stands under a number is cancelled where the request is
seen_cancelled : (n : ℕ) (history : History) (s : ℕ × TheirCall) (rest : List (ℕ × TheirCall)) (opened test : Bool) (call : TheirCall) → (n == s.0) ≡ test
    → (at n rest ≡ Some call → call.is_cancelled ≡ is_cancelled n (stream history))
    → at n (seen_as opened (is_cancelled s.0 (stream history)) s ++ rest) ≡ Some call → call.is_cancelled ≡ is_cancelled n (stream history)
seen_cancelled n history s rest false test call is later there = later there
seen_cancelled n history s rest true true call is later there =
    let here : Some (record s.1 { is_cancelled = is_cancelled s.0 (stream history) }) ≡ Some call =
    sym (ap (λ b. cond b (Some (record s.1 { is_cancelled = is_cancelled s.0 (stream history) })) (at n rest)) is) ∙ there in
    let its : is_cancelled s.0 (stream history) ≡ call.is_cancelled = ap (λ (o : Option TheirCall). unwrap_or (option_map (λ (c : TheirCall). c.is_cancelled) o) false) here in
    sym its ∙ ap (λ k. is_cancelled k (stream history)) (sym (same n s.0 is))
seen_cancelled n history s rest true false call is later there =
    later (sym (ap (λ b. cond b (Some (record s.1 { is_cancelled = is_cancelled s.0 (stream history) })) (at n rest)) is) ∙ there)

all_cancelled : (n : ℕ) (history : History) (ss : List (ℕ × TheirCall)) (call : TheirCall) → at n (all_seen history ss) ≡ Some call → call.is_cancelled ≡ is_cancelled n (stream history)
all_cancelled n history [] call there = absurd (cc)
all_cancelled n history (s ∷ ss) call there =
    seen_cancelled n history s (all_seen history ss) (is_open s.0 history) (n == s.0) call refl (all_cancelled n history ss call) there

pub cancelled_found : (history : History) (n : ℕ) (call : TheirCall) → at n (theirs_of history).calls ≡ Some call → call.is_cancelled ≡ is_cancelled n (stream history)
cancelled_found history n call there = all_cancelled n history (sites_of history) call (sym (ap (at n) (theirs-seen history 0 1 (units_of history))) ∙ there)
