-- What each happening changes of our calls that wait.
use Rattle.std.proofs.Common.{◌≡◌, ◌≢◌, ℕ, zero, suc, ◌+◌, ◌<◌, ◌≤◌, ◌==◌, ◌&&◌, ◌||◌, not, nat_lt, List, [], ◌∷◌, ◌++◌, length, map, Bool, true, false, cond, Option, Some, None, refl, sym, ap, subst, ◌∙◌, append_assoc, append-nil, arith}
use Rattle.std.specs.Prelude.{filter, unwrap_or}
use Rattle.connection_messages.specs.declared.answer.Answer.{Answer}
use Rattle.connection_messages.specs.declared.entry.Entry.{Entry}
use Rattle.connection_messages.specs.declared.outgoing.Outgoing.{Outgoing}
use Rattle.connection_messages.specs.declared.unit.Unit.{Unit}
use Rattle.connection_messages.specs.declared.unit.Unit.TheVariants.{Batch}
use Rattle.connection_history.specs.declared.close.Close.{Close}
use Rattle.connection_history.specs.declared.refused.Refused.{Refused}
use Rattle.connection_history.specs.declared.refused.Refused.TheVariants.{NotOpen, NotWaiting, Over, Empty, Full}
use Rattle.connection_history.specs.Stream.{entries_in}
use Rattle.connection_history.specs.History.{Happening, came, called, called_all, noticed, withdrew, answered, ended, History, is_over, is_open, key_count, caller_of, is_waiting, withdraws, is_withdrawn, numbers_to, Origin}
use Rattle.connection_history.specs.Refusals.{first_of, most_keys, call_refusal, has_cancels, is_left, may_be_left, IsLawful}
use Rattle.connection_history.proofs.OurCalls.{key_count-more, key_count-other, key_count-called, key_count-called_all, caller_of-made, caller_of-other, caller_of-called, caller_of-called_all}
use Rattle.connection_history.proofs.Tests.{same, apart, different, and-left, and-right, or-left}
use Rattle.connection_history.proofs.Waiting.{waiting-withdrew, waiting-called_made, waiting-called_all_made, made_waits, waiting-answered, waiting-answered_other, waiting-ended}
use Rattle.open_calls.specs.declared.own_call.OwnCall.{OwnCall}
use Rattle.open_calls.specs.Own.{new_call, new_calls, withdrawn, without_caller}
use Rattle.connection_steps.specs.States.{own_call, own_of}
use Rattle.connection_steps.specs.Steps.{own_after_all, own_with, withdrawn_by}
use Rattle.connection_steps.proofs.OwnEntries.{own_list, own-changed, waits_within, own_nothing, unreplied, own-came, one_entry}
use Rattle.connection_steps.proofs.OwnFound.{unmade_idle}
use Rattle.connection_steps.proofs.OwnPicked.{with_value, picked, picked-more, picked-agree, filter-picked, changed-picked}
use Rattle.connection_messages.specs.declared.cancels.Cancels.{Cancels}
use Rattle.connection_messages.specs.declared.cancels.Cancels.TheVariants.{Lsp, Mcp}

and_true : (b : Bool) → (b && true) ≡ b
and_true true = refl
and_true false = refl

and_false : (b : Bool) → (b && false) ≡ false
and_false true = refl
and_false false = refl

-- ---- a unit comes

-- entry by entry
along : (past : History) (front es : List Entry) → unreplied past (front ++ es) ≡ own_after_all es (unreplied past front)
along past front [] = ap (unreplied past) (append-nil front)
along past front (e ∷ es) = ap (unreplied past) (sym (append_assoc front (e ∷ []) es)) ∙ along past (front ++ e ∷ []) es ∙ ap (own_after_all es) (one_entry past front e)

-- our calls wait on, but for those whose reply came
pub own_came : (cancels : Option Cancels) (past : History) (from : Option Origin) (u : Unit) → IsLawful cancels past → own_of (came from u ∷ past) ≡ own_after_all (entries_in u) (own_of past)
own_came cancels past from u lawful =
    own-came cancels past from u lawful ∙ along past [] (entries_in u)
    ∙ ap (own_after_all (entries_in u)) (sym (own-came cancels past None (Batch []) lawful) ∙ own_nothing past)

-- ---- nothing was refused

open_passed : (opened over : Bool) (tests : List (Bool × Refused)) → first_of ((not opened, NotOpen) ∷ (over, Over) ∷ tests) ≡ None → (opened ≡ true) × (over ≡ false)
open_passed true true tests h = absurd (cc)
open_passed true false tests h = (refl, refl)
open_passed false over tests h = absurd (cc)

waits_passed : (b : Bool) → first_of ((not b, NotWaiting) ∷ []) ≡ None → b ≡ true
waits_passed true h = refl
waits_passed false h = absurd (cc)

none_passed : (b : Bool) (tests : List (Bool × Refused)) → first_of ((b, NotOpen) ∷ tests) ≡ None → b ≡ false
none_passed true tests h = absurd (cc)
none_passed false tests h = refl

may_call : (past : History) (n count : ℕ) → call_refusal past n count ≡ None → (is_open n past ≡ true) × (is_over past ≡ false)
may_call past n count h = open_passed (is_open n past) (is_over past) ((count == 0, Empty) ∷ (nat_lt most_keys (key_count past + count), Full) ∷ []) h

-- ---- a call that is withdrawn was made

unmade_withdraws : (cancels : Option Cancels) (past : History) (h : Happening) (k : ℕ) → IsLawful cancels (h ∷ past) → key_count past < k → withdraws k h ≡ false
unmade_withdraws cancels past (came from u) k lawful new = refl
unmade_withdraws cancels past (called n o) k lawful new = refl
unmade_withdraws cancels past (called_all n os) k lawful new = refl
unmade_withdraws cancels past (noticed o) k lawful new = refl
unmade_withdraws cancels past (withdrew by j) k lawful new =
    let passed = waits_passed (has_cancels by cancels && is_waiting j past && not (is_withdrawn j past)) lawful.0 in
    let waiting_now = and-right (has_cancels by cancels) (is_waiting j past) (and-left (has_cancels by cancels && is_waiting j past) (not (is_withdrawn j past)) passed) in
    let within = waits_within past j waiting_now in
    let made : j ≤ key_count past = within.1 in
    different j k (λ e. omega arith)
unmade_withdraws cancels past (answered n a) k lawful new = refl
unmade_withdraws cancels past (ended close) k lawful new = refl

unmade_withdrawn : (cancels : Option Cancels) (history : History) (k : ℕ) → IsLawful cancels history → key_count history < k → is_withdrawn k history ≡ false
unmade_withdrawn cancels [] k lawful new = refl
unmade_withdrawn cancels (h ∷ past) k lawful new =
    let before : key_count past < k = omega (arith, key_count-more past h) in
    λ i. unmade_withdraws cancels past h k lawful before i || unmade_withdrawn cancels past k lawful.1 before i

-- ---- calls that are made

-- more numbers that all pass, each with a new call
picked-new : (p q : ℕ → Bool) (v w : ℕ → OwnCall) (n caller c : ℕ) → ((k : ℕ) → 0 < k → k ≤ n → p k ≡ q k) → ((k : ℕ) → 0 < k → k ≤ n → q k ≡ true → v k ≡ w k)
    → ((k : ℕ) → n < k → k ≤ n + c → p k ≡ true) → ((k : ℕ) → n < k → k ≤ n + c → v k ≡ new_call caller) → picked p v (n + c) ≡ picked q w n ++ new_calls n caller c
picked-new p q v w n caller zero test value passes new =
    let all : n + 0 ≡ n = omega arith in
    ap (picked p v) all ∙ picked-agree p q v w n test value ∙ sym (append-nil (picked q w n))
picked-new p q v w n caller (suc c) test value passes new =
    let next : n + suc c ≡ suc (n + c) = omega arith in
    let last_passes : p (suc (n + c)) ≡ true = passes (suc (n + c)) (omega arith) (omega arith) in
    let last_new : v (suc (n + c)) ≡ new_call caller = new (suc (n + c)) (omega arith) (omega arith) in
    ap (picked p v) next
    ∙ picked-more p v (n + c)
    ∙ (λ i. picked-new p q v w n caller c test value (λ k more h. passes k more (omega arith)) (λ k more h. new k more (omega arith)) i
    ++ cond (last_passes i) ((sym next i, last_new i) ∷ []) [])
    ∙ append_assoc (picked q w n) (new_calls n caller c) ((n + suc c, new_call caller) ∷ [])

own_call-kept : (past : History) (h : Happening) (k : ℕ) → caller_of k (h ∷ past) ≡ caller_of k past → withdraws k h ≡ false → own_call k (h ∷ past) ≡ own_call k past
own_call-kept past h k caller none = λ i. record { caller = unwrap_or (caller i) 0; is_withdrawn = none i || is_withdrawn k past }

own_call-new : (past : History) (h : Happening) (k n : ℕ) → caller_of k (h ∷ past) ≡ Some n → withdraws k h ≡ false → is_withdrawn k past ≡ false → own_call k (h ∷ past) ≡ new_call n
own_call-new past h k n caller none before = λ i. record { caller = unwrap_or (caller i) 0; is_withdrawn = none i || before i }

own_made : (cancels : Option Cancels) (past : History) (h : Happening) (n c : ℕ) → IsLawful cancels past → (is_open n past ≡ true) × (is_over past ≡ false) → key_count (h ∷ past) ≡ key_count past + c
    → ((k : ℕ) → withdraws k h ≡ false) → ((k : ℕ) → k ≤ key_count past → is_waiting k (h ∷ past) ≡ is_waiting k past)
    → ((k : ℕ) → key_count past < k → k ≤ key_count past + c → caller_of k (h ∷ past) ≡ Some n) → own_of (h ∷ past) ≡ own_with n c (own_of past)
own_made cancels past h n c lawful may count none old new =
    ap (λ m. own_list m (λ k. is_waiting k (h ∷ past)) (λ k. own_call k (h ∷ past))) count
    ∙ ap (λ l. record { made = key_count past + c; waiting = l })
    (picked-new (λ k. is_waiting k (h ∷ past)) (λ k. is_waiting k past) (λ k. own_call k (h ∷ past)) (λ k. own_call k past) (key_count past) n c
    (λ k some within. old k within)
    (λ k some within waiting_now. own_call-kept past h k (caller_of-made k past h within) (none k))
    (λ k more within. made_waits past h k n more (new k more within) may.0 may.1)
    (λ k more within. own_call-new past h k n (new k more within) (none k) (unmade_withdrawn cancels past k lawful more)))

one_new : (past : History) (n : ℕ) (o : Outgoing) (k : ℕ) → key_count past < k → k ≤ key_count past + 1 → caller_of k (called n o ∷ past) ≡ Some n
one_new past n o k more within =
    let it : key_count past + 1 ≡ k = omega arith in
    subst (λ j. caller_of j (called n o ∷ past) ≡ Some n) it (caller_of-called past n o)

-- a call that is made waits
pub own_called : (cancels : Option Cancels) (past : History) (n : ℕ) (o : Outgoing) → IsLawful cancels (called n o ∷ past) → own_of (called n o ∷ past) ≡ own_with n 1 (own_of past)
own_called cancels past n o lawful =
    own_made cancels past (called n o) n 1 lawful.1 (may_call past n 1 lawful.0) (key_count-called past n o) (λ k. refl)
    (λ k within. waiting-called_made k past n o within) (one_new past n o)

-- each call of a batch waits
pub own_called_all : (cancels : Option Cancels) (past : History) (n : ℕ) (os : List Outgoing) → IsLawful cancels (called_all n os ∷ past) → own_of (called_all n os ∷ past) ≡ own_with n (length os) (own_of past)
own_called_all cancels past n os lawful =
    own_made cancels past (called_all n os) n (length os) lawful.1 (may_call past n (length os) lawful.0) (key_count-called_all past n os) (λ k. refl)
    (λ k within. waiting-called_all_made k past n os within) (λ k more within. caller_of-called_all k past n os more within)

-- ---- a withdrawal

withdrawn_if : (b : Bool) (call : OwnCall) → record { caller = call.caller; is_withdrawn = b || call.is_withdrawn } ≡ cond b (withdrawn call) call
withdrawn_if true call = refl
withdrawn_if false call = refl

own_call-withdrew : (past : History) (by : Cancels) (j k : ℕ) → own_call k (withdrew by j ∷ past) ≡ cond (j == k) (withdrawn (own_call k past)) (own_call k past)
own_call-withdrew past by j k =
    ap (λ o. record { caller = unwrap_or o 0; is_withdrawn = (j == k) || is_withdrawn k past }) (caller_of-other k past (withdrew by j) refl) ∙ withdrawn_if (j == k) (own_call k past)

other_key : (b c : Bool) → (b && not c) ≡ true → c ≡ false
other_key true true h = absurd (cc)
other_key false true h = absurd (cc)
other_key b false h = refl

-- by LSP's cancel a call that is withdrawn waits on, and by MCP's no longer
pub own_withdrew : (past : History) (by : Cancels) (key : ℕ) → own_of (withdrew by key ∷ past) ≡ record (own_of past) { waiting = withdrawn_by by key (own_of past).waiting }
own_withdrew past Mcp key =
    own-changed past (withdrew Mcp key) (λ k. is_waiting k past && not (key == k)) (λ k. own_call k past) (key_count-other past (withdrew Mcp key) refl)
    (λ k some h. waiting-withdrew k past Mcp key)
    (λ k some h waiting_now. own_call-kept past (withdrew Mcp key) k (caller_of-other k past (withdrew Mcp key) refl) (other_key (is_waiting k past) (key == k) waiting_now))
    ∙ ap (λ l. record { made = key_count past; waiting = l }) (sym (filter-picked (λ e. not (key == e.0)) (λ k. is_waiting k past) (λ k. own_call k past) (key_count past)))
own_withdrew past Lsp key =
    own-changed past (withdrew Lsp key) (λ k. is_waiting k past) (λ k. cond (key == k) (withdrawn (own_call k past)) (own_call k past)) (key_count-other past (withdrew Lsp key) refl)
    (λ k some h. waiting-withdrew k past Lsp key ∙ and_true (is_waiting k past)) (λ k some h waiting_now. own_call-withdrew past Lsp key k)
    ∙ ap (λ l. record { made = key_count past; waiting = l }) (sym (changed-picked key withdrawn (λ k. is_waiting k past) (λ k. own_call k past) (key_count past)))

-- ---- an answer

-- the calls made on behalf of what is answered wait no more
answered_made : (past : History) (m : ℕ) (a : Option Answer) (k n : ℕ) (b : Bool) → 0 < m → caller_of k past ≡ Some n → (n == m) ≡ b → is_waiting k (answered m a ∷ past) ≡ (is_waiting k past && not b)
answered_made past m a k n true some caller is =
    waiting-answered k past m a some (caller ∙ ap Some (same n m is)) ∙ sym (and_false (is_waiting k past))
answered_made past m a k n false some caller is =
    waiting-answered_other k past m a (λ l called_by e. let it : Some l ≡ Some n = sym called_by ∙ caller in let other = apart n m is in other (sym (cc)))
    ∙ sym (and_true (is_waiting k past))

answered_by : (past : History) (m : ℕ) (a : Option Answer) (k : ℕ) (o : Option ℕ) → 0 < m → caller_of k past ≡ o → is_waiting k (answered m a ∷ past) ≡ (is_waiting k past && not (unwrap_or o 0 == m))
answered_by past m a k None some caller =
    waiting-answered_other k past m a (λ l called_by e. absurd (cc))
    ∙ unmade_idle k past caller ∙ ap (λ b. b && not (0 == m)) (sym (unmade_idle k past caller))
answered_by past m a k (Some n) some caller = answered_made past m a k n (n == m) some caller refl

not_zero : (m : ℕ) (other : Bool) → ((m == 0) || other) ≡ false → 0 < m
not_zero m other h = let ne : m ≢ 0 = apart m 0 (or-left (m == 0) other h) in omega arith

-- the calls made on behalf of others wait on
pub own_answered : (cancels : Option Cancels) (past : History) (m : ℕ) (a : Option Answer) → IsLawful cancels (answered m a ∷ past)
    → own_of (answered m a ∷ past) ≡ record (own_of past) { waiting = without_caller m (own_of past).waiting }
own_answered cancels past m a lawful =
    let some = not_zero m (not (is_open m past)) (none_passed (m == 0 || not (is_open m past)) ((is_left a && not (may_be_left cancels m past), Empty) ∷ []) lawful.0) in
    own-changed past (answered m a) (λ k. is_waiting k past && not (unwrap_or (caller_of k past) 0 == m)) (λ k. own_call k past) (key_count-other past (answered m a) refl)
    (λ k more h. answered_by past m a k (caller_of k past) some refl) (λ k more h waiting_now. own_call-kept past (answered m a) k (caller_of-other k past (answered m a) refl) refl)
    ∙ ap (λ l. record { made = key_count past; waiting = l }) (sym (filter-picked (λ e. not (e.1.caller == m)) (λ k. is_waiting k past) (λ k. own_call k past) (key_count past)))

-- ---- the end

none_passes : (ks : List ℕ) → filter (λ k. false) ks ≡ []
none_passes [] = refl
none_passes (k ∷ ks) = none_passes ks

-- none waits
pub own_ended : (past : History) (close : Close) → own_of (ended close ∷ past) ≡ record (own_of past) { waiting = [] }
own_ended past close =
    own-changed past (ended close) (λ k. false) (λ k. own_call k past) (key_count-other past (ended close) refl)
    (λ k some h. waiting-ended k past close) (λ k some h waiting_now. absurd (cc))
    ∙ ap (λ ks. record { made = key_count past; waiting = map (with_value (λ k. own_call k past)) ks }) (none_passes (numbers_to (key_count past)))
