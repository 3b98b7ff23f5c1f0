-- Our calls that wait, as a unit comes entry by entry.
use Rattle.std.proofs.Common.{◌≡◌, ℕ, zero, suc, ◌<◌, ◌≤◌, ◌==◌, ◌&&◌, not, List, [], ◌∷◌, ◌++◌, Bool, true, false, cond, Option, Some, None, refl, sym, ap, ◌∙◌, append-nil}
use Rattle.std.specs.Prelude.{is_some, unwrap_or}
use Rattle.std.specs.Option.{is_none, option_map_or}
use Rattle.connection_messages.specs.declared.entry.Entry.{Entry}
use Rattle.connection_messages.specs.declared.entry.Entry.TheVariants.{Call, Cancel, Reply, Stray, Invalid}
use Rattle.connection_messages.specs.declared.reply.Reply.{Reply as Replied}
use Rattle.connection_messages.specs.declared.unit.Unit.{Unit}
use Rattle.connection_messages.specs.declared.unit.Unit.TheVariants.{Batch}
use Rattle.connection_history.specs.Stream.{entries_in, call_numbered, first_reply}
use Rattle.connection_history.specs.History.{Happening, came, History, or_else, stream, is_over, is_open, key_count, caller_of, reply_to, is_given_up, is_waiting, is_withdrawn, Origin}
use Rattle.connection_history.specs.Refusals.{IsLawful}
use Rattle.connection_history.proofs.Histories.{stream-came, answer_to-came, caller_of-came, caller_of-within, reply_to-came, waits}
use Rattle.connection_history.proofs.OurCalls.{key_count-other}
use Rattle.connection_history.proofs.Streams.{first_reply-append}
use Rattle.connection_history.proofs.Tests.{or_else-none}
use Rattle.connection_history.proofs.Waiting.{waiting-came}
use Rattle.open_calls.specs.declared.own_call.OwnCall.{OwnCall}
use Rattle.open_calls.specs.Numbered.{at}
use Rattle.open_calls.specs.Own.{OwnState}
use Rattle.connection_steps.specs.States.{own_call, own_of}
use Rattle.connection_steps.specs.Steps.{own_after}
use Rattle.connection_steps.proofs.OwnPicked.{picked, picked-agree, at-picked, filter-picked}
use Rattle.connection_messages.specs.declared.cancels.Cancels.{Cancels}

-- ---- our calls as a list

-- so many calls were made, and those that pass wait
abbrev pub own_list : ℕ → (ℕ → Bool) → (ℕ → OwnCall) → OwnState
own_list n p v = record { made = n; waiting = picked p v n }

-- tests that agree, and calls that agree where they pass
pub own-agree : (n : ℕ) (p q : ℕ → Bool) (v w : ℕ → OwnCall) → ((k : ℕ) → 0 < k → k ≤ n → p k ≡ q k) → ((k : ℕ) → 0 < k → k ≤ n → q k ≡ true → v k ≡ w k) → own_list n p v ≡ own_list n q w
own-agree n p q v w test value = ap (λ l. record { made = n; waiting = l }) (picked-agree p q v w n test value)

-- after what makes no call of ours
pub own-changed : (past : History) (h : Happening) (q : ℕ → Bool) (w : ℕ → OwnCall) → key_count (h ∷ past) ≡ key_count past
    → ((k : ℕ) → 0 < k → k ≤ key_count past → is_waiting k (h ∷ past) ≡ q k) → ((k : ℕ) → 0 < k → k ≤ key_count past → q k ≡ true → own_call k (h ∷ past) ≡ w k)
    → own_of (h ∷ past) ≡ own_list (key_count past) q w
own-changed past h q w count test value =
    ap (λ n. own_list n (λ k. is_waiting k (h ∷ past)) (λ k. own_call k (h ∷ past))) count
    ∙ own-agree (key_count past) (λ k. is_waiting k (h ∷ past)) q (λ k. own_call k (h ∷ past)) w test value

-- ---- a call is found by its key

-- a call that waits has one of the keys
pub waits_within : (history : History) (key : ℕ) → is_waiting key history ≡ true → (0 < key) × (key ≤ key_count history)
waits_within history key h = let w = waits key history h in caller_of-within key history w.number w.caller

-- what stands under its key
pub found : (history : History) (key : ℕ) → at key (own_of history).waiting ≡ cond (is_waiting key history) (Some (own_call key history)) None
found history key = at-picked (λ k. is_waiting k history) (λ k. own_call k history) key (key_count history) (waits_within history key)

is_some-cond : (b : Bool) (c : OwnCall) → is_some (cond b (Some c) None) ≡ b
is_some-cond true c = refl
is_some-cond false c = refl

-- whether it waits
pub waits_at : (history : History) (key : ℕ) → is_waiting key history ≡ is_some (at key (own_of history).waiting)
waits_at history key = sym (ap is_some (found history key) ∙ is_some-cond (is_waiting key history) (own_call key history))

-- ---- what comes

-- it makes no call of ours and withdraws none
pub own_call-came : (past : History) (from : Option Origin) (u : Unit) (k : ℕ) → own_call k (came from u ∷ past) ≡ own_call k past
own_call-came past from u k = ap (λ o. record { caller = unwrap_or o 0; is_withdrawn = is_withdrawn k past }) (caller_of-came k past from u)

neither : (b : Bool) (o : Option Replied) → or_else o (cond b None None) ≡ o
neither true o = or_else-none o
neither false o = or_else-none o

nothing-open : (n : ℕ) (past : History) → is_open n (came None (Batch []) ∷ past) ≡ is_open n past
nothing-open zero past = refl
nothing-open (suc n) past =
    let same : stream (came None (Batch []) ∷ past) ≡ stream past = stream-came past None (Batch []) ∙ append-nil (stream past) in
    λ i. is_some (call_numbered (suc n) (same i)) && is_none (answer_to-came (suc n) past None (Batch []) i)

nothing-waiting : (k : ℕ) (past : History) → is_waiting k (came None (Batch []) ∷ past) ≡ is_waiting k past
nothing-waiting k past =
    let reply : reply_to k (came None (Batch []) ∷ past) ≡ reply_to k past = reply_to-came k past None (Batch []) ∙ neither (is_some (caller_of k past)) (reply_to k past) in
    λ i. option_map_or (λ n. nothing-open n past i) (caller_of-came k past None (Batch []) i) false && is_none (reply i) && not (is_over past) && not (is_given_up k past)

-- an array with no entry changes nothing
pub own_nothing : (past : History) → own_of (came None (Batch []) ∷ past) ≡ own_of past
own_nothing past =
    own-changed past (came None (Batch [])) (λ k. is_waiting k past) (λ k. own_call k past) (key_count-other past (came None (Batch [])) refl)
    (λ k some h. nothing-waiting k past) (λ k some h waiting. own_call-came past None (Batch []) k)

-- our calls of a history that wait on after these entries
abbrev pub unreplied : History → List Entry → OwnState
unreplied past es = own_list (key_count past) (λ k. is_waiting k past && is_none (first_reply k es)) (λ k. own_call k past)

-- when a unit comes, our calls wait on unless their reply is there
pub own-came : (cancels : Option Cancels) (past : History) (from : Option Origin) (u : Unit) → IsLawful cancels past → own_of (came from u ∷ past) ≡ unreplied past (entries_in u)
own-came cancels past from u lawful =
    own-changed past (came from u) (λ k. is_waiting k past && is_none (first_reply k (entries_in u))) (λ k. own_call k past) (key_count-other past (came from u) refl)
    (λ k some h. waiting-came cancels k past from u lawful) (λ k some h waiting. own_call-came past from u k)

none-later : (b : Bool) (o later : Option Replied) → later ≡ None → (b && is_none (or_else o later)) ≡ (b && is_none o)
none-later b o later none = ap (λ p. b && is_none (or_else o p)) none ∙ ap (λ p. b && is_none p) (or_else-none o)

other_entry : (past : History) (front : List Entry) (e : Entry) → ((k : ℕ) → first_reply k (e ∷ []) ≡ None) → unreplied past (front ++ e ∷ []) ≡ unreplied past front
other_entry past front e none =
    own-agree (key_count past) (λ k. is_waiting k past && is_none (first_reply k (front ++ e ∷ []))) (λ k. is_waiting k past && is_none (first_reply k front)) (λ k. own_call k past) (λ k. own_call k past)
    (λ k some h. ap (λ o. is_waiting k past && is_none o) (first_reply-append k front (e ∷ [])) ∙ none-later (is_waiting k past) (first_reply k front) (first_reply k (e ∷ [])) (none k))
    (λ k some h waiting. refl)

one_more : (b c : Bool) (o : Option Replied) (r : Replied) → (b && is_none (or_else o (cond c (Some r) None))) ≡ ((b && is_none o) && not c)
one_more false c o r = refl
one_more true c (Some s) r = refl
one_more true true None r = refl
one_more true false None r = refl

reply_entry : (past : History) (front : List Entry) (j : ℕ) (r : Replied) → unreplied past (front ++ Reply j r ∷ []) ≡ own_after (Reply j r) (unreplied past front)
reply_entry past front j r =
    own-agree (key_count past) (λ k. is_waiting k past && is_none (first_reply k (front ++ Reply j r ∷ []))) (λ k. (is_waiting k past && is_none (first_reply k front)) && not (j == k))
    (λ k. own_call k past) (λ k. own_call k past)
    (λ k some h. ap (λ o. is_waiting k past && is_none o) (first_reply-append k front (Reply j r ∷ [])) ∙ one_more (is_waiting k past) (j == k) (first_reply k front) r)
    (λ k some h waiting. refl)
    ∙ ap (λ l. record { made = key_count past; waiting = l })
    (sym (filter-picked (λ e. not (j == e.0)) (λ k. is_waiting k past && is_none (first_reply k front)) (λ k. own_call k past) (key_count past)))

-- with one entry more
pub one_entry : (past : History) (front : List Entry) (e : Entry) → unreplied past (front ++ e ∷ []) ≡ own_after e (unreplied past front)
one_entry past front (Call c) = other_entry past front (Call c) (λ k. refl)
one_entry past front (Cancel id) = other_entry past front (Cancel id) (λ k. refl)
one_entry past front (Reply j r) = reply_entry past front j r
one_entry past front Stray = other_entry past front Stray (λ k. refl)
one_entry past front Invalid = other_entry past front Invalid (λ k. refl)

-- one entry more in an array that comes
pub own_entry : (cancels : Option Cancels) (past : History) (front : List Entry) (e : Entry) → IsLawful cancels past
    → own_of (came None (Batch (front ++ e ∷ [])) ∷ past) ≡ own_after e (own_of (came None (Batch front) ∷ past))
own_entry cancels past front e lawful =
    own-came cancels past None (Batch (front ++ e ∷ [])) lawful ∙ one_entry past front e ∙ ap (own_after e) (sym (own-came cancels past None (Batch front) lawful))
