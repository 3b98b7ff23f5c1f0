-- The reply that is told to a call that waits, and none to a call that doesn't.
use Rattle.std.proofs.Common.{◌≡◌, ℕ, ◌==◌, List, [], ◌∷◌, ◌++◌, Bool, true, false, cond, inl, inr, Option, Some, None, refl, sym, ap, ◌∙◌, append_assoc, append-nil}
use Rattle.std.specs.Prelude.{is_some}
use Rattle.connection_messages.specs.declared.entry.Entry.{Entry}
use Rattle.connection_messages.specs.declared.entry.Entry.TheVariants.{Call, Cancel, Reply, Stray, Invalid}
use Rattle.connection_messages.specs.declared.reply.Reply.{Reply as Replied}
use Rattle.connection_messages.specs.declared.unit.Unit.{Unit}
use Rattle.connection_messages.specs.declared.unit.Unit.TheVariants.{Batch}
use Rattle.connection_history.specs.declared.event.Event.TheVariants as event
use Rattle.connection_history.specs.Stream.{entries_in, first_reply}
use Rattle.connection_history.specs.Events.{reached, events_of_entry, events_along, events_at}
use Rattle.connection_history.specs.History.{Happening, came, called, called_all, noticed, withdrew, answered, ended, History, or_else, caller_of, reply_to, is_waiting, waiting, Origin}
use Rattle.connection_history.specs.Refusals.{IsLawful}
use Rattle.connection_history.specs.Told.{replies_told}
use Rattle.connection_history.proofs.Histories.{caller_of-came, reply_to-came, reply_to-entries, open-came, open-entry, Waits, waits, waiting-from}
use Rattle.connection_history.proofs.Waiting.{never, waited_before}
use Rattle.connection_history.proofs.Tests.{two, same, same_test}
use Rattle.connection_history.proofs.Along.{so_far}
use Rattle.connection_history.proofs.RepliesTold.{replies_told-append, replies_told-broken, replies_told-cancelled, replies_told-unanswered, no_more}
use Rattle.connection_messages.specs.declared.cancels.Cancels.{Cancels}

-- ---- a call that has its reply

if_other : (b : Bool) (j : ℕ) (k : ℕ) (r : Replied) → (j == k) ≡ false → replies_told k (cond b (event.Replied j r ∷ []) []) ≡ []
if_other true j k r h = ap (λ d. cond d (r ∷ []) []) h
if_other false j k r h = refl

not_waiting-told : (j k : ℕ) (r : Replied) (b : Bool) → b ≡ false → replies_told k (cond b (event.Replied j r ∷ []) []) ≡ []
not_waiting-told j k r true h = absurd (cc)
not_waiting-told j k r false h = refl

-- an entry tells nothing to a call that doesn't wait
quiet_reply : (k : ℕ) (history : History) (j : ℕ) (r : Replied) (c : Bool) → (j == k) ≡ c → is_waiting k history ≡ false → replies_told k (events_of_entry history (Reply j r)) ≡ []
quiet_reply k history j r true is h = not_waiting-told j k r (is_waiting j history) (ap (λ i. is_waiting i history) (same j k is) ∙ h)
quiet_reply k history j r false is h = if_other (is_waiting j history) j k r is

quiet_entry : (k : ℕ) (history : History) (e : Entry) → is_waiting k history ≡ false → replies_told k (events_of_entry history e) ≡ []
quiet_entry k history (Call c) h = refl
quiet_entry k history (Cancel id) h = replies_told-cancelled k (reached id history)
quiet_entry k history (Reply j r) h = quiet_reply k history j r (j == k) refl h
quiet_entry k history Stray h = refl
quiet_entry k history Invalid h = refl

-- where the call waits no more, nothing is told to it
pub quiet_along : (k : ℕ) (past : History) (front es : List Entry) → ((more : List Entry) → is_waiting k (so_far past (front ++ more)) ≡ false) → replies_told k (events_along past front es) ≡ []
quiet_along k past front [] h = refl
quiet_along k past front (e ∷ es) h =
    replies_told-append k (events_of_entry (so_far past front) e) (events_along past (front ++ e ∷ []) es)
    ∙ (λ i. quiet_entry k (so_far past front) e (ap (λ l. is_waiting k (so_far past l)) (sym (append-nil front)) ∙ h []) i
    ++ quiet_along k past (front ++ e ∷ []) es (λ more. ap (λ l. is_waiting k (so_far past l)) (append_assoc front (e ∷ []) more) ∙ h (e ∷ more)) i)

-- a call that has its reply waits no more
has_reply : (k : ℕ) (past : History) (front : List Entry) (r : Replied) → reply_to k (so_far past front) ≡ Some r → (more : List Entry) → is_waiting k (so_far past (front ++ more)) ≡ false
has_reply k past front r told more = never (is_waiting k (so_far past (front ++ more))) (λ waiting_still.
    let w = waits k (so_far past (front ++ more)) waiting_still in
    let none = w.none in
    let some = reply_to-entries k past front more in
    let kept : or_else (reply_to k (so_far past front)) (cond (is_some (caller_of k past)) (first_reply k more) None) ≡ Some r = ap (λ o. or_else o (cond (is_some (caller_of k past)) (first_reply k more) None)) told in
    cc)

-- ---- a call that waits

neither : (b : Bool) → cond {A = Option Replied} b None None ≡ None
neither true = refl
neither false = refl

-- It waits on where the entry is no reply to it.
waits_on : (k : ℕ) (past : History) (front : List Entry) (e : Entry) → Waits k (so_far past front) → first_reply k (e ∷ []) ≡ None → Waits k (so_far past (front ++ e ∷ []))
waits_on k past front e w none = record {
  number = w.number;
  caller = caller_of-came k past None (Batch (front ++ e ∷ [])) ∙ sym (caller_of-came k past None (Batch front)) ∙ w.caller;
  opened = open-entry w.number past front e w.opened;
  none =
      reply_to-entries k past front (e ∷ [])
      ∙ (λ i. or_else (w.none i) (cond (is_some (caller_of k past)) (none i) None))
      ∙ neither (is_some (caller_of k past));
  going_on = w.going_on;
  kept = w.kept;
}

-- the reply that is told to it
the_reply : (k : ℕ) (past : History) (front : List Entry) (j : ℕ) (r : Replied) → j ≡ k → Waits k (so_far past front) → reply_to k (so_far past (front ++ Reply j r ∷ [])) ≡ Some r
the_reply k past front j r key w =
    let made : is_some (caller_of k past) ≡ true = ap is_some (sym (caller_of-came k past None (Batch front)) ∙ w.caller) in
    let is : first_reply k (Reply j r ∷ []) ≡ Some r = ap (λ b. cond b (Some r) None) (same_test j k key) in
    reply_to-entries k past front (Reply j r ∷ []) ∙ (λ i. or_else (w.none i) (cond (made i) (is i) None))

told-here : (k : ℕ) (history : History) (j : ℕ) (r : Replied) → j ≡ k → is_waiting k history ≡ true → replies_told k (events_of_entry history (Reply j r)) ≡ r ∷ []
told-here k history j r key h =
    ap (λ b. replies_told k (cond b (event.Replied j r ∷ []) [])) (ap (λ i. is_waiting i history) key ∙ h)
    ∙ ap (λ b. cond b (r ∷ []) []) (same_test j k key)

skipped : (k : ℕ) (past : History) (front : List Entry) (e : Entry) (es : List Entry) (r : Replied) → replies_told k (events_of_entry (so_far past front) e) ≡ []
    → replies_told k (events_along past (front ++ e ∷ []) es) ≡ r ∷ [] → replies_told k (events_along past front (e ∷ es)) ≡ r ∷ []
skipped k past front e es r none rest =
    replies_told-append k (events_of_entry (so_far past front) e) (events_along past (front ++ e ∷ []) es) ∙ (λ i. none i ++ rest i)

waiting-along : (k : ℕ) (past : History) (front es : List Entry) (r : Replied) → Waits k (so_far past front) → first_reply k es ≡ Some r → replies_told k (events_along past front es) ≡ r ∷ []
waiting-along k past front [] r w is = absurd (cc)
waiting-along k past front (Call c ∷ es) r w is = skipped k past front (Call c) es r refl (waiting-along k past (front ++ Call c ∷ []) es r (waits_on k past front (Call c) w refl) is)
waiting-along k past front (Cancel id ∷ es) r w is =
    skipped k past front (Cancel id) es r (replies_told-cancelled k (reached id (so_far past front))) (waiting-along k past (front ++ Cancel id ∷ []) es r (waits_on k past front (Cancel id) w refl) is)
waiting-along k past front (Reply j s ∷ es) r w is = elim (two (j == k)) [
  | inl it ↦
      let key : j ≡ k = same j k it in
      let first : s ≡ r = let found : cond true (Some s) (first_reply k es) ≡ Some r = ap (λ b. cond b (Some s) (first_reply k es)) (sym it) ∙ is in cc in
      replies_told-append k (events_of_entry (so_far past front) (Reply j s)) (events_along past (front ++ Reply j s ∷ []) es)
      ∙ (λ i. told-here k (so_far past front) j s key (waiting-from k (so_far past front) w) i
      ++ quiet_along k past (front ++ Reply j s ∷ []) es (has_reply k past (front ++ Reply j s ∷ []) s (the_reply k past front j s key w)) i)
      ∙ ap (λ t. t ∷ []) first
  | inr other ↦
      skipped k past front (Reply j s) es r (if_other (is_waiting j (so_far past front)) j k s other)
      (waiting-along k past (front ++ Reply j s ∷ []) es r (waits_on k past front (Reply j s) w (ap (λ b. cond b (Some s) None) other))
      (ap (λ b. cond b (Some s) (first_reply k es)) (sym other) ∙ is))
]
waiting-along k past front (Stray ∷ es) r w is = skipped k past front Stray es r refl (waiting-along k past (front ++ Stray ∷ []) es r (waits_on k past front Stray w refl) is)
waiting-along k past front (Invalid ∷ es) r w is = skipped k past front Invalid es r refl (waiting-along k past (front ++ Invalid ∷ []) es r (waits_on k past front Invalid w refl) is)

-- a call that waits when a unit comes waits at the unit's first entry
waits_at_first : (k : ℕ) (past : History) → Waits k past → Waits k (so_far past [])
waits_at_first k past w = record {
  number = w.number;
  caller = caller_of-came k past None (Batch []) ∙ w.caller;
  opened = open-came w.number past None (Batch []) w.opened;
  none = reply_to-came k past None (Batch []) ∙ no_more (is_some (caller_of k past)) (reply_to k past) ∙ w.none;
  going_on = w.going_on;
  kept = w.kept;
}

-- a call that waits is told its reply
pub waiting_told : (past : History) (from : Option Origin) (u : Unit) (k : ℕ) (r : Replied) → is_waiting k past ≡ true → first_reply k (entries_in u) ≡ Some r → replies_told k (events_at past (came from u)) ≡ r ∷ []
waiting_told past from u k r waiting_now is =
    replies_told-broken k from u (events_along past [] (entries_in u))
    ∙ waiting-along k past [] (entries_in u) r (waits_at_first k past (waits k past waiting_now)) is

-- ---- a call that doesn't wait

-- a call that doesn't wait is told no reply
pub not_waiting_told : (cancels : Option Cancels) (past : History) (h : Happening) (k : ℕ) → IsLawful cancels past → is_waiting k past ≡ false → replies_told k (events_at past h) ≡ []
not_waiting_told cancels past (came from u) k lawful idle =
    replies_told-broken k from u (events_along past [] (entries_in u))
    ∙ quiet_along k past [] (entries_in u) (λ more. never (is_waiting k (so_far past more)) (λ waiting_now.
    let before = waiting-from k past (waited_before cancels k past None (Batch more) lawful (waits k (so_far past more) waiting_now)) in
    cc))
not_waiting_told cancels past (called n o) k lawful idle = refl
not_waiting_told cancels past (called_all n os) k lawful idle = refl
not_waiting_told cancels past (noticed o) k lawful idle = refl
not_waiting_told cancels past (withdrew by j) k lawful idle = refl
not_waiting_told cancels past (answered n a) k lawful idle = refl
not_waiting_told cancels past (ended close) k lawful idle = replies_told-unanswered k (waiting past) (event.Over close ∷ [])
