-- The replies that are told, and the calls that are told to have none.
use Rattle.std.proofs.Common.{◌≡◌, ℕ, ◌==◌, List, [], ◌∷◌, ◌++◌, map, Bool, true, false, cond, Option, Some, None, refl, sym, ap, subst, ◌∙◌, append_assoc, append-nil}
use Rattle.std.specs.Prelude.{is_some}
use Rattle.connection_messages.specs.declared.entry.Entry.{Entry}
use Rattle.connection_messages.specs.declared.entry.Entry.TheVariants.{Call, Cancel, Reply, Stray, Invalid}
use Rattle.connection_messages.specs.declared.reply.Reply.{Reply as Replied}
use Rattle.connection_messages.specs.declared.unit.Unit.TheVariants.{Batch}
use Rattle.connection_history.specs.declared.event.Event.{Event}
use Rattle.connection_history.specs.declared.event.Event.TheVariants as event
use Rattle.connection_history.specs.Stream.{entries_in, first_reply}
use Rattle.connection_history.specs.Events.{reached, events_of_entry, events_along, events_at, events_of, broken_in, broken_at}
use Rattle.connection_history.specs.History.{Happening, came, called, called_all, noticed, withdrew, answered, ended, History, or_else, caller_of, reply_at, reply_to, is_waiting, waiting, Origin}
use Rattle.connection_history.specs.Told.{replies_told, AtMost}
use Rattle.connection_history.proofs.Histories.{caller_of-came, reply_to-came, reply_to-entries, waits}
use Rattle.connection_history.proofs.Tests.{same, or_else-none}
use Rattle.connection_history.proofs.Along.{so_far}
use Rattle.connection_history.specs.declared.broken.Broken.{Broken}
use Rattle.connection_messages.specs.declared.unit.Unit.{Unit}

-- ---- lists of events

told_on : (b : Bool) (r : Replied) (front rest whole : List Replied) → whole ≡ front ++ rest → cond b (r ∷ whole) whole ≡ cond b (r ∷ front) front ++ rest
told_on true r front rest whole h = ap (λ l. r ∷ l) h
told_on false r front rest whole h = h

-- the replies to a call in events, and then in more
pub replies_told-append : (k : ℕ) (told more : List Event) → replies_told k (told ++ more) ≡ replies_told k told ++ replies_told k more
replies_told-append k [] more = refl
replies_told-append k (event.Call n c ∷ told) more = replies_told-append k told more
replies_told-append k (event.Cancelled n ∷ told) more = replies_told-append k told more
replies_told-append k (event.Replied j r ∷ told) more = told_on (j == k) r (replies_told k told) (replies_told k more) (replies_told k (told ++ more)) (replies_told-append k told more)
replies_told-append k (event.Unanswered j ∷ told) more = replies_told-append k told more
replies_told-append k (event.Over close ∷ told) more = replies_told-append k told more
replies_told-append k (event.Broken b ∷ told) more = replies_told-append k told more

replies_told-defects : (k : ℕ) (bs : List Broken) (told : List Event) → replies_told k (map event.Broken bs ++ told) ≡ replies_told k told
replies_told-defects k [] told = refl
replies_told-defects k (b ∷ bs) told = replies_told-defects k bs told

-- what is broken tells no reply
pub replies_told-broken : (k : ℕ) (from : Option Origin) (u : Unit) (told : List Event) → replies_told k (broken_at from u ++ told) ≡ replies_told k told
replies_told-broken k from u told = replies_told-defects k (broken_in from u) told

-- a cancel tells no reply
pub replies_told-cancelled : (k : ℕ) (ns : List ℕ) → replies_told k (map event.Cancelled ns) ≡ []
replies_told-cancelled k [] = refl
replies_told-cancelled k (n ∷ ns) = replies_told-cancelled k ns

-- nor does the end
pub replies_told-unanswered : (k : ℕ) (ks : List ℕ) (told : List Event) → replies_told k (map event.Unanswered ks ++ told) ≡ replies_told k told
replies_told-unanswered k [] told = refl
replies_told-unanswered k (j ∷ ks) told = replies_told-unanswered k ks told

-- ---- at most one reply

none-yet : (told : List Replied) (o : Option Replied) → AtMost told o → o ≡ None → told ≡ []
none-yet [] o h none = refl
none-yet (r ∷ []) o h none = let is : o ≡ Some r = h in absurd (cc)
none-yet (r ∷ s ∷ told) o h none = absurd h

at_most-later : (told : List Replied) (o later : Option Replied) → AtMost told o → AtMost told (or_else o later)
at_most-later [] o later h = tt
at_most-later (r ∷ []) o later h = ap (λ p. or_else p later) h
at_most-later (r ∷ s ∷ told) o later h = h

-- the reply, as far as it is known, with one entry more
abbrev with_entry : ℕ → History → Entry → Option Replied
with_entry k past e = cond (is_some (caller_of k past)) (first_reply k (e ∷ [])) None

nothing_told : (told : List Replied) (o later next : Option Replied) → AtMost told o → next ≡ or_else o later → AtMost (told ++ []) next
nothing_told told o later next h is = subst (λ p. AtMost (told ++ []) p) (sym is) (subst (λ l. AtMost l (or_else o later)) (sym (append-nil told)) (at_most-later told o later h))

reply-told : (k : ℕ) (past : History) (front : List Entry) (told : List Replied) (j : ℕ) (r : Replied) (b c : Bool) → is_waiting j (so_far past front) ≡ b → (j == k) ≡ c
    → AtMost told (reply_to k (so_far past front))
    → AtMost (told ++ replies_told k (cond b (event.Replied j r ∷ []) [])) (or_else (reply_to k (so_far past front)) (cond (is_some (caller_of k past)) (cond c (Some r) None) None))
reply-told k past front told j r false c not_waiting is h = nothing_told told (reply_to k (so_far past front)) (cond (is_some (caller_of k past)) (cond c (Some r) None) None) _ h refl
reply-told k past front told j r true false waits_for other h =
    subst (λ l. AtMost (told ++ l) (or_else (reply_to k (so_far past front)) (cond (is_some (caller_of k past)) None None)))
    (sym (ap (λ d. cond d (r ∷ []) []) other))
    (nothing_told told (reply_to k (so_far past front)) (cond (is_some (caller_of k past)) None None) _ h refl)
reply-told k past front told j r true true waits_for is h =
    let key : j ≡ k = same j k is in
    let w = waits k (so_far past front) (ap (λ i. is_waiting i (so_far past front)) (sym key) ∙ waits_for) in
    let none : told ≡ [] = none-yet told (reply_to k (so_far past front)) h w.none in
    let made : is_some (caller_of k past) ≡ true = ap is_some (sym (caller_of-came k past None (Batch front)) ∙ w.caller) in
    let all : ◌≡◌ {A = List Replied} (r ∷ []) (told ++ cond (j == k) (r ∷ []) []) = λ i. sym none i ++ cond (sym is i) (r ∷ []) [] in
    let reply : or_else (reply_to k (so_far past front)) (cond (is_some (caller_of k past)) (Some r) None) ≡ Some r = λ i. or_else (w.none i) (cond (made i) (Some r) None) in
    subst (λ l. AtMost l (or_else (reply_to k (so_far past front)) (cond (is_some (caller_of k past)) (Some r) None))) all reply

entry-told : (k : ℕ) (past : History) (front : List Entry) (told : List Replied) (e : Entry) → AtMost told (reply_to k (so_far past front))
    → AtMost (told ++ replies_told k (events_of_entry (so_far past front) e)) (or_else (reply_to k (so_far past front)) (with_entry k past e))
entry-told k past front told (Call c) h = nothing_told told (reply_to k (so_far past front)) (with_entry k past (Call c)) _ h refl
entry-told k past front told (Cancel id) h =
    subst (λ l. AtMost (told ++ l) (or_else (reply_to k (so_far past front)) (with_entry k past (Cancel id)))) (sym (replies_told-cancelled k (reached id (so_far past front))))
    (nothing_told told (reply_to k (so_far past front)) (with_entry k past (Cancel id)) _ h refl)
entry-told k past front told (Reply j r) h = reply-told k past front told j r (is_waiting j (so_far past front)) (j == k) refl refl h
entry-told k past front told Stray h = nothing_told told (reply_to k (so_far past front)) (with_entry k past Stray) _ h refl
entry-told k past front told Invalid h = nothing_told told (reply_to k (so_far past front)) (with_entry k past Invalid) _ h refl

entries-told : (k : ℕ) (past : History) (front es : List Entry) (told : List Replied) → AtMost told (reply_to k (so_far past front))
    → AtMost (told ++ replies_told k (events_along past front es)) (reply_to k (so_far past (front ++ es)))
entries-told k past front [] told h =
    subst (λ l. AtMost l (reply_to k (so_far past (front ++ [])))) (sym (append-nil told))
    (subst (λ es. AtMost told (reply_to k (so_far past es))) (sym (append-nil front)) h)
entries-told k past front (e ∷ es) told h =
    let here = replies_told k (events_of_entry (so_far past front) e) in
    let rest = events_along past (front ++ e ∷ []) es in
    let after_it : AtMost (told ++ here) (reply_to k (so_far past (front ++ e ∷ []))) =
    subst (λ o. AtMost (told ++ here) o) (sym (reply_to-entries k past front (e ∷ []))) (entry-told k past front told e h) in
    let after_all = entries-told k past (front ++ e ∷ []) es (told ++ here) after_it in
    subst (λ l. AtMost l (reply_to k (so_far past (front ++ e ∷ es)))) (append_assoc told here (replies_told k rest) ∙ ap (λ l. told ++ l) (sym (replies_told-append k (events_of_entry (so_far past front) e) rest)))
    (subst (λ l. AtMost ((told ++ here) ++ replies_told k rest) (reply_to k (so_far past l))) (append_assoc front (e ∷ []) es) after_all)

-- no reply comes later
pub no_more : (b : Bool) (o : Option Replied) → or_else o (cond b None None) ≡ o
no_more true o = or_else-none o
no_more false o = or_else-none o

happening-told : (k : ℕ) (past : History) (h : Happening) (told : List Replied) → AtMost told (reply_to k past) → AtMost (told ++ replies_told k (events_at past h)) (reply_to k (h ∷ past))
happening-told k past (came from u) told before =
    let start : reply_to k (so_far past []) ≡ reply_to k past = reply_to-came k past None (Batch []) ∙ no_more (is_some (caller_of k past)) (reply_to k past) in
    let all = entries-told k past [] (entries_in u) told (subst (λ o. AtMost told o) (sym start) before) in
    subst (λ l. AtMost (told ++ l) (reply_to k (came from u ∷ past))) (sym (replies_told-broken k from u (events_along past [] (entries_in u))))
    (subst (λ o. AtMost (told ++ replies_told k (events_along past [] (entries_in u))) o) (reply_to-came k past None (Batch (entries_in u)) ∙ sym (reply_to-came k past from u)) all)
happening-told k past (called n o) told before = nothing_told told (reply_to k past) (reply_at k past (called n o)) _ before refl
happening-told k past (called_all n os) told before = nothing_told told (reply_to k past) (reply_at k past (called_all n os)) _ before refl
happening-told k past (noticed o) told before = nothing_told told (reply_to k past) (reply_at k past (noticed o)) _ before refl
happening-told k past (withdrew by j) told before = nothing_told told (reply_to k past) (reply_at k past (withdrew by j)) _ before refl
happening-told k past (answered n a) told before = nothing_told told (reply_to k past) (reply_at k past (answered n a)) _ before refl
happening-told k past (ended close) told before =
    subst (λ l. AtMost (told ++ l) (reply_to k (ended close ∷ past))) (sym (replies_told-unanswered k (waiting past) (event.Over close ∷ [])))
    (nothing_told told (reply_to k past) (reply_at k past (ended close)) _ before refl)

-- a reply that is told is the first after its call, and is told once
pub first_told : (history : History) (k : ℕ) → AtMost (replies_told k (events_of history)) (reply_to k history)
first_told [] k = tt
first_told (h ∷ past) k =
    subst (λ l. AtMost l (reply_to k (h ∷ past))) (sym (replies_told-append k (events_of past) (events_at past h)))
    (happening-told k past h (replies_told k (events_of past)) (first_told past k))
