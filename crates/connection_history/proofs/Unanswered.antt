-- The calls that are told to have no reply.
use Rattle.std.proofs.Common.{◌≡◌, ℕ, ◌+◌, ◌==◌, List, [], ◌∷◌, ◌++◌, map, Bool, true, false, cond, refl, ap, ◌∙◌, arith, Option}
use Rattle.connection_messages.specs.declared.entry.Entry.{Entry}
use Rattle.connection_messages.specs.declared.entry.Entry.TheVariants.{Call, Cancel, Reply, Stray, Invalid}
use Rattle.connection_messages.specs.declared.reply.Reply.{Reply as Replied}
use Rattle.connection_history.specs.declared.close.Close.{Close}
use Rattle.connection_history.specs.declared.event.Event.{Event}
use Rattle.connection_history.specs.declared.event.Event.TheVariants as event
use Rattle.connection_history.specs.Stream.{entries_in}
use Rattle.connection_history.specs.Events.{reached, events_of_entry, events_along, events_at, events_of, broken_in, broken_at}
use Rattle.connection_history.specs.History.{Happening, came, called, called_all, noticed, withdrew, answered, ended, History, ends, is_over, key_count, is_waiting, waiting, Origin}
use Rattle.connection_history.specs.Told.{unanswered_told}
use Rattle.connection_history.proofs.Histories.{caller_of-within, waits}
use Rattle.connection_history.proofs.Numbers.{one_if, occurs, occurs-passing}
use Rattle.connection_history.proofs.Tests.{or-left, or-right}
use Rattle.connection_history.proofs.Along.{so_far}
use Rattle.connection_history.specs.declared.broken.Broken.{Broken}
use Rattle.connection_messages.specs.declared.unit.Unit.{Unit}

-- ---- calls that are told to have no reply

-- how often it is told in events, and then in more
pub unanswered_told-append : (k : ℕ) (told more : List Event) → unanswered_told k (told ++ more) ≡ unanswered_told k told + unanswered_told k more
unanswered_told-append k [] more = omega arith
unanswered_told-append k (event.Call n c ∷ told) more = unanswered_told-append k told more
unanswered_told-append k (event.Cancelled n ∷ told) more = unanswered_told-append k told more
unanswered_told-append k (event.Replied j r ∷ told) more = unanswered_told-append k told more
unanswered_told-append k (event.Unanswered j ∷ told) more = omega (arith, unanswered_told-append k told more)
unanswered_told-append k (event.Over close ∷ told) more = unanswered_told-append k told more
unanswered_told-append k (event.Broken b ∷ told) more = unanswered_told-append k told more

unanswered_told-defects : (k : ℕ) (bs : List Broken) (told : List Event) → unanswered_told k (map event.Broken bs ++ told) ≡ unanswered_told k told
unanswered_told-defects k [] told = refl
unanswered_told-defects k (b ∷ bs) told = unanswered_told-defects k bs told

-- what is broken tells it of no call
unanswered_told-broken : (k : ℕ) (from : Option Origin) (u : Unit) (told : List Event) → unanswered_told k (broken_at from u ++ told) ≡ unanswered_told k told
unanswered_told-broken k from u told = unanswered_told-defects k (broken_in from u) told

unanswered_told-waiting : (k : ℕ) (ks : List ℕ) (close : Close) → unanswered_told k (map event.Unanswered ks ++ event.Over close ∷ []) ≡ occurs k ks
unanswered_told-waiting k [] close = refl
unanswered_told-waiting k (j ∷ ks) close = ap (λ m. one_if (j == k) + m) (unanswered_told-waiting k ks close)

-- at the end each call that waits is told to have no reply, once
pub ended_told : (past : History) (close : Close) (k : ℕ) → unanswered_told k (events_at past (ended close)) ≡ one_if (is_waiting k past)
ended_told past close k =
    unanswered_told-waiting k (waiting past) close
    ∙ occurs-passing (λ j. is_waiting j past) k (key_count past) (λ waiting_now. let w = waits k past waiting_now in caller_of-within k past w.number w.caller)

unanswered_told-cancelled : (k : ℕ) (ns : List ℕ) → unanswered_told k (map event.Cancelled ns) ≡ 0
unanswered_told-cancelled k [] = refl
unanswered_told-cancelled k (n ∷ ns) = unanswered_told-cancelled k ns

unanswered_told-reply : (k : ℕ) (b : Bool) (j : ℕ) (r : Replied) → unanswered_told k (cond b (event.Replied j r ∷ []) []) ≡ 0
unanswered_told-reply k true j r = refl
unanswered_told-reply k false j r = refl

unanswered_told-entry : (k : ℕ) (history : History) (e : Entry) → unanswered_told k (events_of_entry history e) ≡ 0
unanswered_told-entry k history (Call c) = refl
unanswered_told-entry k history (Cancel id) = unanswered_told-cancelled k (reached id history)
unanswered_told-entry k history (Reply j r) = unanswered_told-reply k (is_waiting j history) j r
unanswered_told-entry k history Stray = refl
unanswered_told-entry k history Invalid = refl

unanswered_told-along : (k : ℕ) (past : History) (front es : List Entry) → unanswered_told k (events_along past front es) ≡ 0
unanswered_told-along k past front [] = refl
unanswered_told-along k past front (e ∷ es) =
    omega (arith, unanswered_told-append k (events_of_entry (so_far past front) e) (events_along past (front ++ e ∷ []) es), unanswered_told-entry k (so_far past front) e, unanswered_told-along k past (front ++ e ∷ []) es)

-- before the end it is told of no call
pub unanswered_told-before : (k : ℕ) (past : History) (h : Happening) → ends h ≡ false → unanswered_told k (events_at past h) ≡ 0
unanswered_told-before k past (came from u) h = unanswered_told-broken k from u (events_along past [] (entries_in u)) ∙ unanswered_told-along k past [] (entries_in u)
unanswered_told-before k past (called n o) h = refl
unanswered_told-before k past (called_all n os) h = refl
unanswered_told-before k past (noticed o) h = refl
unanswered_told-before k past (withdrew by j) h = refl
unanswered_told-before k past (answered n a) h = refl
unanswered_told-before k past (ended close) h = absurd (cc)

-- until the end no call is told to have no reply
pub none_unanswered : (history : History) (k : ℕ) → is_over history ≡ false → unanswered_told k (events_of history) ≡ 0
none_unanswered [] k going_on = refl
none_unanswered (h ∷ past) k going_on =
    omega (arith, unanswered_told-append k (events_of past) (events_at past h), unanswered_told-before k past h (or-left (ends h) (is_over past) going_on), none_unanswered past k (or-right (ends h) (is_over past) going_on))
