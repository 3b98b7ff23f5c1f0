-- What is told of a request, by the way in which it ended.
use Rattle.std.proofs.Common.{◌≡◌, ℕ, ◌+◌, ◌==◌, List, [], ◌∷◌, ◌++◌, map, Option, Some, None, Bool, true, false, cond, ◌&&◌, if◌then◌else◌, refl, sym, ap, subst, ◌∙◌, append-nil, arith}
use Rattle.connection_messages.specs.declared.cancels.Cancels.{Cancels}
use Rattle.connection_messages.specs.declared.reply.Reply.{Reply as Replied}
use Rattle.connection_messages.specs.declared.unit.Unit.{Unit}
use Rattle.connection_history.specs.declared.close.Close.{Close}
use Rattle.connection_history.specs.declared.event.Event.{Event}
use Rattle.connection_history.specs.declared.event.Event.TheVariants as event
use Rattle.connection_history.specs.Events.{events_at, events_of}
use Rattle.connection_history.specs.History.{Happening, came, called, called_all, noticed, withdrew, answered, ended, History, caller_of, ends_wait, is_over, is_waiting, reply_to, waiting, Origin}
use Rattle.connection_history.specs.Refusals.{IsLawful}
use Rattle.connection_history.specs.Stream.{entries_in, first_reply}
use Rattle.connection_history.specs.Told.{AtMost, replies_told, unanswered_told}
use Rattle.call_laws.specs.Endings.{Ending, unanswered, given_up, caller_closed, ending_at, IsEnded, replies_of, unanswered_of}
use Rattle.call_laws.proofs.Waits.{waits, replies_by, value_of, came_before_end}
use Rattle.call_laws.proofs.Ended.{idle_since}

-- ---- lists of events

told_on : (b : Bool) (r : Replied) (front rest whole : List Replied) → whole ≡ front ++ rest → cond b (r ∷ whole) whole ≡ cond b (r ∷ front) front ++ rest
told_on true r front rest whole h = ap (λ l. r ∷ l) h
told_on false r front rest whole h = h

-- the replies to a call in events, and then in more
pub replies_told-append : (k : ℕ) (told more : List Event) → replies_told k (told ++ more) ≡ replies_told k told ++ replies_told k more
replies_told-append k [] more = refl
replies_told-append k (event.Call n c ∷ told) more = replies_told-append k told more
replies_told-append k (event.Cancelled n ∷ told) more = replies_told-append k told more
replies_told-append k (event.Replied j r ∷ told) more = told_on (j == k) r (replies_told k told) (replies_told k more) (replies_told k (told ++ more)) (replies_told-append k told more)
replies_told-append k (event.Unanswered j ∷ told) more = replies_told-append k told more
replies_told-append k (event.Over close ∷ told) more = replies_told-append k told more
replies_told-append k (event.Broken b ∷ told) more = replies_told-append k told more

-- how often it is told to have none in events, and then in more
pub unanswered_told-append : (k : ℕ) (told more : List Event) → unanswered_told k (told ++ more) ≡ unanswered_told k told + unanswered_told k more
unanswered_told-append k [] more = omega arith
unanswered_told-append k (event.Call n c ∷ told) more = unanswered_told-append k told more
unanswered_told-append k (event.Cancelled n ∷ told) more = unanswered_told-append k told more
unanswered_told-append k (event.Replied j r ∷ told) more = unanswered_told-append k told more
unanswered_told-append k (event.Unanswered j ∷ told) more = omega (arith, unanswered_told-append k told more)
unanswered_told-append k (event.Over close ∷ told) more = unanswered_told-append k told more
unanswered_told-append k (event.Broken b ∷ told) more = unanswered_told-append k told more

replies_told-unanswered : (k : ℕ) (ks : List ℕ) (close : Close) → replies_told k (map event.Unanswered ks ++ event.Over close ∷ []) ≡ []
replies_told-unanswered k [] close = refl
replies_told-unanswered k (j ∷ ks) close = replies_told-unanswered k ks close

none_told : (told : List Replied) → AtMost told None → told ≡ []
none_told [] h = refl
none_told (r ∷ []) h = absurd (let is : None ≡ Some r = h in cc)
none_told (r ∷ s ∷ told) h = absurd h

-- what a_reply_is_told_once promises
pub record Promised : Type 0 where
  pub first : (history : History) (key : ℕ) → AtMost (replies_told key (events_of history)) (reply_to key history)
  pub comes : (past : History) (origin : Option Origin) (unit : Unit) (key : ℕ) (reply : Replied) → is_waiting key past ≡ true → first_reply key (entries_in unit) ≡ Some reply → replies_told key (events_at past (came origin unit)) ≡ reply ∷ []
  pub idle : (cancels : Option Cancels) (past : History) (happening : Happening) (key : ℕ) → IsLawful cancels past → is_waiting key past ≡ false → replies_told key (events_at past happening) ≡ []
  pub at_end : (past : History) (close : Close) (key : ℕ) → unanswered_told key (events_at past (ended close)) ≡ (if is_waiting key past then 1 else 0)
  pub before_end : (history : History) (key : ℕ) → is_over history ≡ false → unanswered_told key (events_of history) ≡ 0

module _ (promised : Promised) where
  pub untold : (history : History) (k : ℕ) → is_waiting k history ≡ true → (replies_told k (events_of history) ≡ []) × (unanswered_told k (events_of history) ≡ 0)
  untold history k waiting_now =
      let w = waits k history waiting_now in
      (none_told (replies_told k (events_of history)) (subst (AtMost (replies_told k (events_of history))) w.none (promised.first history k)), promised.before_end history k w.going_on)

  -- ---- as it ends

  replies_now : (k n : ℕ) (past : History) (h : Happening) (e : Ending) → is_waiting k past ≡ true → ending_at k n h ≡ Some e → replies_told k (events_at past h) ≡ replies_of e
  replies_now k n past (came o u) e waited is =
      let reply = replies_by (first_reply k (entries_in u)) e is in
      promised.comes past o u k reply.0 waited reply.1 ∙ ap replies_of (sym reply.2)
  replies_now k n past (called m o) e waited is = absurd (cc)
  replies_now k n past (called_all m os) e waited is = absurd (cc)
  replies_now k n past (noticed o) e waited is = absurd (cc)
  replies_now k n past (withdrew by j) e waited is = ap replies_of (value_of (ends_wait by && (j == k)) given_up e is)
  replies_now k n past (answered m a) e waited is = ap replies_of (value_of (m == n) caller_closed e is)
  replies_now k n past (ended close) e waited is = replies_told-unanswered k (waiting past) close ∙ ap replies_of (let same_end : unanswered ≡ e = cc in same_end)

  unanswered_now : (k n : ℕ) (past : History) (h : Happening) (e : Ending) → is_waiting k past ≡ true → ending_at k n h ≡ Some e → unanswered_told k (events_of (h ∷ past)) ≡ unanswered_of e
  unanswered_now k n past (came o u) e waited is =
      let reply = replies_by (first_reply k (entries_in u)) e is in
      promised.before_end (came o u ∷ past) k (waits k past waited).going_on ∙ ap unanswered_of (sym reply.2)
  unanswered_now k n past (called m o) e waited is = absurd (cc)
  unanswered_now k n past (called_all m os) e waited is = absurd (cc)
  unanswered_now k n past (noticed o) e waited is = absurd (cc)
  unanswered_now k n past (withdrew by j) e waited is =
      promised.before_end (withdrew by j ∷ past) k (waits k past waited).going_on ∙ ap unanswered_of (value_of (ends_wait by && (j == k)) given_up e is)
  unanswered_now k n past (answered m a) e waited is =
      promised.before_end (answered m a ∷ past) k (waits k past waited).going_on ∙ ap unanswered_of (value_of (m == n) caller_closed e is)
  unanswered_now k n past (ended close) e waited is =
      let sum = unanswered_told-append k (events_of past) (events_at past (ended close)) in
      let before = promised.before_end past k (waits k past waited).going_on in
      let now : unanswered_told k (events_at past (ended close)) ≡ 1 = promised.at_end past close k ∙ ap (λ b. if b then 1 else 0) waited in
      let all : unanswered_told k (events_of (ended close ∷ past)) ≡ 1 = omega (arith, sum, before, now) in
      all ∙ ap unanswered_of (let same_end : unanswered ≡ e = cc in same_end)

  -- ---- and nothing later

  unanswered_later : (cancels : Option Cancels) (past : History) (h : Happening) (k : ℕ) → IsLawful cancels (h ∷ past) → is_waiting k past ≡ false → unanswered_told k (events_at past h) ≡ 0
  unanswered_later cancels past (came o u) k lawful idle =
      let on = came_before_end cancels past o u lawful.0 in
      let sum = unanswered_told-append k (events_of past) (events_at past (came o u)) in
      let all = promised.before_end (came o u ∷ past) k on in
      omega (arith, sum, all)
  unanswered_later cancels past (called m o) k lawful idle = refl
  unanswered_later cancels past (called_all m os) k lawful idle = refl
  unanswered_later cancels past (noticed o) k lawful idle = refl
  unanswered_later cancels past (withdrew by j) k lawful idle = refl
  unanswered_later cancels past (answered m a) k lawful idle = refl
  unanswered_later cancels past (ended close) k lawful idle = promised.at_end past close k ∙ ap (λ b. if b then 1 else 0) idle

  abbrev Tells : ℕ → History → Ending → Type 0
  Tells k history e = (replies_told k (events_of history) ≡ replies_of e) × (unanswered_told k (events_of history) ≡ unanswered_of e)

  tells : (cancels : Option Cancels) (k n : ℕ) (more : List Happening) (h : Happening) (past : History) (e : Ending) → IsLawful cancels (more ++ h ∷ past) → is_waiting k past ≡ true → caller_of k past ≡ Some n
      → ending_at k n h ≡ Some e → Tells k (more ++ h ∷ past) e
  tells cancels k n [] h past e lawful waited made is =
      (replies_told-append k (events_of past) (events_at past h) ∙ (λ i. (untold past k waited).0 i ++ replies_now k n past h e waited is i), unanswered_now k n past h e waited is)
  tells cancels k n (g ∷ more) h past e lawful waited made is =
      let before = tells cancels k n more h past e lawful.1 waited made is in
      let idle = idle_since cancels k n more h past e lawful.1 waited made is in
      let sum = unanswered_told-append k (events_of (more ++ h ∷ past)) (events_at (more ++ h ∷ past) g) in
      let none = unanswered_later cancels (more ++ h ∷ past) g k lawful idle in
      let count = before.1 in (
        replies_told-append k (events_of (more ++ h ∷ past)) (events_at (more ++ h ∷ past) g)
            ∙ (λ i. before.0 i ++ promised.idle cancels (more ++ h ∷ past) g k lawful.1 idle i) ∙ append-nil (replies_of e),
        omega (arith, sum, none, count),
      )

  pub told_of : (cancels : Option Cancels) (history : History) (k : ℕ) (e : Ending) → IsLawful cancels history → IsEnded k history e
      → (replies_told k (events_of history) ≡ replies_of e) × (unanswered_told k (events_of history) ≡ unanswered_of e)
  told_of cancels history k e lawful it =
      subst (λ all. Tells k all e) (sym it.whole) (tells cancels k it.caller it.more it.happening it.past e (subst (IsLawful cancels) it.whole lawful) it.waited it.made it.is)
