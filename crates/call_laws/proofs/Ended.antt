-- A request that was made waits, or has ended in one way.
use Rattle.std.proofs.Common.{◌≡◌, ◌⊎◌, inl, inr, ℕ, zero, suc, ◌<◌, List, [], ◌∷◌, ◌++◌, Option, Some, None, true, false, cond, refl, sym, ap, subst, ◌∙◌}
use Rattle.std.specs.Prelude.{option_and_then}
use Rattle.connection_messages.specs.declared.cancels.Cancels.{Cancels}
use Rattle.connection_history.specs.Refusals.{IsLawful}
use Rattle.connection_history.specs.History.{Happening, History, is_over, is_open, key_count, caller_of, is_waiting}
use Rattle.call_laws.specs.Endings.{Ending, ending_at, IsEnded}
use Rattle.call_laws.proofs.Histories.{caller_of-kept}
use Rattle.call_laws.proofs.Waits.{Waits, waits, waiting-from, IsClosed, closed_stays, closed_idle, ends_closes, waits_on, new_call, by_end}

-- a request that is made waits
abbrev pub MadeWaits : Type 0
MadeWaits = (past : History) (happening : Happening) (key number : ℕ) → key_count past < key → caller_of key (happening ∷ past) ≡ Some number → is_open number past ≡ true → is_over past ≡ false
    → is_waiting key (happening ∷ past) ≡ true

abbrev pub Ends : ℕ → History → Type 0
Ends k history = (is_waiting k history ≡ true) ⊎ ((ending : Ending) × IsEnded k history ending)

later : (k : ℕ) (past : History) (h : Happening) (ending : Ending) → IsEnded k past ending → IsEnded k (h ∷ past) ending
later k past h ending it = record { more = h ∷ it.more; happening = it.happening; past = it.past; whole = ap (λ all. h ∷ all) it.whole; waited = it.waited; caller = it.caller; made = it.made; is = it.is }

pub ends : MadeWaits → (cancels : Option Cancels) (history : History) (k n : ℕ) → IsLawful cancels history → caller_of k history ≡ Some n → Ends k history
ends made_waits cancels [] zero n lawful made = absurd (cc)
ends made_waits cancels [] (suc k) n lawful made = absurd (cc)
ends made_waits cancels (h ∷ past) k n lawful made = from (λ m was. ends made_waits cancels past k m lawful.1 was) (caller_of k past) refl
  where
    goes_on : (m : ℕ) → caller_of k past ≡ Some m → Waits k past → (o : Option Ending) → ending_at k m h ≡ o → Ends k (h ∷ past)
    goes_on m was w None is = inl (waiting-from k (h ∷ past) (waits_on k m past h w was is))
    goes_on m was w (Some ending) is = inr (ending, record { more = []; happening = h; past = past; whole = refl; waited = waiting-from k past w; caller = m; made = was; is = is })

    on : (m : ℕ) → caller_of k past ≡ Some m → Ends k past → Ends k (h ∷ past)
    on m was (inl waiting_now) = goes_on m was (waits k past waiting_now) (ending_at k m h) refl
    on m was (inr it) = inr (it.0, later k past h it.0 it.1)

    from : ((m : ℕ) → caller_of k past ≡ Some m → Ends k past) → (o : Option ℕ) → caller_of k past ≡ o → Ends k (h ∷ past)
    from before None was = let new = new_call cancels k n past h lawful was made in inl (made_waits past h k n new.later made new.opened new.going_on)
    from before (Some m) was = on m was (before m was)

-- ---- what ended stays ended

-- it is closed at each later moment
pub closed_since : (cancels : Option Cancels) (k n : ℕ) (more : List Happening) (h : Happening) (past : History) (ending : Ending) → IsLawful cancels (more ++ h ∷ past) → is_waiting k past ≡ true → caller_of k past ≡ Some n
    → ending_at k n h ≡ Some ending → IsClosed k n (more ++ h ∷ past)
closed_since cancels k n [] h past ending lawful waited made is = ends_closes cancels k n past h ending lawful (waits k past waited) made is
closed_since cancels k n (g ∷ more) h past ending lawful waited made is = closed_stays k n (more ++ h ∷ past) g (closed_since cancels k n more h past ending lawful.1 waited made is)

pub made_since : (k n : ℕ) (more : List Happening) (past : History) → caller_of k past ≡ Some n → caller_of k (more ++ past) ≡ Some n
made_since k n [] past made = made
made_since k n (g ∷ more) past made = caller_of-kept k (more ++ past) g n (made_since k n more past made)

pub idle_since : (cancels : Option Cancels) (k n : ℕ) (more : List Happening) (h : Happening) (past : History) (ending : Ending) → IsLawful cancels (more ++ h ∷ past) → is_waiting k past ≡ true → caller_of k past ≡ Some n
    → ending_at k n h ≡ Some ending → is_waiting k (more ++ h ∷ past) ≡ false
idle_since cancels k n more h past ending lawful waited made is =
    closed_idle k n (more ++ h ∷ past) (made_since k n more (h ∷ past) (caller_of-kept k past h n made)) (closed_since cancels k n more h past ending lawful waited made is)

pub ended_idle : (cancels : Option Cancels) (history : History) (k : ℕ) (ending : Ending) → IsLawful cancels history → IsEnded k history ending → is_waiting k history ≡ false
ended_idle cancels history k ending lawful it =
    subst (λ all. is_waiting k all ≡ false) (sym it.whole) (idle_since cancels k it.caller it.more it.happening it.past ending (subst (IsLawful cancels) it.whole lawful) it.waited it.made it.is)

over_idle : (k n : ℕ) (history : History) → caller_of k history ≡ Some n → is_over history ≡ true → is_waiting k history ≡ false
over_idle k n history made over = closed_idle k n history made (by_end over)

pub over_ends : MadeWaits → (cancels : Option Cancels) (history : History) (k n : ℕ) → IsLawful cancels history → caller_of k history ≡ Some n → is_over history ≡ true → (ending : Ending) × IsEnded k history ending
over_ends made_waits cancels history k n lawful made over = from (ends made_waits cancels history k n lawful made)
  where
    from : Ends k history → (ending : Ending) × IsEnded k history ending
    from (inl waiting_now) = absurd (let idle = over_idle k n history made over in cc)
    from (inr it) = it

-- ---- in one way

-- the way in which it ended, by the last moment at which it waited
abbrev ended_as : ℕ → History → Option Ending
ended_as k [] = None
ended_as k (h ∷ past) = cond (is_waiting k past) (option_and_then (λ n. ending_at k n h) (caller_of k past)) (ended_as k past)

as_ended : (cancels : Option Cancels) (k n : ℕ) (more : List Happening) (h : Happening) (past : History) (ending : Ending) → IsLawful cancels (more ++ h ∷ past) → is_waiting k past ≡ true → caller_of k past ≡ Some n
    → ending_at k n h ≡ Some ending → ended_as k (more ++ h ∷ past) ≡ Some ending
as_ended cancels k n [] h past ending lawful waited made is =
    ap (λ b. cond b (option_and_then (λ m. ending_at k m h) (caller_of k past)) (ended_as k past)) waited ∙ ap (option_and_then (λ m. ending_at k m h)) made ∙ is
as_ended cancels k n (g ∷ more) h past ending lawful waited made is =
    ap (λ b. cond b (option_and_then (λ m. ending_at k m g) (caller_of k (more ++ h ∷ past))) (ended_as k (more ++ h ∷ past))) (idle_since cancels k n more h past ending lawful.1 waited made is)
    ∙ as_ended cancels k n more h past ending lawful.1 waited made is

pub one_way : (cancels : Option Cancels) (history : History) (k : ℕ) (ending other : Ending) → IsLawful cancels history → IsEnded k history ending → IsEnded k history other → ending ≡ other
one_way cancels history k ending other lawful it that =
    let first : ended_as k history ≡ Some ending =
    ap (ended_as k) it.whole ∙ as_ended cancels k it.caller it.more it.happening it.past ending (subst (IsLawful cancels) it.whole lawful) it.waited it.made it.is in
    let second : ended_as k history ≡ Some other =
    ap (ended_as k) that.whole ∙ as_ended cancels k that.caller that.more that.happening that.past other (subst (IsLawful cancels) that.whole lawful) that.waited that.made that.is in
    cc
