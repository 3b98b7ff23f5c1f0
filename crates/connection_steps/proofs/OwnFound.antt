-- What is seen of our calls that wait.
use Rattle.std.proofs.Common.{◌≡◌, ℕ, ◌==◌, ◌&&◌, not, [], ◌∷◌, ◌++◌, map, Bool, true, false, cond, Option, Some, None, refl, sym, ap, ◌∙◌}
use Rattle.std.specs.Prelude.{filter, unwrap_or, option_map}
use Rattle.std.specs.Option.{is_none, option_map_or}
use Rattle.connection_history.specs.declared.close.Close.{Close}
use Rattle.connection_history.specs.declared.event.Event.TheVariants as event
use Rattle.connection_history.specs.Events.{events_at}
use Rattle.connection_history.specs.History.{ended, History, is_over, is_open, key_count, caller_of, reply_to, is_given_up, is_waiting, is_withdrawn, waiting}
use Rattle.connection_history.specs.Refusals.{is_withdrawable, withdrawable}
use Rattle.connection_history.proofs.Histories.{waits}
use Rattle.connection_history.proofs.Numbers.{passing-agree}
use Rattle.open_calls.specs.declared.own_call.OwnCall.{OwnCall}
use Rattle.open_calls.specs.Numbered.{at}
use Rattle.open_calls.specs.Own.{is_wanted_by}
use Rattle.connection_steps.specs.States.{own_call, own_of}
use Rattle.connection_steps.specs.Steps.{told_at_end}
use Rattle.connection_steps.proofs.OwnEntries.{found}
use Rattle.connection_steps.proofs.OwnPicked.{filter-picked, map-with_value, numbers-picked}

-- ---- a call that waits

-- it is found by its key
pub found_waiting : (history : History) (key : ℕ) → is_waiting key history ≡ true → at key (own_of history).waiting ≡ Some (own_call key history)
found_waiting history key h = found history key ∙ ap (λ b. cond b (Some (own_call key history)) None) h

known : (o : Option ℕ) (n : ℕ) → o ≡ Some n → Some (unwrap_or o 0) ≡ o
known None n h = absurd (cc)
known (Some m) n h = refl

-- on whose behalf it was made
pub caller_found : (history : History) (key : ℕ) → is_waiting key history ≡ true → option_map (λ (call : OwnCall). call.caller) (at key (own_of history).waiting) ≡ caller_of key history
caller_found history key h =
    let w = waits key history h in
    ap (option_map (λ (call : OwnCall). call.caller)) (found_waiting history key h) ∙ known (caller_of key history) w.number w.caller

-- and whether it is withdrawn
pub withdrawn_found : (history : History) (key : ℕ) → is_waiting key history ≡ true
    → option_map (λ (call : OwnCall). call.is_withdrawn) (at key (own_of history).waiting) ≡ Some (is_withdrawn key history)
withdrawn_found history key h = ap (option_map (λ (call : OwnCall). call.is_withdrawn)) (found_waiting history key h)

-- ---- those that can be withdrawn

swapped : (a w d : Bool) → (a && w && d) ≡ (w && (a && d))
swapped true w d = refl
swapped false true d = refl
swapped false false d = refl

same_wanted : (o : Option ℕ) (n : ℕ) (w d : Bool) → (o ≡ None → w ≡ false) → (w && ((unwrap_or o 0 == n) && d)) ≡ (option_map_or (λ m. m == n) o false && w && d)
same_wanted None n w d idle = ap (λ b. b && ((0 == n) && d)) (idle refl)
same_wanted (Some m) n w d idle = sym (swapped (m == n) w d)

-- a call that wasn't made doesn't wait
pub unmade_idle : (k : ℕ) (history : History) → caller_of k history ≡ None → is_waiting k history ≡ false
unmade_idle k history none = ap (λ o. option_map_or (λ n. is_open n history) o false && is_none (reply_to k history) && not (is_over history) && not (is_given_up k history)) none

-- the keys of those that a caller still wants
pub withdrawable_found : (history : History) (number : ℕ) → withdrawable number history ≡ map (λ e. e.0) (filter (λ e. is_wanted_by number e.1) (own_of history).waiting)
withdrawable_found history number =
    sym (ap (map (λ (e : ℕ × OwnCall). e.0)) (filter-picked (λ e. is_wanted_by number e.1) (λ k. is_waiting k history) (λ k. own_call k history) (key_count history))
    ∙ numbers-picked (λ k. is_waiting k history && is_wanted_by number (own_call k history)) (λ k. own_call k history) (key_count history)
    ∙ passing-agree (λ k. is_waiting k history && is_wanted_by number (own_call k history)) (is_withdrawable number history) (key_count history)
    (λ k some h. same_wanted (caller_of k history) number (is_waiting k history) (not (is_withdrawn k history)) (unmade_idle k history)))

-- ---- the end

-- each call that waits is told to have no reply
pub ended_found : (past : History) (close : Close) → events_at past (ended close) ≡ told_at_end close (own_of past)
ended_found past close = ap (λ l. l ++ event.Over close ∷ []) (sym (map-with_value (λ e. event.Unanswered e.0) (λ k. own_call k past) (waiting past)))
