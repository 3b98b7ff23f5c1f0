-- A slot of a unit is given its text, and what goes out then.
use Rattle.std.proofs.Common.{◌≡◌, ℕ, ◌==◌, not, Bool, true, false, cond, List, [], ◌∷◌, ◌++◌, length, eq-eqb, Option, Some, None, refl, sym, ap, subst, ◌∙◌, arith}
use Rattle.std.proofs.lemmas.Bool.{eqb-true, ne_eqb}
use Rattle.std.specs.Option.{unwrap_or}
use Rattle.connection_history.specs.Counts.{capped}
use Rattle.connection_history.specs.declared.order.Order.{Order}
use Rattle.connection_history.specs.declared.order.Order.TheVariants.{AsAnswered, AsCame}
use Rattle.connection_steps.specs.Steps.{complete_front, incomplete_rest, is_complete, leaving, staying}
use Rattle.open_calls.specs.Numbered.{at, without, changed_at, first_number, next_number, Above, Ascending}
use Rattle.owed_answers.specs.Owed.{OwedUnit, unit_texts}
use Rattle.connection_desk.specs.Desks.{answer_count, answer_texts}
use Rattle.connection_desk.specs.Inner.{OnlyAt, complete_in, complete_at, complete_text_in, complete_text_at, rest_from, rest_of}
use Rattle.connection_desk.proofs.Entries.{AtAbove, AtChanged, WithoutAbove}
use Rattle.connection_desk.proofs.GivenSlots.{all_stays, changed_above, only_changed}
use Rattle.connection_desk.proofs.OwedLists.{Units, count_texts, front_more, front_rest, front_stops, only_count, only_rest, only_text}
use Rattle.connection_desk.proofs.Rests.{rest_at_first, rest_step_from}

-- ---- the unit at a place is written

written_step : (b : Bool) (f : OwedUnit → OwedUnit) (unit new : OwedUnit) (e : ℕ × OwedUnit) (o : Option OwedUnit) (rest wanted : Units) → cond b (Some e.1) o ≡ Some unit → new ≡ f unit
    → (b ≡ true → rest ≡ wanted) → (o ≡ Some unit → rest ≡ wanted) → (e.0, cond b new e.1) ∷ rest ≡ (e.0, cond b (f e.1) e.1) ∷ wanted
written_step true f unit new e o rest wanted there is here later =
    let same : e.1 ≡ unit = ap (λ p. unwrap_or p unit) there in
    ap (λ u. (e.0, u) ∷ rest) (is ∙ ap f (sym same)) ∙ ap (λ es. (e.0, f e.1) ∷ es) (here refl)
written_step false f unit new e o rest wanted there is here later = ap (λ es. e ∷ es) (later there)

pub written : (place : ℕ) (f : OwedUnit → OwedUnit) (unit new : OwedUnit) (owed : Units) → Ascending owed → at place owed ≡ Some unit → new ≡ f unit
    → changed_at place (λ _. new) owed ≡ changed_at place f owed
written place f unit new [] order there is = refl
written place f unit new (e ∷ es) order there is =
    written_step (place == e.0) f unit new e (at place es) (changed_at place (λ _. new) es) (changed_at place f es) there is
    (λ here.
    let above : Above place es = subst (λ m. Above m es) (sym (eqb-true place e.0 here)) order.0 in
    changed_above place (λ _. new) es above ∙ sym (changed_above place f es above))
    (λ later. written place f unit new es order.1 later is)

same_unit : (b : Bool) (u : OwedUnit) → cond b u u ≡ u
same_unit true u = refl
same_unit false u = refl

kept : (place : ℕ) (owed : Units) → changed_at place (λ u. u) owed ≡ owed
kept place [] = refl
kept place (e ∷ es) = ap (λ u. (e.0, u) ∷ changed_at place (λ v. v) es) (same_unit (place == e.0) e.1) ∙ ap (λ t. e ∷ t) (kept place es)

-- as it was
pub written_back : (place : ℕ) (unit new : OwedUnit) (owed : Units) → Ascending owed → at place owed ≡ Some unit → new ≡ unit → changed_at place (λ _. new) owed ≡ owed
written_back place unit new owed order there is = written place (λ u. u) unit new owed order there is ∙ kept place owed

none_step : (b : Bool) (f : OwedUnit → OwedUnit) (e : ℕ × OwedUnit) (o : Option OwedUnit) (rest es : Units) → cond b (Some e.1) o ≡ None → (o ≡ None → rest ≡ es)
    → (e.0, cond b (f e.1) e.1) ∷ rest ≡ e ∷ es
none_step true f e o rest es none later = absurd (cc)
none_step false f e o rest es none later = ap (λ t. e ∷ t) (later none)

pub none_written : (place : ℕ) (f : OwedUnit → OwedUnit) (owed : Units) → at place owed ≡ None → changed_at place f owed ≡ owed
none_written place f [] none = refl
none_written place f (e ∷ es) none = none_step (place == e.0) f e (at place es) (changed_at place f es) es none (none_written place f es)

above_changed : (n place : ℕ) (f : OwedUnit → OwedUnit) (owed : Units) → Above n owed → Above n (changed_at place f owed)
above_changed n place f [] above = tt
above_changed n place f (e ∷ es) above = (above.0, above_changed n place f es above.1)

ascending_changed : (place : ℕ) (f : OwedUnit → OwedUnit) (owed : Units) → Ascending owed → Ascending (changed_at place f owed)
ascending_changed place f [] order = tt
ascending_changed place f (e ∷ es) order = (above_changed e.0 place f es order.0, ascending_changed place f es order.1)

without_step : (b : Bool) (e : ℕ × OwedUnit) (u : OwedUnit) (now was : Units) → now ≡ was → cond (not b) ((e.0, cond b u e.1) ∷ now) now ≡ cond (not b) (e ∷ was) was
without_step true e u now was is = is
without_step false e u now was is = ap (λ es. e ∷ es) is

pub without_changed : (place : ℕ) (f : OwedUnit → OwedUnit) (owed : Units) → without place (changed_at place f owed) ≡ without place owed
without_changed place f [] = refl
without_changed place f (e ∷ es) =
    without_step (place == e.0) e (f e.1) (without place (changed_at place f es)) (without place es) (without_changed place f es)

at_here_changed : (changes : AtChanged OwedUnit) (place : ℕ) (f : OwedUnit → OwedUnit) (unit : OwedUnit) (owed : Units) → at place owed ≡ Some unit → at place (changed_at place f owed) ≡ Some (f unit)
at_here_changed changes place f unit owed is =
    changes place place f unit owed is ∙ ap (λ b. cond b (Some (f unit)) (at place owed)) (eq-eqb place place refl)

-- ---- what goes out and what stays then

pub record IsGiven (order : Order) (now : Units) (texts : List (List ℕ)) (rest : Units) : Type 0 where
  pub texts_are : texts ≡ answer_texts (leaving order now)
  pub count : capped (length texts) ≡ capped (answer_count (leaving order now))
  pub rest_is : rest ≡ staying order now

-- nothing goes out
pub all_kept : (order : Order) (now : Units) → leaving order now ≡ [] → IsGiven order now [] now
all_kept order now none = record {
  texts_are = sym (ap answer_texts none);
  count = sym (ap (λ es. capped (answer_count es)) none);
  rest_is = sym (all_stays order now none);
}

-- there is no such unit
pub given_to_none : (order : Order) (place : ℕ) (f : OwedUnit → OwedUnit) (owed : Units) → at place owed ≡ None → leaving order owed ≡ [] → IsGiven order (changed_at place f owed) [] owed
given_to_none order place f owed missing none =
    subst (λ now. IsGiven order now [] owed) (sym (none_written place f owed missing)) (all_kept order owed none)

-- as answered
given_answered : (changes : AtChanged OwedUnit) (stay : WithoutAbove OwedUnit) (place : ℕ) (f : OwedUnit → OwedUnit) (unit : OwedUnit) (owed : Units) → Ascending owed → at place owed ≡ Some unit → leaving AsAnswered owed ≡ []
    → IsGiven AsAnswered (changed_at place f owed) (complete_text_in (Some (f unit))) (cond (is_complete (f unit)) (without place owed) (changed_at place f owed))
given_answered changes stay place f unit owed order there none =
    let now = changed_at place f owed in
    let here : at place now ≡ Some (f unit) = at_here_changed changes place f unit owed there in
    let ascends = ascending_changed place f owed order in
    let only : OnlyAt AsAnswered place now = only_changed AsAnswered place f owed none in
    record {
      texts_are = ap complete_text_in (sym here) ∙ only_text stay place now ascends only;
      count = ap (λ o. capped (length (complete_text_in o))) (sym here) ∙ ap capped (only_count stay place now ascends only) ∙ capped_twice (answer_count (leaving AsAnswered now));
      rest_is = ap (λ es. cond (is_complete (f unit)) es now) (sym (without_changed place f owed))
          ∙ ap (λ o. cond (complete_in o) (without place now) now) (sym here)
          ∙ only_rest stay place now ascends only;
    }
  where
    capped_twice : (n : ℕ) → capped (capped n) ≡ capped n
    capped_twice n = omega arith

-- it isn't complete yet
pub answered_waits : (changes : AtChanged OwedUnit) (stay : WithoutAbove OwedUnit) (place : ℕ) (f : OwedUnit → OwedUnit) (unit : OwedUnit) (owed : Units) → Ascending owed → at place owed ≡ Some unit → leaving AsAnswered owed ≡ []
    → is_complete (f unit) ≡ false → IsGiven AsAnswered (changed_at place f owed) [] (changed_at place f owed)
answered_waits changes stay place f unit owed order there none open_yet =
    subst (λ b. IsGiven AsAnswered (changed_at place f owed) (cond b (unit_texts (f unit)) []) (cond b (without place owed) (changed_at place f owed))) open_yet (given_answered changes stay place f unit owed order there none)

-- its answer goes out
pub answered_goes : (changes : AtChanged OwedUnit) (stay : WithoutAbove OwedUnit) (place : ℕ) (f : OwedUnit → OwedUnit) (unit : OwedUnit) (owed : Units) → Ascending owed → at place owed ≡ Some unit → leaving AsAnswered owed ≡ []
    → is_complete (f unit) ≡ true → IsGiven AsAnswered (changed_at place f owed) (unit_texts (f unit)) (without place owed)
answered_goes changes stay place f unit owed order there none whole =
    subst (λ b. IsGiven AsAnswered (changed_at place f owed) (cond b (unit_texts (f unit)) []) (cond b (without place owed) (changed_at place f owed))) whole (given_answered changes stay place f unit owed order there none)

-- ---- as came, the first

pub first_changed : (place : ℕ) (f : OwedUnit → OwedUnit) (owed : Units) → first_number (changed_at place f owed) ≡ first_number owed
first_changed place f [] = refl
first_changed place f (e ∷ es) = refl

from_first : (place : ℕ) (f : OwedUnit → OwedUnit) (owed : Units) → first_number owed ≡ Some place → rest_from place (changed_at place f owed) ≡ changed_at place f owed
from_first place f owed first = rest_at_first (Some place) place (changed_at place f owed) (first_changed place f owed ∙ first) refl

pub front_waits : (changes : AtChanged OwedUnit) (place : ℕ) (f : OwedUnit → OwedUnit) (unit : OwedUnit) (owed : Units) → at place owed ≡ Some unit → first_number owed ≡ Some place → is_complete (f unit) ≡ false
    → leaving AsCame (changed_at place f owed) ≡ []
front_waits changes place f unit owed there first open_yet =
    let now = changed_at place f owed in
    let here : at place now ≡ Some (f unit) = at_here_changed changes place f unit owed there in
    sym (ap complete_front (from_first place f owed first)) ∙ front_stops place now (ap complete_in here ∙ open_yet)

abbrev tail : Units → Units
tail [] = []
tail (e ∷ es) = es

-- those behind it are the same
behind_same : (above : AtAbove OwedUnit) (changes : AtChanged OwedUnit) (place : ℕ) (f : OwedUnit → OwedUnit) (unit : OwedUnit) (owed : Units) → Ascending owed → at place owed ≡ Some unit → first_number owed ≡ Some place
    → rest_of (next_number place (changed_at place f owed)) (changed_at place f owed) ≡ rest_of (next_number place owed) owed
behind_same above changes place f unit [] order there first = cc
behind_same above changes place f unit (e ∷ es) order there first =
    let wanted = changed_at place f (e ∷ es) in
    let here : at place wanted ≡ Some (f unit) = at_here_changed changes place f unit (e ∷ es) there in
    let number : e.0 ≡ place = ap (λ o. unwrap_or o e.0) first in
    ap tail (sym (rest_step_from above place (f unit) wanted (ascending_changed place f (e ∷ es) order) here) ∙ from_first place f (e ∷ es) first)
    ∙ changed_above place f es (subst (λ m. Above m es) number order.0)
    ∙ sym (ap tail (sym (rest_step_from above place unit (e ∷ es) order there) ∙ rest_at_first (Some place) place (e ∷ es) first refl))

-- it goes out, and those behind it do that are complete
pub front_goes : (above : AtAbove OwedUnit) (changes : AtChanged OwedUnit) (place : ℕ) (f : OwedUnit → OwedUnit) (unit : OwedUnit) (owed : Units) → Ascending owed → at place owed ≡ Some unit → first_number owed ≡ Some place
    → is_complete (f unit) ≡ true
    → IsGiven AsCame (changed_at place f owed) (unit_texts (f unit) ++ answer_texts (complete_front (rest_of (next_number place owed) owed))) (incomplete_rest (rest_of (next_number place owed) owed))
front_goes above changes place f unit owed order there first whole =
    let wanted = changed_at place f owed in
    let here : at place wanted ≡ Some (f unit) = at_here_changed changes place f unit owed there in
    let done : complete_at place wanted ≡ true = ap complete_in here ∙ whole in
    let ascends = ascending_changed place f owed order in
    let from = from_first place f owed first in
    let same = sym (behind_same above changes place f unit owed order there first) in
    let own : complete_text_at place wanted ≡ unit_texts (f unit) = ap complete_text_in here ∙ ap (λ b. cond b (unit_texts (f unit)) []) whole in
    let texts : unit_texts (f unit) ++ answer_texts (complete_front (rest_of (next_number place owed) owed)) ≡ answer_texts (complete_front wanted) =
    ap (λ es. unit_texts (f unit) ++ answer_texts (complete_front es)) same
    ∙ ap (λ ts. ts ++ answer_texts (complete_front (rest_of (next_number place wanted) wanted))) (sym own)
    ∙ sym (front_more above place wanted ascends done)
    ∙ ap (λ es. answer_texts (complete_front es)) from in
    record {
      texts_are = texts;
      count = ap (λ ts. capped (length ts)) texts ∙ ap capped (sym (count_texts (complete_front wanted)));
      rest_is = ap incomplete_rest same ∙ front_rest above place wanted ascends done ∙ ap incomplete_rest from;
    }

-- ---- as came, one behind the first

behind_step : (b : Bool) (f : OwedUnit → OwedUnit) (e : ℕ × OwedUnit) (es now : Units) → b ≡ false → complete_front (e ∷ es) ≡ [] → complete_front ((e.0, cond b (f e.1) e.1) ∷ now) ≡ []
behind_step true f e es now other none = cc
behind_step false f e es now other none = ap (λ b. cond b (e ∷ complete_front now) []) (front_open (is_complete e.1) e (complete_front es) none)
  where
    front_open : (b : Bool) (e : ℕ × OwedUnit) (es : Units) → cond b (e ∷ es) [] ≡ [] → b ≡ false
    front_open true e es is = cc
    front_open false e es is = refl

pub behind_waits : (place : ℕ) (f : OwedUnit → OwedUnit) (owed : Units) → (first_number owed ≡ Some place → ⊥) → leaving AsCame owed ≡ [] → leaving AsCame (changed_at place f owed) ≡ []
behind_waits place f [] other none = refl
behind_waits place f (e ∷ es) other none =
    behind_step (place == e.0) f e es (changed_at place f es) (ne_eqb place e.0 (λ same. other (ap Some (sym same)))) none
