-- What goes out and what stays of the answers that are owed.
use Rattle.std.proofs.Common.{◌≡◌, ℕ, ◌<◌, not, Bool, true, false, cond, List, [], ◌∷◌, ◌++◌, refl, ap, ◌∙◌, arith}
use Rattle.std.proofs.lemmas.Bool.{ne_eqb}
use Rattle.std.proofs.lemmas.List.Elements.{filter-append}
use Rattle.std.specs.List.{filter}
use Rattle.connection_history.specs.declared.order.Order.{Order}
use Rattle.connection_history.specs.declared.order.Order.TheVariants.{AsAnswered, AsCame}
use Rattle.owed_answers.specs.Owed.{OwedUnit, OwedState, lacking}
use Rattle.connection_steps.specs.Steps.{is_complete, complete_front, incomplete_rest, leaving, staying}

abbrev pub state_of : ℕ → List (ℕ × OwedUnit) → OwedState
state_of places owed = record { places = places; owed = owed }

-- ---- where nothing goes out, all stays

all_step : {X : Type 0} (b : Bool) (e : X) (es fs gs : List X) → cond b (e ∷ fs) fs ≡ [] → (fs ≡ [] → gs ≡ es) → cond (not b) (e ∷ gs) gs ≡ e ∷ es
all_step true e es fs gs is there = absurd (cc)
all_step false e es fs gs is there = ap (λ t. e ∷ t) (there is)

all_filter : {X : Type 0} (p : X → Bool) (es : List X) → filter p es ≡ [] → filter (λ e. not (p e)) es ≡ es
all_filter p [] none = refl
all_filter p (e ∷ es) none = all_step (p e) e es (filter p es) (filter (λ x. not (p x)) es) none (all_filter p es)

all_rest_step : {X : Type 0} (b : Bool) (e : X) (es fs gs : List X) → cond b (e ∷ fs) [] ≡ [] → cond b gs (e ∷ es) ≡ e ∷ es
all_rest_step true e es fs gs is = absurd (cc)
all_rest_step false e es fs gs is = refl

all_rest : (es : List (ℕ × OwedUnit)) → complete_front es ≡ [] → incomplete_rest es ≡ es
all_rest [] none = refl
all_rest (e ∷ es) none = all_rest_step (is_complete e.1) e es (complete_front es) (incomplete_rest es) none

pub all-staying : (order : Order) (es : List (ℕ × OwedUnit)) → leaving order es ≡ [] → staying order es ≡ es
all-staying AsAnswered es none = all_filter (λ e. is_complete e.1) es none
all-staying AsCame es none = all_rest es none

-- ---- of what stays nothing goes out

none_step : {X : Type 0} (b : Bool) (p : X → Bool) (e : X) (fs : List X) → p e ≡ b → filter p fs ≡ [] → filter p (cond (not b) (e ∷ fs) fs) ≡ []
none_step true p e fs is none = none
none_step false p e fs is none = ap (λ b. cond b (e ∷ filter p fs) (filter p fs)) is ∙ none

none_filter : {X : Type 0} (p : X → Bool) (es : List X) → filter p (filter (λ e. not (p e)) es) ≡ []
none_filter p [] = refl
none_filter p (e ∷ es) = none_step (p e) p e (filter (λ x. not (p x)) es) refl (none_filter p es)

none_rest_step : (b : Bool) (e : ℕ × OwedUnit) (es fs : List (ℕ × OwedUnit)) → is_complete e.1 ≡ b → complete_front fs ≡ [] → complete_front (cond b fs (e ∷ es)) ≡ []
none_rest_step true e es fs is none = none
none_rest_step false e es fs is none = ap (λ b. cond b (e ∷ complete_front es) []) is

none_rest : (es : List (ℕ × OwedUnit)) → complete_front (incomplete_rest es) ≡ []
none_rest [] = refl
none_rest (e ∷ es) = none_rest_step (is_complete e.1) e es (incomplete_rest es) refl (none_rest es)

pub none-leaving : (order : Order) (es : List (ℕ × OwedUnit)) → leaving order (staying order es) ≡ []
none-leaving AsAnswered es = none_filter (λ e. is_complete e.1) es
none-leaving AsCame es = none_rest es

-- ---- a unit with an answer that isn't known yet

front_behind_step : (b : Bool) (e : ℕ × OwedUnit) (front more : List (ℕ × OwedUnit)) → cond b (e ∷ front) [] ≡ [] → cond b (e ∷ more) [] ≡ []
front_behind_step true e front more none = absurd (cc)
front_behind_step false e front more none = refl

front_behind : (es fs : List (ℕ × OwedUnit)) → complete_front es ≡ [] → complete_front fs ≡ [] → complete_front (es ++ fs) ≡ []
front_behind [] fs none more = more
front_behind (e ∷ es) fs none more = front_behind_step (is_complete e.1) e (complete_front es) (complete_front (es ++ fs)) none

none_behind : (order : Order) (es fs : List (ℕ × OwedUnit)) → leaving order es ≡ [] → leaving order fs ≡ [] → leaving order (es ++ fs) ≡ []
none_behind AsAnswered es fs none more =
    filter-append (λ e. is_complete e.1) es fs ∙ ap (λ gs. gs ++ leaving AsAnswered fs) none ∙ more
none_behind AsCame es fs none more = front_behind es fs none more

none_lacking : (order : Order) (place : ℕ) (unit : OwedUnit) → 0 < lacking unit → leaving order ((place, unit) ∷ []) ≡ []
none_lacking AsAnswered place unit some = ap (λ b. cond b ((place, unit) ∷ []) []) (ne_eqb (lacking unit) 0 (λ none. omega (arith, none, some)))
none_lacking AsCame place unit some = ap (λ b. cond b ((place, unit) ∷ []) []) (ne_eqb (lacking unit) 0 (λ none. omega (arith, none, some)))

pub lacking-stays : (order : Order) (place : ℕ) (unit : OwedUnit) (es : List (ℕ × OwedUnit)) → leaving order es ≡ [] → 0 < lacking unit → leaving order (es ++ (place, unit) ∷ []) ≡ []
lacking-stays order place unit es none some = none_behind order es ((place, unit) ∷ []) none (none_lacking order place unit some)
