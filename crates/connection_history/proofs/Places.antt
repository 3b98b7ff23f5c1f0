-- As they came, the places of the answers go up.
use Rattle.std.proofs.Common.{◌≡◌, ℕ, suc, ◌+◌, List, [], ◌∷◌, ◌++◌, map, Option, Some, None, refl, sym, ap, subst, ◌∙◌, arith}
use Rattle.std.specs.List.Sorted.{IsStrictlyIncreasing}
use Rattle.connection_history.specs.declared.order.Order.TheVariants.{AsCame}
use Rattle.connection_history.specs.Answers.{Due, open_yet, nothing, text, dues}
use Rattle.connection_history.specs.History.{Happening, History}
use Rattle.connection_history.specs.Items.{Item, said, answer, said_at, out, newly_at, newly_out, answers_at, items_at, items_of}
use Rattle.connection_history.specs.Written.{places_in}
use Rattle.connection_history.proofs.Dues.{DuesStay, dues-stay}
use Rattle.connection_history.proofs.Rise.{Rise, rise-from, rise-append, strict}
use Rattle.connection_history.proofs.Written.{said-no_places}

-- ---- the units that are settled

-- how many units stand before the first whose requests aren't all answered
abbrev settled : List Due → ℕ
settled [] = 0
settled (open_yet ∷ ds) = 0
settled (nothing ∷ ds) = suc (settled ds)
settled (text t ∷ ds) = suc (settled ds)

places_in-append : (items more : List Item) → places_in (items ++ more) ≡ places_in items ++ places_in more
places_in-append [] more = refl
places_in-append (said t ∷ items) more = places_in-append items more
places_in-append (answer place t ∷ items) more = ap (λ l. place ∷ l) (places_in-append items more)

none_newly : (i : ℕ) (later : List Due) → newly_out i [] (map (λ d. None) later) ≡ []
none_newly i [] = refl
none_newly i (d ∷ later) = none_newly (i + 1) later

none_before : (i : ℕ) (ds : List Due) (after : List (Option (List ℕ))) → newly_out i (map (λ d. None) ds) after ≡ newly_out i [] after
none_before i ds [] = refl
none_before i [] (a ∷ after) = refl
none_before i (d ∷ ds) (a ∷ after) = ap (λ l. newly_at i None a ++ l) (none_before (i + 1) ds after)

-- where nothing was out, the answers that are go up to the first open unit
all_newly : (i : ℕ) (later : List Due) → Rise i (i + settled later) (places_in (newly_out i [] (out AsCame later)))
all_newly i [] = omega arith
all_newly i (open_yet ∷ later) = subst (λ l. Rise i (i + 0) (places_in l)) (sym (none_newly (i + 1) later)) (omega arith)
all_newly i (nothing ∷ later) =
    let end : i + 1 + settled later ≡ i + suc (settled later) = omega arith in
    rise-from i (i + 1) (i + suc (settled later)) _ (omega arith) (subst (λ e. Rise (i + 1) e (places_in (newly_out (i + 1) [] (out AsCame later)))) end (all_newly (i + 1) later))
all_newly i (text t ∷ later) =
    let end : i + 1 + settled later ≡ i + suc (settled later) = omega arith in
    (omega arith, subst (λ e. Rise (i + 1) e (places_in (newly_out (i + 1) [] (out AsCame later)))) end (all_newly (i + 1) later))

-- the answers that newly are out go up from the first unit that was open to the first that is
newly_rise : (i : ℕ) (ds later : List Due) → DuesStay ds later → Rise (i + settled ds) (i + settled later) (places_in (newly_out i (out AsCame ds) (out AsCame later)))
newly_rise i [] later stays = subst (λ l. Rise l (i + settled later) (places_in (newly_out i [] (out AsCame later)))) (let same : i ≡ i + 0 = omega arith in same) (all_newly i later)
newly_rise i (d ∷ ds) [] stays = absurd stays
newly_rise i (open_yet ∷ ds) (e ∷ later) stays =
    subst (λ l. Rise l (i + settled (e ∷ later)) (places_in (newly_out i (None ∷ map (λ d. None) ds) (out AsCame (e ∷ later))))) (let same : i ≡ i + 0 = omega arith in same)
    (subst (λ items. Rise i (i + settled (e ∷ later)) (places_in items)) (sym (none_before i (open_yet ∷ ds) (out AsCame (e ∷ later)))) (all_newly i (e ∷ later)))
newly_rise i (nothing ∷ ds) (e ∷ later) stays =
    let from : i + 1 + settled ds ≡ i + suc (settled ds) = omega arith in
    let end : i + 1 + settled later ≡ i + suc (settled later) = omega arith in
    subst (λ e₁. Rise (i + suc (settled ds)) (i + settled (e₁ ∷ later)) (places_in (newly_out i (None ∷ out AsCame ds) (out AsCame (e₁ ∷ later))))) (sym stays.0)
    (subst (λ l. Rise l (i + suc (settled later)) (places_in (newly_out (i + 1) (out AsCame ds) (out AsCame later)))) from
    (subst (λ l. Rise (i + 1 + settled ds) l (places_in (newly_out (i + 1) (out AsCame ds) (out AsCame later)))) end (newly_rise (i + 1) ds later stays.1)))
newly_rise i (text t ∷ ds) (e ∷ later) stays =
    let from : i + 1 + settled ds ≡ i + suc (settled ds) = omega arith in
    let end : i + 1 + settled later ≡ i + suc (settled later) = omega arith in
    subst (λ e₁. Rise (i + suc (settled ds)) (i + settled (e₁ ∷ later)) (places_in (newly_out i (Some t ∷ out AsCame ds) (out AsCame (e₁ ∷ later))))) (sym stays.0)
    (subst (λ l. Rise l (i + suc (settled later)) (places_in (newly_out (i + 1) (out AsCame ds) (out AsCame later)))) from
    (subst (λ l. Rise (i + 1 + settled ds) l (places_in (newly_out (i + 1) (out AsCame ds) (out AsCame later)))) end (newly_rise (i + 1) ds later stays.1)))

-- ---- all that is written

happening_rises : (past : History) (h : Happening) → Rise (settled (dues past)) (settled (dues (h ∷ past))) (places_in (items_at AsCame past h))
happening_rises past h =
    let from : 0 + settled (dues past) ≡ settled (dues past) = omega arith in
    let end : 0 + settled (dues (h ∷ past)) ≡ settled (dues (h ∷ past)) = omega arith in
    subst (λ l. Rise (settled (dues past)) (settled (dues (h ∷ past))) l)
    (sym (places_in-append (said_at past h) (answers_at AsCame past h) ∙ ap (λ l. l ++ places_in (answers_at AsCame past h)) (said-no_places past h)))
    (subst (λ l. Rise l (settled (dues (h ∷ past))) (places_in (answers_at AsCame past h))) from
    (subst (λ l. Rise (0 + settled (dues past)) l (places_in (answers_at AsCame past h))) end (newly_rise 0 (dues past) (dues (h ∷ past)) (dues-stay past h))))

all_rise : (history : History) → Rise 0 (settled (dues history)) (places_in (items_of AsCame history))
all_rise [] = omega arith
all_rise (h ∷ past) =
    subst (λ l. Rise 0 (settled (dues (h ∷ past))) l) (sym (places_in-append (items_of AsCame past) (items_at AsCame past h)))
    (rise-append 0 (settled (dues past)) (settled (dues (h ∷ past))) (places_in (items_of AsCame past)) (places_in (items_at AsCame past h)) (all_rise past) (happening_rises past h))

-- as they came, the places of all answers go up
pub places_rise : (history : History) → IsStrictlyIncreasing (places_in (items_of AsCame history))
places_rise history = strict 0 (settled (dues history)) (places_in (items_of AsCame history)) (all_rise history)
