-- What is left of a list whose numbers ascend, from a number on.
use Rattle.std.proofs.Common.{◌≡◌, ℕ, ◌<◌, ◌≤◌, ◌==◌, not, length, Bool, true, false, cond, List, [], ◌∷◌, Option, Some, None, refl, sym, ap, subst, ◌∙◌, arith, nat_lt, eq-eqb}
use Rattle.std.proofs.lemmas.Bool.{eqb-true, lt-ltb, ne_eqb, false_from_ne_true, ltb-true}
use Rattle.std.specs.Option.{option_eq, option_map, IfSome}
use Rattle.std.specs.List.{find}
use Rattle.open_calls.specs.Numbered.{at, without, first_number, next_number, Above, Ascending}
use Rattle.connection_desk.specs.Inner.{rest_from, rest_of}
use Rattle.connection_desk.proofs.Entries.{AtAbove, FewerWithout, WithoutAbove}

pub at_here : {X : Type 0} (e : ℕ × X) (es : List (ℕ × X)) → at e.0 (e ∷ es) ≡ Some e.1
at_here e es = ap (λ b. cond b (Some e.1) (at e.0 es)) (eq-eqb e.0 e.0 refl)

apart_after : (n m : ℕ) → m < n → (n == m) ≡ false
apart_after n m lt = ne_eqb n m (λ same. omega arith)

not_above : (n m : ℕ) → m ≤ n → nat_lt n m ≡ false
not_above n m le = false_from_ne_true (nat_lt n m) (λ over. let lt : n < m = ltb-true n m over in omega arith)

pub rest_first : {X : Type 0} (all : List (ℕ × X)) → rest_of (first_number all) all ≡ all
rest_first [] = refl
rest_first (e ∷ es) = ap (λ b. cond b (e ∷ es) (rest_from e.0 es)) (eq-eqb e.0 e.0 refl)

rest_skip : {X : Type 0} (o : Option ℕ) (e : ℕ × X) (es : List (ℕ × X)) → IfSome o (λ m. e.0 < m) → rest_of o (e ∷ es) ≡ rest_of o es
rest_skip None e es lt = refl
rest_skip (Some m) e es lt = ap (λ b. cond b (e ∷ es) (rest_from m es)) (apart_after m e.0 lt)

over_step : {X : Type 0} (b : Bool) (m : ℕ) (e : ℕ × X) (o : Option (ℕ × X)) → m < e.0 → IfSome (option_map (λ x. x.0) o) (λ k. m < k)
    → IfSome (option_map (λ x. x.0) (cond b (Some e) o)) (λ k. m < k)
over_step true m e o lt there = lt
over_step false m e o lt there = there

next_over : {X : Type 0} (n m : ℕ) (es : List (ℕ × X)) → Above m es → IfSome (next_number n es) (λ k. m < k)
next_over n m [] above = tt
next_over n m (e ∷ es) above = over_step (nat_lt n e.0) m e (find (λ x. nat_lt n x.0) es) above.0 (next_over n m es above.1)

next_later : {X : Type 0} (n : ℕ) (e : ℕ × X) (es : List (ℕ × X)) → e.0 ≤ n → next_number n (e ∷ es) ≡ next_number n es
next_later n e es le = ap (λ b. option_map (λ x. x.0) (cond b (Some e) (find (λ x. nat_lt n x.0) es))) (not_above n e.0 le)

pub rest_next : {X : Type 0} (n : ℕ) (es : List (ℕ × X)) → Above n es → rest_of (next_number n es) es ≡ es
rest_next n [] above = refl
rest_next n (e ∷ es) above =
    ap (λ b. rest_of (option_map (λ x. x.0) (cond b (Some e) (find (λ x. nat_lt n x.0) es))) (e ∷ es)) (lt-ltb n e.0 above.0)
    ∙ ap (λ b. cond b (e ∷ es) (rest_from e.0 es)) (eq-eqb e.0 e.0 refl)

-- the entries from the next number on, where the first is skipped
skipped : {X : Type 0} (n : ℕ) (e : ℕ × X) (es : List (ℕ × X)) → Above e.0 es → e.0 ≤ n → rest_of (next_number n (e ∷ es)) (e ∷ es) ≡ rest_of (next_number n es) es
skipped n e es above le =
    ap (λ o. rest_of o (e ∷ es)) (next_later n e es le) ∙ rest_skip (next_number n es) e es (next_over n e.0 es above)

rest_here : {X : Type 0} (n : ℕ) (x : X) (e : ℕ × X) (es : List (ℕ × X)) → Above e.0 es → n ≡ e.0 → e.1 ≡ x
    → e ∷ es ≡ (n, x) ∷ rest_of (next_number n (e ∷ es)) (e ∷ es)
rest_here n x e es above here is =
    let same : e ≡ (n, x) = ap (λ m. (m, e.1)) (sym here) ∙ ap (λ u. (n, u)) is in
    ap (λ x. x ∷ es) same
    ∙ ap (λ t. (n, x) ∷ t) (sym (skipped n e es above (omega arith) ∙ rest_next n es (subst (λ m. Above m es) (sym here) above)))

from_step : {X : Type 0} (b : Bool) (n : ℕ) (x : X) (e : ℕ × X) (o : Option X) (es rest : List (ℕ × X)) → cond b (Some e.1) o ≡ Some x
    → (b ≡ true → e.1 ≡ x → e ∷ es ≡ (n, x) ∷ rest) → (o ≡ Some x → rest_from n es ≡ (n, x) ∷ rest)
    → cond b (e ∷ es) (rest_from n es) ≡ (n, x) ∷ rest
from_step true n x e o es rest is here there = here refl (cc)
from_step false n x e o es rest is here there = there is

pub rest_step_from : {X : Type 0} (above : AtAbove X) (n : ℕ) (x : X) (all : List (ℕ × X)) → Ascending all → at n all ≡ Some x → rest_from n all ≡ (n, x) ∷ rest_of (next_number n all) all
rest_step_from above n x [] order is = absurd (cc)
rest_step_from above n x (e ∷ es) order is =
    from_step (n == e.0) n x e (at n es) es (rest_of (next_number n (e ∷ es)) (e ∷ es)) is
    (λ here same. rest_here n x e es order.0 (eqb-true n e.0 here) same)
    (λ there.
    let lt : e.0 < n = above e.0 n x es order.0 there in
    rest_step_from above n x es order.1 there ∙ ap (λ t. (n, x) ∷ t) (sym (skipped n e es order.0 (omega arith))))

-- something stands under this number
abbrev pub IsThere : {X : Type 0} → List (ℕ × X) → ℕ → Type 0
IsThere {X} es number = (x : X) × (at number es ≡ Some x)

there_later : {X : Type 0} (is_above : AtAbove X) (e : ℕ × X) (es : List (ℕ × X)) (n : ℕ) → Above e.0 es → IsThere es n → IsThere (e ∷ es) n
there_later is_above e es n above there =
    (there.0, ap (λ b. cond b (Some e.1) (at n es)) (apart_after n e.0 (is_above e.0 n there.0 es above there.1)) ∙ there.1)

there_step : {X : Type 0} (is_above : AtAbove X) (b : Bool) (e : ℕ × X) (o : Option (ℕ × X)) (es : List (ℕ × X)) → Above e.0 es → IfSome (option_map (λ x. x.0) o) (IsThere es)
    → IfSome (option_map (λ x. x.0) (cond b (Some e) o)) (IsThere (e ∷ es))
there_step is_above true e o es above there = (e.1, at_here e es)
there_step is_above false e None es above there = tt
there_step is_above false e (Some f) es above there = there_later is_above e es f.0 above there

pub next_there : {X : Type 0} (is_above : AtAbove X) (n : ℕ) (es : List (ℕ × X)) → Ascending es → IfSome (next_number n es) (IsThere es)
next_there is_above n [] order = tt
next_there is_above n (e ∷ es) order = there_step is_above (nat_lt n e.0) e (find (λ x. nat_lt n x.0) es) es order.0 (next_there is_above n es order.1)

-- ---- the first goes

head_gone : {X : Type 0} (stay : WithoutAbove X) (e : ℕ × X) (es : List (ℕ × X)) → Above e.0 es → without e.0 (e ∷ es) ≡ es
head_gone stay e es above = ap (λ b. cond (not b) (e ∷ without e.0 es) (without e.0 es)) (eq-eqb e.0 e.0 refl) ∙ stay e.0 es above

other_rest : {X : Type 0} (stays : Option ℕ) (e : ℕ × X) (es : List (ℕ × X)) → (stays ≡ Some e.0 → ⊥) → rest_of stays es ≡ rest_of stays (e ∷ es)
other_rest None e es other = refl
other_rest (Some n) e es other = sym (ap (λ b. cond b (e ∷ es) (rest_from n es)) (ne_eqb n e.0 (λ same. other (ap Some same))))

-- it isn't the one at which what is left begins
pub rest_gone : {X : Type 0} (stay : WithoutAbove X) (place : ℕ) (stays : Option ℕ) (all : List (ℕ × X)) → Ascending all → first_number all ≡ Some place → (stays ≡ Some place → ⊥)
    → rest_of stays (without place all) ≡ rest_of stays all
rest_gone stay place stays [] order first other = cc
rest_gone stay place stays (e ∷ es) order first other =
    let here : place ≡ e.0 = cc in
    ap (λ n. rest_of stays (without n (e ∷ es))) here
    ∙ ap (rest_of stays) (head_gone stay e es order.0)
    ∙ other_rest stays e es (λ is. other (is ∙ ap Some (sym here)))

pub first_fewer : {X : Type 0} (fewer : FewerWithout X) (place : ℕ) (all : List (ℕ × X)) → first_number all ≡ Some place → length (without place all) < length all
first_fewer fewer place [] first = cc
first_fewer fewer place (e ∷ es) first =
    let here : place ≡ e.0 = cc in
    fewer place e.1 (e ∷ es) (ap (λ n. at n (e ∷ es)) here ∙ at_here e es)

-- what is left begins with the first
pub rest_at_first : {X : Type 0} (stays : Option ℕ) (place : ℕ) (all : List (ℕ × X)) → first_number all ≡ Some place → stays ≡ Some place → rest_of stays all ≡ all
rest_at_first stays place all first is = ap (λ o. rest_of o all) (is ∙ sym first) ∙ rest_first all

pub rest_none : {X : Type 0} (stays : Option ℕ) (all : List (ℕ × X)) → first_number all ≡ None → rest_of stays all ≡ all
rest_none None [] none = refl
rest_none (Some n) [] none = refl
rest_none stays (e ∷ es) none = cc

pub same_place : (stays : Option ℕ) (place : ℕ) → option_eq (λ a b. a == b) stays (Some place) ≡ true → stays ≡ Some place
same_place None place is = cc
same_place (Some n) place is = ap Some (eqb-true n place is)

pub other_place : (stays : Option ℕ) (place : ℕ) → option_eq (λ a b. a == b) stays (Some place) ≡ false → stays ≡ Some place → ⊥
other_place stays place is same =
    let yes : true ≡ false = sym (ap (λ o. option_eq (λ a b. a == b) o (Some place)) same ∙ eq-eqb place place refl) ∙ is in
    absurd (cc)
