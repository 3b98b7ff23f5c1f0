-- The elements behind a number, and the next of them.
use Rattle.std.proofs.Common.{◌≡◌, ℕ, ◌<◌, ◌≤◌, ◌==◌, Bool, true, false, cond, List, [], ◌∷◌, Option, Some, None, refl, ap, sym, ◌∙◌, arith, nat_lt, eq-eqb, option_map}
use Rattle.std.specs.List.{find}
use Rattle.std.specs.Prelude.{is_some}
use Rattle.std.proofs.lemmas.Bool.{ltb-true, ltb-false, le-ltb, lt-ltb}
use Rattle.number_windows.specs.Numbered.{at, next_number, Above, Ascending}
use Rattle.number_windows.proofs.Numbered.{apart_after}
use Rattle.conversation_contents.proofs.Lists.{here}
use Rattle.conversation_contents.specs.Left.{behind}

there_by : {X : Type 0} (n : ℕ) (e : ℕ × X) (es : List (ℕ × X)) (b : Bool) → (after : ℕ) → Some n ≡ option_map (λ x. x.0) (cond b (Some e) (find (λ x. nat_lt after x.0) es)) →
    (Some n ≡ next_number after es → is_some (at n es) ≡ true) → is_some (at n (e ∷ es)) ≡ true
there_by n e es true after is rest = let same : n ≡ e.0 = cc in ap (λ b. is_some (cond b (Some e.1) (at n es))) (eq-eqb n e.0 same)
there_by n e es false after is rest = later (n == e.0) (rest is)
  where
    later : (b : Bool) → is_some (at n es) ≡ true → is_some (cond b (Some e.1) (at n es)) ≡ true
    later true it = refl
    later false it = it

pub next_there : {X : Type 0} (after n : ℕ) (es : List (ℕ × X)) → Some n ≡ next_number after es → is_some (at n es) ≡ true
next_there after n [] is = cc
next_there after n (e ∷ es) is = there_by n e es (nat_lt after e.0) after is (λ rest. next_there after n es rest)

pub behind_none : {X : Type 0} (es : List (ℕ × X)) → Above 0 es → behind 0 es ≡ es
behind_none [] above = refl
behind_none (e ∷ es) above =
    ap (λ b. cond b (e ∷ behind 0 es) (behind 0 es)) (lt-ltb 0 e.0 above.0) ∙ ap (λ xs. e ∷ xs) (behind_none es above.1)

none_step : {X : Type 0} (b : Bool) (e : ℕ × X) (o : Option (ℕ × X)) (rest : List (ℕ × X)) → None ≡ option_map (λ x. x.0) (cond b (Some e) o) → (None ≡ option_map (λ x. x.0) o → rest ≡ []) → cond b (e ∷ rest) rest ≡ []
none_step true e o rest none is = cc
none_step false e o rest none is = is none

pub behind_last : {X : Type 0} (n : ℕ) (es : List (ℕ × X)) → None ≡ next_number n es → behind n es ≡ []
behind_last n [] none = refl
behind_last n (e ∷ es) none = none_step (nat_lt n e.0) e (find (λ x. nat_lt n x.0) es) (behind n es) none (λ rest. behind_last n es rest)

all_behind : {X : Type 0} (n : ℕ) (es : List (ℕ × X)) → Above n es → behind n es ≡ es
all_behind n [] above = refl
all_behind n (e ∷ es) above = ap (λ b. cond b (e ∷ behind n es) (behind n es)) (lt-ltb n e.0 above.0) ∙ ap (λ xs. e ∷ xs) (all_behind n es above.1)

above_more : {X : Type 0} (m n : ℕ) (es : List (ℕ × X)) → m ≤ n → Above n es → Above m es
above_more m n [] le above = tt
above_more m n (e ∷ es) le above = (let over : n < e.0 = above.0 in omega arith, above_more m n es le above.1)

next_step : {X : Type 0} (after number : ℕ) (b : Bool) (e : ℕ × X) (o : Option (ℕ × X)) → nat_lt after e.0 ≡ b → Some number ≡ option_map (λ x. x.0) (cond b (Some e) o) → (Some number ≡ option_map (λ x. x.0) o → after < number) → after < number
next_step after number true e o lt is rest = let same : number ≡ e.0 = cc in let less : after < e.0 = ltb-true after e.0 lt in omega arith
next_step after number false e o lt is rest = rest is

-- the next number is greater
pub next_above : {X : Type 0} (after number : ℕ) (es : List (ℕ × X)) → Some number ≡ next_number after es → after < number
next_above after number [] is = cc
next_above after number (e ∷ es) is = next_step after number (nat_lt after e.0) e (find (λ x. nat_lt after x.0) es) refl is (λ rest. next_above after number es rest)

-- the next one, and those behind it
pub behind_next : {X : Type 0} (after number : ℕ) (due : X) (es : List (ℕ × X)) → Ascending es → Some number ≡ next_number after es → at number es ≡ Some due → behind after es ≡ (number, due) ∷ behind number es
behind_next after number due [] order is there = cc
behind_next after number due (e ∷ es) order is there = from (nat_lt after e.0) refl is (λ it found. behind_next after number due es order.1 it found)
  where
    unwrapped : {Y : Type 0} {a b : Y} → Some a ≡ Some b → a ≡ b
    unwrapped is = cc

    from : (b : Bool) → nat_lt after e.0 ≡ b → Some number ≡ option_map (λ x. x.0) (cond b (Some e) (find (λ x. nat_lt after x.0) es)) →
        (Some number ≡ next_number after es → at number es ≡ Some due → behind after es ≡ (number, due) ∷ behind number es) →
        cond (nat_lt after e.0) (e ∷ behind after es) (behind after es) ≡ (number, due) ∷ behind number (e ∷ es)
    from true lt it rest =
        let same : number ≡ e.0 = cc in
        let value : due ≡ e.1 = unwrapped (sym there ∙ ap (λ n. at n (e ∷ es)) same ∙ here e es) in
        ap (λ b. cond b (e ∷ behind after es) (behind after es)) lt
        ∙ ap (λ xs. e ∷ xs) (all_behind after es (above_more after e.0 es (let less : after < e.0 = ltb-true after e.0 lt in omega arith) order.0))
        ∙ ap (λ x. x ∷ es) (sym (ap (λ n. (n, due)) same ∙ ap (λ d. (e.0, d)) value))
        ∙ ap (λ xs. (number, due) ∷ xs) (sym (ap (λ n. behind n (e ∷ es)) same ∙ ap (λ b. cond b (e ∷ behind e.0 es) (behind e.0 es)) (le-ltb e.0 e.0 (omega arith)) ∙ all_behind e.0 es order.0))
    from false lt it rest =
        let le : e.0 ≤ after = ltb-false after e.0 lt in
        let more : after < number = next_above after number es it in
        let apart_is : (number == e.0) ≡ false = apart_after number e.0 (omega arith) in
        ap (λ b. cond b (e ∷ behind after es) (behind after es)) lt
        ∙ rest it (sym (ap (λ b. cond b (Some e.1) (at number es)) apart_is) ∙ there)
        ∙ ap (λ xs. (number, due) ∷ xs) (sym (ap (λ b. cond b (e ∷ behind number es) (behind number es)) (le-ltb number e.0 (omega arith))))
