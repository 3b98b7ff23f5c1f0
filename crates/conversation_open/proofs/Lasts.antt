-- The content that came last.
use Rattle.std.proofs.Common.{◌≡◌, ℕ, suc, ◌<◌, ◌==◌, not, Bool, true, false, cond, if◌then◌else◌, List, [], ◌∷◌, Option, Some, None, refl, ap, sym, ◌∙◌, arith, nat_lt, lt-ltb, eq-eqb, option_map}
use Rattle.std.specs.List.{find}
use Rattle.std.specs.Prelude.{is_some}
use Rattle.std.specs.Option.{option_map_or}
use Rattle.std.proofs.lemmas.Bool.{eqb-true, ltb-true, false_from_ne_true}
use Rattle.number_windows.specs.Numbered.{at, without, changed_at, next_number, first_number, Above, Below, Ascending}
use Rattle.number_windows.proofs.Numbered.{apart_after}
use Rattle.conversation_open.specs.Open.{contents_of, last_number, is_open_at}
use Rattle.conversation_contents.specs.Settled.{and_owed}
use Rattle.conversation_rules.specs.Dues.{owed_more, closed, is_open}
use Rattle.conversation_rules.specs.Owed.{Owed, Due}

-- none stands behind a number that all are below
pub none_above : {X : Type 0} (n : ℕ) (es : List (ℕ × X)) → Below (suc n) es → None ≡ next_number n es
none_above n [] below = refl
none_above n (e ∷ es) below =
    none_above n es below.1
    ∙ sym (ap (λ b. option_map (λ (x : ℕ × _). x.0) (cond b (Some e) (find (λ x. nat_lt n x.0) es)))
    (false_from_ne_true (nat_lt n e.0) (λ is. absurd (let over : n < e.0 = ltb-true n e.0 is in let under : e.0 < suc n = below.0 in omega arith))))

none_of : {X : Type 0} (b : Bool) (e : ℕ × X) (o : Option (ℕ × X)) → None ≡ option_map (λ x. x.0) (cond b (Some e) o) → (b ≡ false) × (None ≡ option_map (λ x. x.0) o)
none_of true e o none = cc
none_of false e o none = (refl, none)

lt_not_false : (a b : ℕ) → a < b → nat_lt a b ≡ false → ⊥
lt_not_false a b lt is = let e : true ≡ false = sym (lt-ltb a b lt) ∙ is in cc

-- one behind which none stands is the last
pub last_found : (n : ℕ) (x : Due) (es : List (ℕ × Due)) → Ascending es → at n es ≡ Some x → None ≡ next_number n es → Some n ≡ last_number es
last_found n x [] order there none = cc
last_found n x (e ∷ []) order there none = from (n == e.0) refl there
  where
    from : (b : Bool) → (n == e.0) ≡ b → cond b (Some e.1) None ≡ Some x → Some n ≡ Some e.0
    from true is it = ap Some (eqb-true n e.0 is)
    from false is it = cc
last_found n x (e ∷ f ∷ es) order there none = from (n == e.0) refl there (none_of (nat_lt n e.0) e (find (λ y. nat_lt n y.0) (f ∷ es)) none).1 (λ it rest. last_found n x (f ∷ es) order.1 it rest)
  where
    from : (b : Bool) → (n == e.0) ≡ b → cond b (Some e.1) (at n (f ∷ es)) ≡ Some x → None ≡ next_number n (f ∷ es) →
        (at n (f ∷ es) ≡ Some x → None ≡ next_number n (f ∷ es) → Some n ≡ last_number (f ∷ es)) → Some n ≡ last_number (f ∷ es)
    from true is it rest others =
        let same : n ≡ e.0 = eqb-true n e.0 is in let over : e.0 < f.0 = order.0.0 in
        absurd (lt_not_false n f.0 (omega arith) (none_of (nat_lt n f.0) f (find (λ y. nat_lt n y.0) es) rest).0)
    from false is it rest others = others it rest

-- the last is above what the others are above
last_above : (m n : ℕ) (es : List (ℕ × Due)) → Above m es → Some n ≡ last_number es → m < n
last_above m n [] above is = cc
last_above m n (e ∷ []) above is = let same : n ≡ e.0 = cc in let over : m < e.0 = above.0 in omega arith
last_above m n (e ∷ f ∷ es) above is = last_above m n (f ∷ es) above.1 is

pub none_last : (es : List (ℕ × Due)) → None ≡ last_number es → es ≡ []
none_last [] is = refl
none_last (e ∷ []) is = cc
none_last (e ∷ f ∷ es) is = absurd (let gone : f ∷ es ≡ [] = none_last (f ∷ es) is in cc)

other_than_first : (n : ℕ) (e : ℕ × Due) (es : List (ℕ × Due)) → Above e.0 es → Some n ≡ last_number es → (n == e.0) ≡ false
other_than_first n e es above is = apart_after n e.0 (last_above e.0 n es above is)

-- it is there
pub last_at : (n : ℕ) (es : List (ℕ × Due)) → Some n ≡ last_number es → is_some (at n es) ≡ true
last_at n [] is = cc
last_at n (e ∷ []) is = let same : n ≡ e.0 = cc in ap (λ b. is_some (cond b (Some e.1) None)) (eq-eqb n e.0 same)
last_at n (e ∷ f ∷ es) is = from (n == e.0) (last_at n (f ∷ es) is)
  where
    from : (b : Bool) → is_some (at n (f ∷ es)) ≡ true → is_some (cond b (Some e.1) (at n (f ∷ es))) ≡ true
    from true there = refl
    from false there = there

-- ---- what changes of it

pub owed_last : (owed : Owed) (n : ℕ) (es : List (ℕ × Due)) → Ascending es → Some n ≡ last_number es → contents_of (changed_at n (and_owed owed) es) ≡ owed_more owed (contents_of es)
owed_last owed n [] order is = cc
owed_last owed n (e ∷ []) order is = let same : n ≡ e.0 = cc in ap (λ b. (if b then and_owed owed e.1 else e.1) ∷ []) (eq-eqb n e.0 same)
owed_last owed n (e ∷ f ∷ es) order is =
    ap (λ b. (if b then and_owed owed e.1 else e.1) ∷ contents_of (changed_at n (and_owed owed) (f ∷ es))) (other_than_first n e (f ∷ es) order.0 is)
    ∙ ap (λ xs. e.1 ∷ xs) (owed_last owed n (f ∷ es) order.1 is)

pub close_open : (n : ℕ) (es : List (ℕ × Due)) → Ascending es → Some n ≡ last_number es → is_open_at n es ≡ true → contents_of es ≡ closed (contents_of es)
close_open n [] order is test = cc
close_open n (e ∷ []) order is test =
    let same : n ≡ e.0 = cc in
    let so : is_open e.1 ≡ true = sym (ap (λ b. option_map_or is_open (cond b (Some e.1) None) true) (eq-eqb n e.0 same)) ∙ test in
    sym (ap (λ b. if b then e.1 ∷ [] else []) so)
close_open n (e ∷ f ∷ es) order is test =
    ap (λ xs. e.1 ∷ xs) (close_open n (f ∷ es) order.1 is
    (sym (ap (λ b. option_map_or is_open (cond b (Some e.1) (at n (f ∷ es))) true) (other_than_first n e (f ∷ es) order.0 is)) ∙ test))

pub close_done : (n : ℕ) (es : List (ℕ × Due)) → Ascending es → Some n ≡ last_number es → is_open_at n es ≡ false → contents_of (without n es) ≡ closed (contents_of es)
close_done n [] order is test = cc
close_done n (e ∷ []) order is test =
    let same : n ≡ e.0 = cc in
    let so : is_open e.1 ≡ false = sym (ap (λ b. option_map_or is_open (cond b (Some e.1) None) true) (eq-eqb n e.0 same)) ∙ test in
    ap (λ b. contents_of (cond (not b) (e ∷ []) [])) (eq-eqb n e.0 same) ∙ sym (ap (λ b. if b then e.1 ∷ [] else []) so)
close_done n (e ∷ f ∷ es) order is test =
    ap (λ b. contents_of (cond (not b) (e ∷ without n (f ∷ es)) (without n (f ∷ es)))) (other_than_first n e (f ∷ es) order.0 is)
    ∙ ap (λ xs. e.1 ∷ xs) (close_done n (f ∷ es) order.1 is
    (sym (ap (λ b. option_map_or is_open (cond b (Some e.1) (at n (f ∷ es))) true) (other_than_first n e (f ∷ es) order.0 is)) ∙ test))

-- ---- looked for

pub from_some : {X : Type 0} (o : Option X) → is_some o ≡ true → (P : Type 0) → ((x : X) → o ≡ Some x → P) → P
from_some None is P f = cc
from_some (Some x) is P f = f x refl

-- the greatest number that was given is there
pub last_there : (n : ℕ) (es : List (ℕ × Due)) → Ascending es → Below (suc n) es → is_some (at n es) ≡ true → Some n ≡ last_number es
last_there n es order below there = from_some (at n es) there (Some n ≡ last_number es) (λ x is. last_found n x es order is (none_above n es below))

pub last_stands : (n : ℕ) (es : List (ℕ × Due)) → Ascending es → is_some (at n es) ≡ true → None ≡ next_number n es → Some n ≡ last_number es
last_stands n es order there none = from_some (at n es) there (Some n ≡ last_number es) (λ x is. last_found n x es order is none)

pub first_there : (n : ℕ) (es : List (ℕ × Due)) → Some n ≡ first_number es → is_some (at n es) ≡ true
first_there n [] is = cc
first_there n (e ∷ es) is = let same : n ≡ e.0 = cc in ap (λ b. is_some (cond b (Some e.1) (at n es))) (eq-eqb n e.0 same)

pub first_none : (es : List (ℕ × Due)) → None ≡ first_number es → None ≡ last_number es
first_none [] is = refl
first_none (e ∷ es) is = cc
