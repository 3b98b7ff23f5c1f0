-- Contents that are changed one behind another, and what is told of those that are left.
use Rattle.std.proofs.Common.{◌≡◌, ℕ, ◌<◌, ◌≤◌, ◌==◌, not, Bool, true, false, cond, if◌then◌else◌, List, [], ◌∷◌, ◌++◌, Option, Some, None, refl, ap, sym, ◌∙◌, arith, nat_le, map}
use Rattle.std.specs.Prelude.{is_some}
use Rattle.std.specs.Option.{option_map_or}
use Rattle.std.proofs.lemmas.Bool.{eqb-true, eqb-false, leb-true, leb-false, false_from_ne_true}
use Rattle.number_windows.specs.Numbered.{at, without, changed_at, next_number, Above, Ascending}
use Rattle.conversation_open.specs.Open.{contents_of, changed_up_to, unanswered_at}
use Rattle.conversation_contents.specs.Left.{behind}
use Rattle.conversation_contents.proofs.Behind.{behind_next, next_there}
use Rattle.conversation_contents.proofs.Lists.{here, behind as there_behind}
use Rattle.conversation_rules.specs.Dues.{unanswered, unanswered_of}
use Rattle.conversation_rules.specs.Owed.{Due}

not_le : (a b : ℕ) → b < a → nat_le a b ≡ false
not_le a b lt = false_from_ne_true (nat_le a b) (λ is. let le : a ≤ b = leb-true a b is in omega arith)

-- before the first
pub changed_none : (f : Due → Due) (es : List (ℕ × Due)) → Above 0 es → es ≡ changed_up_to 0 f es
changed_none f [] above = refl
changed_none f (e ∷ es) above =
    ap (λ xs. e ∷ xs) (changed_none f es above.1)
    ∙ sym (ap (λ b. (e.0, (if b then f e.1 else e.1)) ∷ changed_up_to 0 f es) (not_le e.0 0 above.0))

-- behind the last that is changed
pub changed_all : (f : Due → Due) (after : ℕ) (es : List (ℕ × Due)) → Ascending es → ((n : ℕ) (x : Due) → after < n → at n es ≡ Some x → f x ≡ x) → contents_of (changed_up_to after f es) ≡ map f (contents_of es)
changed_all f after [] order fixed = refl
changed_all f after (e ∷ es) order fixed =
    ap (λ x. x ∷ contents_of (changed_up_to after f es)) (from (nat_le e.0 after) refl)
    ∙ ap (λ xs. f e.1 ∷ xs) (changed_all f after es order.1 (λ n x over is. fixed n x over (there_behind e es n x order.0 is)))
  where
    from : (b : Bool) → nat_le e.0 after ≡ b → (if b then f e.1 else e.1) ≡ f e.1
    from true is = refl
    from false is = sym (fixed e.0 e.1 (leb-false e.0 after is) (here e es))

-- the next one is changed
pub changed_next : (f : Due → Due) (after number : ℕ) (es : List (ℕ × Due)) → Ascending es → after < number → ((n : ℕ) (x : Due) → after < n → n < number → at n es ≡ Some x → f x ≡ x) →
    changed_at number f (changed_up_to after f es) ≡ changed_up_to number f es
changed_next f after number [] order over fixed = refl
changed_next f after number (e ∷ es) order over fixed =
    ap (λ x. (e.0, x) ∷ changed_at number f (changed_up_to after f es)) (from (number == e.0) (nat_le e.0 after) (nat_le e.0 number) refl refl refl)
    ∙ ap (λ xs. (e.0, (if nat_le e.0 number then f e.1 else e.1)) ∷ xs) (changed_next f after number es order.1 over (λ n x more less is. fixed n x more less (there_behind e es n x order.0 is)))
  where
    from : (same low within : Bool) → (number == e.0) ≡ same → nat_le e.0 after ≡ low → nat_le e.0 number ≡ within →
        (if same then f (if low then f e.1 else e.1) else (if low then f e.1 else e.1)) ≡ (if within then f e.1 else e.1)
    from true true within is lo wi = absurd (let same : number ≡ e.0 = eqb-true number e.0 is in let le : e.0 ≤ after = leb-true e.0 after lo in omega arith)
    from true false true is lo wi = refl
    from true false false is lo wi = absurd (let same : number ≡ e.0 = eqb-true number e.0 is in let lt : number < e.0 = leb-false e.0 number wi in omega arith)
    from false true true is lo wi = refl
    from false true false is lo wi = absurd (let le : e.0 ≤ after = leb-true e.0 after lo in let lt : number < e.0 = leb-false e.0 number wi in omega arith)
    from false false true is lo wi =
        let more : after < e.0 = leb-false e.0 after lo in let le : e.0 ≤ number = leb-true e.0 number wi in let ne : number ≡ e.0 → ⊥ = eqb-false number e.0 is in
        sym (fixed e.0 e.1 more (omega arith) (here e es))
    from false false false is lo wi = refl

-- what stands behind the changed ones is as it was
pub still_there : (f : Due → Due) (after n : ℕ) (x : Due) (es : List (ℕ × Due)) → after < n → at n es ≡ Some x → at n (changed_up_to after f es) ≡ Some x
still_there f after n x [] over is = cc
still_there f after n x (e ∷ es) over is = from (n == e.0) refl is (still_there f after n x es over)
  where
    from : (b : Bool) → (n == e.0) ≡ b → cond b (Some e.1) (at n es) ≡ Some x → (at n es ≡ Some x → at n (changed_up_to after f es) ≡ Some x) →
        cond (n == e.0) (Some (if nat_le e.0 after then f e.1 else e.1)) (at n (changed_up_to after f es)) ≡ Some x
    from true same it rest =
        let eq : n ≡ e.0 = eqb-true n e.0 same in
        ap (λ b. cond b (Some (if nat_le e.0 after then f e.1 else e.1)) (at n (changed_up_to after f es))) same
        ∙ ap (λ b. Some (if b then f e.1 else e.1)) (not_le e.0 after (omega arith)) ∙ it
    from false other it rest =
        ap (λ b. cond b (Some (if nat_le e.0 after then f e.1 else e.1)) (at n (changed_up_to after f es))) other ∙ rest it

-- a change of what is taken off
taken_by : (b : Bool) (f : Due → Due) (e : ℕ × Due) (changed gone : List (ℕ × Due)) → changed ≡ gone → cond (not b) ((e.0, (if b then f e.1 else e.1)) ∷ changed) changed ≡ cond (not b) (e ∷ gone) gone
taken_by true f e changed gone is = is
taken_by false f e changed gone is = ap (λ xs. e ∷ xs) is

pub taken_off : (n : ℕ) (f : Due → Due) (es : List (ℕ × Due)) → without n (changed_at n f es) ≡ without n es
taken_off n f [] = refl
taken_off n f (e ∷ es) = taken_by (n == e.0) f e (without n (changed_at n f es)) (without n es) (taken_off n f es)

-- what is told, with one content more
told_by : (after number : ℕ) (es : List (ℕ × Due)) → Ascending es → Some number ≡ next_number after es → (o : Option Due) → at number es ≡ o → is_some o ≡ true →
    unanswered (contents_of (behind after es)) ≡ option_map_or (λ due. unanswered_of due due.entries) o [] ++ unanswered (contents_of (behind number es))
told_by after number es order is None there some = cc
told_by after number es order is (Some due) there some = ap (λ xs. unanswered (contents_of xs)) (behind_next after number due es order is there)

pub told_next : (after number : ℕ) (es : List (ℕ × Due)) → Ascending es → Some number ≡ next_number after es → unanswered (contents_of (behind after es)) ≡ unanswered_at number es ++ unanswered (contents_of (behind number es))
told_next after number es order is = told_by after number es order is (at number es) refl (next_there after number es is)
