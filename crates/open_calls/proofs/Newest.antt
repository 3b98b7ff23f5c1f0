-- What stands under a number, of those up to one and of those behind it, and the walk over the latter.
use Rattle.std.proofs.Common.{◌≡◌, ℕ, suc, ◌+◌, ◌<◌, ◌≤◌, ◌==◌, Bool, true, false, cond, List, [], ◌∷◌, Option, Some, None, MatchOption, refl, ap, sym, subst, ◌∙◌, ◌⊎◌, inl, inr, arith, nat_le, nat_lt, eq-eqb, min, max}
use Rattle.std.proofs.lemmas.Bool.{eqb-true, eqb-false, ltb-true, ltb-false, leb-true, leb-false, le-leb, false_from_ne_true}
use Rattle.number_windows.specs.Numbered.{at, up_to, first_above, Below, Ascending}
use Rattle.open_calls.specs.Inner.{passes, IsFirst, IsNext}
use Rattle.number_windows.proofs.Numbered.{apart, apart_after, at_below, below_more}
use Rattle.number_windows.proofs.Rows.{at_over}

-- ---- what stands under a number, of the calls up to one

up_to_step : {X : Type 0} (b h g : Bool) (k : ℕ) (e : ℕ × X) (es fs : List (ℕ × X)) → (k == e.0) ≡ h → (h ≡ true → b ≡ g) → at k fs ≡ cond g (at k es) None
    → at k (cond b (e ∷ fs) fs) ≡ cond g (cond (k == e.0) (Some e.1) (at k es)) None
up_to_step true true true k e es fs here same is = ap (λ h. cond h (Some e.1) (at k fs)) here ∙ ap (λ h. cond h (Some e.1) (at k es)) (sym here)
up_to_step true true false k e es fs here same is = absurd (let no : true ≡ false = same refl in cc)
up_to_step true false true k e es fs here same is = ap (λ o. cond (k == e.0) (Some e.1) o) is
up_to_step true false false k e es fs here same is = ap (λ h. cond h (Some e.1) (at k fs)) here ∙ is
up_to_step false true true k e es fs here same is = absurd (let no : false ≡ true = same refl in cc)
up_to_step false true false k e es fs here same is = is
up_to_step false false true k e es fs here same is = is ∙ ap (λ h. cond h (Some e.1) (at k es)) (sym here)
up_to_step false false false k e es fs here same is = is

none_either : {X : Type 0} (g : Bool) (o : Option X) → o ≡ None → o ≡ cond g o None
none_either true o is = refl
none_either false o is = is

pub at_up_to : {X : Type 0} (m k : ℕ) (es : List (ℕ × X)) → at k (up_to m es) ≡ cond (nat_le k m) (at k es) None
at_up_to m k [] = none_either (nat_le k m) None refl
at_up_to m k (e ∷ es) =
    up_to_step (nat_le e.0 m) (k == e.0) (nat_le k m) k e es (up_to m es) refl (λ here. ap (λ n. nat_le n m) (sym (eqb-true k e.0 here))) (at_up_to m k es)

older_step : {X : Type 0} (here within : Bool) (w o : Option X) → (here ≡ true → within ≡ true) → cond within (cond here w o) None ≡ cond here w (cond within o None)
older_step true true w o older = refl
older_step true false w o older = absurd (let no : false ≡ true = older refl in cc)
older_step false within w o older = refl

newer_step : {X : Type 0} (here within : Bool) (w o : Option X) → (here ≡ true → within ≡ false) → cond within (cond here w o) None ≡ cond within o None
newer_step true true w o newer = absurd (let no : true ≡ false = newer refl in cc)
newer_step true false w o newer = refl
newer_step false within w o newer = refl

over : (m n : ℕ) → m < n → nat_le n m ≡ false
over m n lt = false_from_ne_true (nat_le n m) (λ le. let less : n ≤ m = leb-true n m le in omega arith)

-- one of them changes
pub older_changes : {X : Type 0} (m n : ℕ) (w : Option X) (es now : List (ℕ × X)) → n ≤ m → ((k : ℕ) → at k now ≡ cond (n == k) w (at k es))
    → (k : ℕ) → at k (up_to m now) ≡ cond (n == k) w (at k (up_to m es))
older_changes m n w es now le changes k =
    at_up_to m k now ∙ ap (λ o. cond (nat_le k m) o None) (changes k)
    ∙ older_step (n == k) (nat_le k m) w (at k es) (λ here. ap (λ j. nat_le j m) (sym (eqb-true n k here)) ∙ le-leb n m le)
    ∙ ap (λ o. cond (n == k) w o) (sym (at_up_to m k es))

-- another one does
pub newer_changes : {X : Type 0} (m n : ℕ) (w : Option X) (es now : List (ℕ × X)) → m < n → ((k : ℕ) → at k now ≡ cond (n == k) w (at k es))
    → (k : ℕ) → at k (up_to m now) ≡ at k (up_to m es)
newer_changes m n w es now lt changes k =
    at_up_to m k now ∙ ap (λ o. cond (nat_le k m) o None) (changes k)
    ∙ newer_step (n == k) (nat_le k m) w (at k es) (λ here. ap (λ j. nat_le j m) (sym (eqb-true n k here)) ∙ over m n lt)
    ∙ sym (at_up_to m k es)

pub either : (b : Bool) → (b ≡ true) ⊎ (b ≡ false)
either true = inl refl
either false = inr refl

-- no call stands between two numbers
pub same_between : {X : Type 0} (m n : ℕ) (es : List (ℕ × X)) → m ≤ n → ((k : ℕ) → m < k → k ≤ n → at k es ≡ None) → (k : ℕ) → at k (up_to n es) ≡ at k (up_to m es)
same_between m n es le none k =
    at_up_to n k es
    ∙ elim (either (nat_le k m)) [
      | inl older ↦ ap (λ b. cond b (at k es) None) (le-leb k n (omega (arith, leb-true k m older)) ∙ sym older)
      | inr newer ↦ elim (either (nat_le k n)) [
        | inl within ↦ ap (λ b. cond b (at k es) None) within ∙ none k (omega (arith, leb-false k m newer)) (leb-true k n within) ∙ sym (ap (λ b. cond b (at k es) None) newer)
        | inr past ↦ ap (λ b. cond b (at k es) None) (past ∙ sym newer)
      ]
    ]
    ∙ sym (at_up_to m k es)

-- no call stands behind a number
pub up_to_least : {X : Type 0} (m n : ℕ) (es : List (ℕ × X)) → Below (suc n) es → (k : ℕ) → at k (up_to (min m n) es) ≡ at k (up_to m es)
up_to_least m n es under k =
    sym (same_between (min m n) m es (omega arith) (λ j over within. at_below j es (below_more (suc n) j es (omega (arith, over, within)) under)) k)

next_step : {X : Type 0} (here within before : Bool) (o : Option X) (call : X) → (here ≡ true → o ≡ Some call) → (here ≡ true → within ≡ true) → (here ≡ false → within ≡ before)
    → cond within o None ≡ cond here (Some call) (cond before o None)
next_step true true before o call is le same = is refl
next_step true false before o call is le same = absurd (let no : false ≡ true = le refl in cc)
next_step false within before o call is le same = ap (λ b. cond b o None) (same refl)

same_test : (x y : Bool) → (x ≡ true → y ≡ true) → (y ≡ true → x ≡ true) → x ≡ y
same_test true y first second = sym (first refl)
same_test false true first second = second refl
same_test false false first second = refl

-- the next one is there
pub next_comes : {X : Type 0} (m n : ℕ) (call : X) (es : List (ℕ × X)) → n ≡ m + 1 → at n es ≡ Some call → (k : ℕ) → at k (up_to n es) ≡ cond (n == k) (Some call) (at k (up_to m es))
next_comes m n call es next there k =
    at_up_to n k es
    ∙ next_step (n == k) (nat_le k n) (nat_le k m) (at k es) call
    (λ here. ap (λ j. at j es) (sym (eqb-true n k here)) ∙ there)
    (λ here. le-leb k n (let same : n ≡ k = eqb-true n k here in omega arith))
    (λ other. let ne : n ≡ k → ⊥ = eqb-false n k other in
    same_test (nat_le k n) (nat_le k m) (λ le. let less : k ≤ n = leb-true k n le in le-leb k m (omega arith)) (λ le. let less : k ≤ m = leb-true k m le in le-leb k n (omega arith)))
    ∙ ap (λ o. cond (n == k) (Some call) o) (sym (at_up_to m k es))

pub none_past : {X : Type 0} (m k : ℕ) (es : List (ℕ × X)) → m < k → at k (up_to m es) ≡ None
none_past m k es lt = at_up_to m k es ∙ ap (λ b. cond b (at k es) None) (over m k lt)

between : (a b : ℕ) → a ≤ b → b ≤ a → a ≡ b
between a b le ge = omega arith

none_some : {X : Type 0} (x : X) → None ≡ Some x → ⊥
none_some x is = cc

-- one that doesn't pass is passed over
pub passed_over : (is : ℕ → Bool) (after n k : ℕ) → ((k : ℕ) → after < k → k < n → is k ≡ false) → is n ≡ false → (n < k → is k ≡ false) → after < k → is k ≡ false
passed_over is after n k under fails above over =
    elim (either (nat_lt k n)) [
      | inl less ↦ under k over (ltb-true k n less)
      | inr more ↦ elim (either (nat_lt n k)) [
        | inl less ↦ above (ltb-true n k less)
        | inr same ↦ subst (λ j. is j ≡ false) (between n k (ltb-false k n more) (ltb-false n k same)) fails
      ]
    ]

-- ---- the first that passes a test: those up to a number are in an index, and the others are looked through

abbrev pub passing : {X : Type 0} → (X → Bool) → List (ℕ × X) → ℕ → Bool
passing p es k = passes p (at k es)

abbrev pub IsIndex : {X : Type 0} → (ℕ → Bool) → (X → Bool) → List (ℕ × X) → Type 0
IsIndex listed p es = (k : ℕ) → listed k ≡ passes p (at k es)

listed_is : {X : Type 0} (listed : ℕ → Bool) (p : X → Bool) (m : ℕ) (es : List (ℕ × X)) (k : ℕ) → IsIndex listed p (up_to m es) → k ≤ m → listed k ≡ passes p (at k es)
listed_is listed p m es k is le = is k ∙ ap (passes p) (at_up_to m k es ∙ ap (λ b. cond b (at k es) None) (le-leb k m le))

listed_within : {X : Type 0} (listed : ℕ → Bool) (p : X → Bool) (m : ℕ) (es : List (ℕ × X)) (k : ℕ) → IsIndex listed p (up_to m es) → listed k ≡ true → k ≤ m
listed_within listed p m es k is there =
    elim (either (nat_le k m)) [
      | inl older ↦ leb-true k m older
      | inr newer ↦ absurd (let no : true ≡ false = sym there ∙ is k ∙ ap (passes p) (none_past m k es (leb-false k m newer)) in cc)
    ]

none_listed : {X : Type 0} (listed : ℕ → Bool) (p : X → Bool) (m : ℕ) (es : List (ℕ × X)) (k : ℕ) → IsIndex listed p (up_to m es)
    → listed k ≡ false → (m < k → passes p (at k es) ≡ false) → passes p (at k es) ≡ false
none_listed listed p m es k is none newer =
    elim (either (nat_le k m)) [
      | inl older ↦ sym (listed_is listed p m es k is (leb-true k m older)) ∙ none
      | inr past ↦ newer (leb-false k m past)
    ]

pub first_listed : {X : Type 0} (listed : ℕ → Bool) (p : X → Bool) (m : ℕ) (es : List (ℕ × X)) (n : ℕ) → IsIndex listed p (up_to m es) → IsFirst listed (Some n) → IsFirst (passing p es) (Some n)
first_listed listed p m es n is first =
    let within = listed_within listed p m es n is first.0 in
    (sym (listed_is listed p m es n is within) ∙ first.0, λ k under. sym (listed_is listed p m es k is (omega (arith, within, under))) ∙ first.1 k under)

pub first_newer : {X : Type 0} (listed : ℕ → Bool) (p : X → Bool) (m : ℕ) (es : List (ℕ × X)) (r : Option ℕ) → IsIndex listed p (up_to m es)
    → ((k : ℕ) → listed k ≡ false) → IsNext (passing p es) m r → IsFirst (passing p es) r
first_newer listed p m es None is none next = λ k. none_listed listed p m es k is (none k) (next k)
first_newer listed p m es (Some n) is none next = (next.1, λ k under. none_listed listed p m es k is (none k) (λ past. next.2 k past under))

-- the same of the first behind a number

pub next_listed : {X : Type 0} (listed : ℕ → Bool) (p : X → Bool) (m after : ℕ) (es : List (ℕ × X)) (n : ℕ) → IsIndex listed p (up_to m es) → IsNext listed after (Some n) → IsNext (passing p es) after (Some n)
next_listed listed p m after es n is next =
    let within = listed_within listed p m es n is next.1 in (
      next.0,
      sym (listed_is listed p m es n is within) ∙ next.1,
      λ k over under. sym (listed_is listed p m es k is (omega (arith, within, under))) ∙ next.2 k over under,
    )

pub next_newer : {X : Type 0} (listed : ℕ → Bool) (p : X → Bool) (m after : ℕ) (es : List (ℕ × X)) (r : Option ℕ) → IsIndex listed p (up_to m es)
    → IsNext listed after None → IsNext (passing p es) (max m after) r → IsNext (passing p es) after r
next_newer listed p m after es None is none next = λ k over. none_listed listed p m es k is (none k over) (λ past. next k (omega (arith, over, past)))
next_newer listed p m after es (Some n) is none next =
    (omega (arith, next.0), next.1, λ k over under. none_listed listed p m es k is (none k over) (λ past. next.2 k (omega (arith, over, past)) under))

-- ---- the walk over the others

-- where the first entry above a number stands
abbrev pub IsGap : {X : Type 0} → List (ℕ × X) → ℕ → Option (ℕ × X) → Type 0
IsGap es after r =
    MatchOption r
    ((k : ℕ) → after < k → at k es ≡ None)
    (λ e. (after < e.0) × (at e.0 es ≡ Some e.1) × ((k : ℕ) → after < k → k < e.0 → at k es ≡ None))

gap_step : {X : Type 0} (b : Bool) (after : ℕ) (e : ℕ × X) (es : List (ℕ × X)) (o : Option (ℕ × X)) → nat_lt after e.0 ≡ b → Ascending (e ∷ es)
    → IsGap es after o → IsGap (e ∷ es) after (cond b (Some e) o)
gap_step true after e es o is order next = (
  ltb-true after e.0 is,
  ap (λ q. cond q (Some e.1) (at e.0 es)) (eq-eqb e.0 e.0 refl),
  λ k over under. ap (λ q. cond q (Some e.1) (at k es)) (apart k e.0 under) ∙ at_over k e.0 es (omega (arith, under)) order.0,
)
gap_step false after e es None is order next =
    λ k over. ap (λ q. cond q (Some e.1) (at k es)) (apart_after k e.0 (omega (arith, over, ltb-false after e.0 is))) ∙ next k over
gap_step false after e es (Some f) is order next = (
  next.0,
  ap (λ q. cond q (Some e.1) (at f.0 es)) (apart_after f.0 e.0 (omega (arith, next.0, ltb-false after e.0 is))) ∙ next.1,
  λ k over under. ap (λ q. cond q (Some e.1) (at k es)) (apart_after k e.0 (omega (arith, over, ltb-false after e.0 is))) ∙ next.2 k over under,
)

first_gap : {X : Type 0} (after : ℕ) (es : List (ℕ × X)) → Ascending es → IsGap es after (first_above after es)
first_gap after [] order = λ k over. refl
first_gap after (e ∷ es) order = gap_step (nat_lt after e.0) after e es (first_above after es) refl order (first_gap after es order.1)

pub gap : {X : Type 0} (after : ℕ) (es : List (ℕ × X)) (r : Option (ℕ × X)) → Ascending es → r ≡ first_above after es → IsGap es after r
gap after es r order is = subst (IsGap es after) (sym is) (first_gap after es order)

pub key_within : {X : Type 0} (n key : ℕ) (x : X) (es : List (ℕ × X)) → Below n es → at key es ≡ Some x → key < n
key_within n key x es under there =
    elim (either (nat_lt key n)) [
      | inl less ↦ ltb-true key n less
      | inr more ↦ absurd (none_some x (sym (at_below key es (below_more n key es (ltb-false key n more) under)) ∙ there))
    ]

-- those up to the first entry don't pass
pub more_passed : {X : Type 0} (p : X → Bool) (es : List (ℕ × X)) (from after : ℕ) (e : ℕ × X) → ((k : ℕ) → from < k → k ≤ after → passing p es k ≡ false) → IsGap es after (Some e)
    → (k : ℕ) → from < k → k < e.0 → passing p es k ≡ false
more_passed p es from after e passed next k over under =
    elim (either (nat_le k after)) [
      | inl within ↦ passed k over (leb-true k after within)
      | inr past ↦ ap (passes p) (next.2 k (leb-false k after past) under)
    ]

pub one_more_passed : {X : Type 0} (p : X → Bool) (es : List (ℕ × X)) (from after : ℕ) (e : ℕ × X) → ((k : ℕ) → from < k → k ≤ after → passing p es k ≡ false) → IsGap es after (Some e) → p e.1 ≡ false
    → (k : ℕ) → from < k → k ≤ e.0 → passing p es k ≡ false
one_more_passed p es from after e passed next fails k over under =
    elim (either (nat_lt k e.0)) [
      | inl less ↦ more_passed p es from after e passed next k over (ltb-true k e.0 less)
      | inr more ↦ ap (λ n. passing p es n) (between k e.0 under (ltb-false k e.0 more)) ∙ ap (passes p) next.1 ∙ fails
    ]

pub all_passed : {X : Type 0} (p : X → Bool) (es : List (ℕ × X)) (from after : ℕ) → ((k : ℕ) → from < k → k ≤ after → passing p es k ≡ false) → IsGap es after None
    → (k : ℕ) → from < k → passing p es k ≡ false
all_passed p es from after passed next k over =
    elim (either (nat_le k after)) [
      | inl within ↦ passed k over (leb-true k after within)
      | inr past ↦ ap (passes p) (next k (leb-false k after past))
    ]
