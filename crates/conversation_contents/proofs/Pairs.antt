-- Pairs of a mark and a number, in their order.
use Rattle.std.proofs.Common.{◌≡◌, ℕ, ◌<◌, Bool, true, false, cond, ◌==◌, ◌&&◌, if◌then◌else◌, refl, ap, sym, subst, ◌∙◌, ◌⊎◌, inl, inr, arith, nat_lt, List, ◌∷◌}
use Rattle.std.specs.List.{slice_get}
use Rattle.std.specs.Option.{IfSome}
use Rattle.std.proofs.lemmas.Bool.{false_from_ne_true, eqb-false, eqb-true}
use Rattle.std.specs.Cmp.{unsigned_ties, nat_cmp_is}
use Rattle.std.specs.Ordering.{is_eq, is_gt, nat_cmp, ordering_then}
use Rattle.std.specs.declared.cmp.Ordering.{Ordering}
use Rattle.std.specs.declared.cmp.Ordering.TheVariants.{Less, Equal, Greater}
use Rattle.std.specs.BTreeSet as sorted
use Rattle.conversation_contents.specs.Numbers.{pair_cmp}
use Rattle.number_windows.proofs.Numbered.{below}

true_not_false : true ≡ false → ⊥
true_not_false is = cc

equal_of : (x y : Bool) → cond x Less (cond y Equal Greater) ≡ Equal → y ≡ true
equal_of true y is = cc
equal_of false true is = refl
equal_of false false is = cc

equal : (a b : ℕ) → nat_cmp a b ≡ Equal → a ≡ b
equal a b is = eqb-true a b (equal_of (nat_lt a b) (a == b) is)

then_eq : (o p : Ordering) → is_eq (ordering_then o p) ≡ (is_eq o && is_eq p)
then_eq Less p = refl
then_eq Equal p = refl
then_eq Greater p = refl

pair_tie : (a b c d : ℕ) → is_eq (pair_cmp (a, b) (c, d)) ≡ ((a == c) && (b == d))
pair_tie a b c d =
    then_eq (nat_cmp a c) (nat_cmp b d) ∙ ap (λ x. x && is_eq (nat_cmp b d)) (sym (unsigned_ties a c)) ∙ ap (λ y. (a == c) && y) (sym (unsigned_ties b d))

pub key_put : (old new : sorted.BTreeSet (ℕ × ℕ)) (mark key : ℕ) (answer : Bool) → sorted.Updates pair_cmp old new (mark, key) answer
    → (c k : ℕ) → sorted.contains pair_cmp new (c, k) ≡ (if (mark == c) && (key == k) then answer else sorted.contains pair_cmp old (c, k))
key_put old new mark key answer updates c k =
    updates.0 (c, k) ∙ ap (λ b. if b then answer else sorted.contains pair_cmp old (c, k)) (pair_tie mark key c k)

pub same_mark : (c a k : ℕ) → a < k → pair_cmp (c, a) (c, k) ≡ Less
same_mark c a k lt =
    ap (λ o. ordering_then o (nat_cmp a k)) (sym (nat_cmp_is c c Equal refl)) ∙ sym (nat_cmp_is a k Less lt)

then_less : (o p : Ordering) → ordering_then o p ≡ Less → (o ≡ Less) ⊎ ((o ≡ Equal) × (p ≡ Less))
then_less Less p is = inl refl
then_less Equal p is = inr (refl, is)
then_less Greater p is = cc

-- a pair above (c, a)
pub above_pair : (c a d k : ℕ) → pair_cmp (c, a) (d, k) ≡ Less → (c < d) ⊎ ((nat_cmp c d ≡ Equal) × (a < k))
above_pair c a d k is =
    elim (then_less (nat_cmp c d) (nat_cmp a k) is) [ inl less ↦ inl (below c d less) | inr both ↦ inr (both.0, below a k both.1) ]

greater_mark : (c d k j : ℕ) → c < d → is_gt (pair_cmp (d, k) (c, j)) ≡ true
greater_mark c d k j lt = ap (λ o. is_gt (ordering_then o (nat_cmp k j))) (sym (nat_cmp_is d c Greater lt))

greater_key : (c k j : ℕ) → j < k → is_gt (pair_cmp (c, k) (c, j)) ≡ true
greater_key c k j lt =
    ap (λ o. is_gt (ordering_then o (nat_cmp k j))) (sym (nat_cmp_is c c Equal refl)) ∙ ap is_gt (sym (nat_cmp_is k j Greater lt))

-- what is least above (c, a), where it has another mark
pub no_key : (has : ℕ × ℕ → Bool) (c a d k : ℕ) → ((d == c) ≡ false) → pair_cmp (c, a) (d, k) ≡ Less
    → ((q : ℕ × ℕ) → pair_cmp (c, a) q ≡ Less → has q ≡ true → is_gt (pair_cmp (d, k) q) ≡ false) → (j : ℕ) → a < j → has (c, j) ≡ false
no_key has c a d k other over least j lt =
    elim (above_pair c a d k over) [
      | inl less ↦ false_from_ne_true (has (c, j)) (λ there. true_not_false (sym (greater_mark c d k j less) ∙ least (c, j) (same_mark c a j lt) there))
      | inr both ↦ absurd (eqb-false d c other (sym (equal c d both.0)))
    ]

-- and where it has this one
pub least_key : (has : ℕ × ℕ → Bool) (c a k : ℕ) → ((q : ℕ × ℕ) → pair_cmp (c, a) q ≡ Less → has q ≡ true → is_gt (pair_cmp (c, k) q) ≡ false)
    → (j : ℕ) → a < j → j < k → has (c, j) ≡ false
least_key has c a k least j lt under =
    false_from_ne_true (has (c, j)) (λ there. true_not_false (sym (greater_key c k j under) ∙ least (c, j) (same_mark c a j lt) there))

pub above_key : (c a k : ℕ) → pair_cmp (c, a) (c, k) ≡ Less → a < k
above_key c a k over = elim (above_pair c a c k over) [ inl less ↦ omega arith | inr both ↦ both.1 ]

-- what holds of the first
pub head_of : {X : Type 0} (P : X → Type 0) (r t : List X) (x : X) → r ≡ x ∷ t → IfSome (slice_get r 0) P → P x
head_of P r t x is first = subst (λ l. IfSome (slice_get l 0) P) is first
