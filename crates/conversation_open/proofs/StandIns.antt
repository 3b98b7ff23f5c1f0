-- An entry that is put back, changed, in the place of its stand-in.
use Rattle.std.proofs.Common.{◌≡◌, ℕ, ◌==◌, Bool, true, false, cond, List, [], ◌∷◌, Some, None, Result, Ok, Err, OnOk, OnErr, refl, sym, ap, subst, ◌∙◌}
use Rattle.std.specs.Ordering.{nat_cmp}
use Rattle.std.specs.Map.{set_value}
use Rattle.std.specs.BTreeMap.{is_at}
use Rattle.number_windows.specs.Numbered.{at, changed_at, Ascending}
use Rattle.number_windows.proofs.Numbered.{changed, unchanged}

last_stays : {X : Type 0} (b : Bool) (w s x : X) → cond b w (cond b s x) ≡ cond b w x
last_stays true w s x = refl
last_stays false w s x = refl

twice : {X : Type 0} (n : ℕ) (w s : X) (es : List (ℕ × X)) → changed_at n (λ _. w) (changed_at n (λ _. s) es) ≡ changed_at n (λ _. w) es
twice n w s [] = refl
twice n w s (e ∷ es) =
    ap (λ v. (e.0, v) ∷ changed_at n (λ _. w) (changed_at n (λ _. s) es)) (last_stays (n == e.0) w s e.1)
    ∙ ap (λ t. (e.0, cond (n == e.0) w e.1) ∷ t) (twice n w s es)

pub put : {X : Type 0} (n : ℕ) (f : X → X) (v w : X) (es : List (ℕ × X)) → Ascending es → at n es ≡ Some v → w ≡ f v → changed_at n (λ _. w) es ≡ changed_at n f es
put n f v w es order there is =
    sym (changed n (λ _. w) v es order there) ∙ ap (λ x. set_value (is_at (nat_cmp n)) es x) is ∙ changed n f v es order there

pub put_back : {X : Type 0} (n : ℕ) (f : X → X) (v s w : X) (es : List (ℕ × X)) → Ascending es → at n es ≡ Some v → w ≡ f v
    → changed_at n (λ _. w) (changed_at n (λ _. s) es) ≡ changed_at n f es
put_back n f v s w es order there is =
    twice n w s es ∙ put n f v w es order there is

pub none_there : {X : Type 0} (n : ℕ) (f : X → X) (s : X) (es : List (ℕ × X)) → at n es ≡ None → changed_at n (λ _. s) es ≡ changed_at n f es
none_there n f s es none = sym (unchanged n (λ _. s) es none) ∙ unchanged n f es none

stays : {X : Type 0} (b : Bool) (e : ℕ × X) → (e.0, cond b e.1 e.1) ≡ e
stays true e = refl
stays false e = refl

same_all : {X : Type 0} (n : ℕ) (es : List (ℕ × X)) → changed_at n (λ x. x) es ≡ es
same_all n [] = refl
same_all n (e ∷ es) = ap (λ x. x ∷ changed_at n (λ x. x) es) (stays (n == e.0) e) ∙ ap (λ xs. e ∷ xs) (same_all n es)

-- one that is put back as it was
pub put_same : {X : Type 0} (n : ℕ) (v s w : X) (es : List (ℕ × X)) → Ascending es → at n es ≡ Some v → w ≡ v → changed_at n (λ _. w) (changed_at n (λ _. s) es) ≡ es
put_same n v s w es order there is = put_back n (λ x. x) v s w es order there is ∙ same_all n es

-- what holds of the entries before and behind, where one of them stands
pub either_entries : {X E : Type 0} {Y : Type 0} (r : Result X E) (P : List Y → Type 0) (was now then : List Y) → OnOk r (now ≡ then) → OnErr r (now ≡ was) → P then → P was → P now
either_entries (Ok x) P was now then ok err behind before = subst P (sym ok) behind
either_entries (Err e) P was now then ok err behind before = subst P (sym err) before
