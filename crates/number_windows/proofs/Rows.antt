-- Entries by their index, and two lists of entries one after the other.
use Rattle.std.proofs.Common.{◌≡◌, ℕ, ◌<◌, ◌≤◌, ◌==◌, not, Bool, true, false, cond, List, [], ◌∷◌, ◌++◌, Option, Some, None, refl, sym, ap, subst, ◌∙◌, arith, length, eq-eqb, zero, suc, take, drop, get_or, set, append_assoc}
use Rattle.std.proofs.lemmas.Bool.{eqb-true}
use Rattle.std.proofs.lemmas.List.{map-append}
use Rattle.std.proofs.lemmas.List.Elements.{filter-append}
use Rattle.std.specs.Ordering.{nat_cmp}
use Rattle.std.specs.BTreeMap.{insert_entry}
use Rattle.std.specs.Option.{option_map}
use Rattle.number_windows.specs.Numbered.{at, without, changed_at, Above, Below, Ascending}
use Rattle.number_windows.proofs.Numbered.{apart, apart_after, at_above, without_above, changed_above, unchanged, pushed, keeps, above_filter, above_changed, above_push}

-- ---- an entry by its index

pub above_at : {X : Type 0} (m : ℕ) (es : List (ℕ × X)) (i : ℕ) (d : ℕ × X) → Above m es → i < length es → m < (get_or es i d).0
above_at m [] i d over lt = absurd (omega arith)
above_at m (e ∷ es) zero d over lt = over.0
above_at m (e ∷ es) (suc i) d over lt = above_at m es i d over.1 (omega arith)

above_index : {X : Type 0} (n : ℕ) (e : ℕ × X) (es : List (ℕ × X)) (i : ℕ) (d : ℕ × X) → Above e.0 es → i < length es → (get_or es i d).0 ≡ n → e.0 < n
above_index n e es i d over lt is = subst (λ m. e.0 < m) is (above_at e.0 es i d over lt)

pub at_index : {X : Type 0} (n : ℕ) (es : List (ℕ × X)) (i : ℕ) (d : ℕ × X) → Ascending es → i < length es → (get_or es i d).0 ≡ n → at n es ≡ Some (get_or es i d).1
at_index n [] i d order lt is = absurd (omega arith)
at_index n (e ∷ es) zero d order lt is = ap (λ b. cond b (Some e.1) (at n es)) (eq-eqb n e.0 (sym is))
at_index n (e ∷ es) (suc i) d order lt is =
    let under : i < length es = omega arith in
    ap (λ b. cond b (Some e.1) (at n es)) (apart_after n e.0 (above_index n e es i d order.0 under is)) ∙ at_index n es i d order.1 under is

pub without_index : {X : Type 0} (n : ℕ) (es : List (ℕ × X)) (i : ℕ) (d : ℕ × X) → Ascending es → i < length es → (get_or es i d).0 ≡ n → take i es ++ drop (suc i) es ≡ without n es
without_index n [] i d order lt is = absurd (omega arith)
without_index n (e ∷ es) zero d order lt is =
    sym (ap (λ b. cond (not b) (e ∷ without n es) (without n es)) (eq-eqb n e.0 (sym is)) ∙ without_above n es (subst (λ m. Above m es) is order.0))
without_index n (e ∷ es) (suc i) d order lt is =
    let under : i < length es = omega arith in
    ap (λ t. e ∷ t) (without_index n es i d order.1 under is)
    ∙ sym (ap (λ b. cond (not b) (e ∷ without n es) (without n es)) (apart_after n e.0 (above_index n e es i d order.0 under is)))

pub changed_index : {X : Type 0} (n : ℕ) (f : X → X) (es : List (ℕ × X)) (i : ℕ) (d : ℕ × X) → Ascending es → i < length es → (get_or es i d).0 ≡ n
    → set es i ((get_or es i d).0, f (get_or es i d).1) ≡ changed_at n f es
changed_index n f [] i d order lt is = absurd (omega arith)
changed_index n f (e ∷ es) zero d order lt is =
    ap (λ t. (e.0, f e.1) ∷ t) (sym (changed_above n f es (subst (λ m. Above m es) is order.0)))
    ∙ sym (ap (λ b. (e.0, cond b (f e.1) e.1) ∷ changed_at n f es) (eq-eqb n e.0 (sym is)))
changed_index n f (e ∷ es) (suc i) d order lt is =
    let under : i < length es = omega arith in
    ap (λ t. e ∷ t) (changed_index n f es i d order.1 under is)
    ∙ sym (ap (λ b. (e.0, cond b (f e.1) e.1) ∷ changed_at n f es) (apart_after n e.0 (above_index n e es i d order.0 under is)))

-- where the entry of i is left out, that of i + 1 stands at i; once that of i takes its place, that of i + 1 is left out

pub next_up : {X : Type 0} (i : ℕ) (es : List X) (d : X) → suc i < length es → get_or (take i es ++ drop (suc i) es) i d ≡ get_or es (suc i) d
next_up i [] d lt = absurd (omega arith)
next_up zero (e ∷ es) d lt = refl
next_up (suc i) (e ∷ es) d lt = next_up i es d (omega arith)

pub moved_up : {X : Type 0} (i : ℕ) (es : List X) (d : X) → suc i < length es → set (take i es ++ drop (suc i) es) i (get_or es i d) ≡ take (suc i) es ++ drop (suc (suc i)) es
moved_up i [] d lt = absurd (omega arith)
moved_up zero (e ∷ []) d lt = absurd (omega arith)
moved_up zero (e ∷ f ∷ es) d lt = refl
moved_up (suc i) (e ∷ es) d lt = ap (λ t. e ∷ t) (moved_up i es d (omega arith))

-- ---- a number that is missing

pub at_over : {X : Type 0} (n m : ℕ) (es : List (ℕ × X)) → n ≤ m → Above m es → at n es ≡ None
at_over n m [] le over = refl
at_over n m (e ∷ es) le over =
    let lt : m < e.0 = over.0 in
    ap (λ b. cond b (Some e.1) (at n es)) (apart n e.0 (omega arith)) ∙ at_over n m es le over.1

-- those before the index are below the number, and the one at the index is above it
pub at_missing : {X : Type 0} (n r : ℕ) (es : List (ℕ × X)) → Ascending es → Below n (take r es) → ((d : ℕ × X) → r < length es → n < (get_or es r d).0) → at n es ≡ None
at_missing n r [] order under over = refl
at_missing n zero (e ∷ es) order under over =
    let lt : n < e.0 = over e (omega arith) in
    ap (λ b. cond b (Some e.1) (at n es)) (apart n e.0 lt) ∙ at_over n e.0 es (omega arith) order.0
at_missing n (suc r) (e ∷ es) order under over =
    ap (λ b. cond b (Some e.1) (at n es)) (apart_after n e.0 under.0) ∙ at_missing n r es order.1 under.1 (λ d lt. over d (omega arith))

pub below_one_more : {X : Type 0} (n i : ℕ) (es : List (ℕ × X)) (d : ℕ × X) → i < length es → Below n (take i es) → (get_or es i d).0 < n → Below n (take (suc i) es)
below_one_more n i [] d lt under here = tt
below_one_more n zero (e ∷ es) d lt under here = (here, tt)
below_one_more n (suc i) (e ∷ es) d lt under here = (under.0, below_one_more n i es d (omega arith) under.1 here)

gone_step : {X : Type 0} (b : Bool) (e : ℕ × X) (x : X) (o : Option X) (es fs : List (ℕ × X)) → cond b (Some x) o ≡ None → (o ≡ None → fs ≡ es) → cond (not b) (e ∷ fs) fs ≡ e ∷ es
gone_step true e x o es fs none is = absurd (cc)
gone_step false e x o es fs none is = ap (λ t. e ∷ t) (is none)

pub without_missing : {X : Type 0} (n : ℕ) (es : List (ℕ × X)) → at n es ≡ None → without n es ≡ es
without_missing n [] none = refl
without_missing n (e ∷ es) none = gone_step (n == e.0) e e.1 (at n es) es (without n es) none (λ there. without_missing n es there)

-- ---- order

pub above_front : {X : Type 0} (m : ℕ) (a b : List (ℕ × X)) → Above m (a ++ b) → Above m a
above_front m [] b over = tt
above_front m (e ∷ a) b over = (over.0, above_front m a b over.1)

pub above_behind : {X : Type 0} (m : ℕ) (a b : List (ℕ × X)) → Above m (a ++ b) → Above m b
above_behind m [] b over = over
above_behind m (e ∷ a) b over = above_behind m a b over.1

pub ascending_front : {X : Type 0} (a b : List (ℕ × X)) → Ascending (a ++ b) → Ascending a
ascending_front [] b order = tt
ascending_front (e ∷ a) b order = (above_front e.0 a b order.0, ascending_front a b order.1)

pub ascending_behind : {X : Type 0} (a b : List (ℕ × X)) → Ascending (a ++ b) → Ascending b
ascending_behind [] b order = order
ascending_behind (e ∷ a) b order = ascending_behind a b order.1

-- the first list is below each entry of the second
pub below_seam : {X : Type 0} (a b : List (ℕ × X)) (i : ℕ) (d : ℕ × X) → Ascending (a ++ b) → i < length b → Below (get_or b i d).0 a
below_seam [] b i d order lt = tt
below_seam (e ∷ a) b i d order lt = (above_at e.0 b i d (above_behind e.0 a b order.0) lt, below_seam a b i d order.1 lt)

pub ascending_without : {X : Type 0} (n : ℕ) (es : List (ℕ × X)) → Ascending es → Ascending (without n es)
ascending_without n [] order = tt
ascending_without n (e ∷ es) order =
    keeps (not (n == e.0)) (λ fs. Ascending fs) e (without n es) (λ there. (above_filter e.0 (λ x. not (n == x.0)) es order.0, there)) (ascending_without n es order.1)

pub ascending_changed : {X : Type 0} (n : ℕ) (f : X → X) (es : List (ℕ × X)) → Ascending es → Ascending (changed_at n f es)
ascending_changed n f [] order = tt
ascending_changed n f (e ∷ es) order = (above_changed e.0 n f es order.0, ascending_changed n f es order.1)

pub ascending_push : {X : Type 0} (n : ℕ) (x : X) (es : List (ℕ × X)) → Ascending es → Below n es → Ascending (es ++ (n, x) ∷ [])
ascending_push n x [] order under = (tt, tt)
ascending_push n x (e ∷ es) order under = (above_push e.0 n x es under.0 order.0, ascending_push n x es order.1 under.1)

-- ---- two lists, one after the other

behind_step : {X : Type 0} (b : Bool) (x : X) (o p q : Option X) → cond b (Some x) o ≡ None → (o ≡ None → p ≡ q) → cond b (Some x) p ≡ q
behind_step true x o p q none is = absurd (cc)
behind_step false x o p q none is = is none

pub at_behind : {X : Type 0} (n : ℕ) (a b : List (ℕ × X)) → at n a ≡ None → at n (a ++ b) ≡ at n b
at_behind n [] b none = refl
at_behind n (e ∷ a) b none = behind_step (n == e.0) e.1 (at n a) (at n (a ++ b)) (at n b) none (λ there. at_behind n a b there)

pub at_front : {X : Type 0} (n : ℕ) (a b : List (ℕ × X)) → at n b ≡ None → at n (a ++ b) ≡ at n a
at_front n [] b none = none
at_front n (e ∷ a) b none = ap (λ o. cond (n == e.0) (Some e.1) o) (at_front n a b none)

-- the first of the second list moves to the end of the first one
pub moved : {X : Type 0} (n : ℕ) (x : X) (a b : List (ℕ × X)) → Ascending (a ++ (n, x) ∷ b) → insert_entry nat_cmp a n x ++ b ≡ a ++ (n, x) ∷ b
moved n x a b order =
    ap (λ s. s ++ b) (pushed n x a (below_seam a ((n, x) ∷ b) 0 (n, x) order (omega arith))) ∙ append_assoc a ((n, x) ∷ []) b

-- ---- what stands under a number after a change

none_step : {X : Type 0} (g : Bool) (o : Option X) → o ≡ None → o ≡ cond g None o
none_step true o is = is
none_step false o is = refl

at_kept : {X : Type 0} (b : Bool) (k : ℕ) (e : ℕ × X) (es : List (ℕ × X)) → at k (cond (not b) (e ∷ es) es) ≡ cond b (at k es) (cond (k == e.0) (Some e.1) (at k es))
at_kept true k e es = refl
at_kept false k e es = refl

without_step : {X : Type 0} (b h g : Bool) (x : X) (was now : Option X) → now ≡ cond g None was → (b ≡ true → h ≡ true → g ≡ true) → (b ≡ false → h ≡ true → g ≡ false)
    → cond b now (cond h (Some x) now) ≡ cond g None (cond h (Some x) was)
without_step true true true x was now is same other = is
without_step true true false x was now is same other = absurd (let no : false ≡ true = same refl refl in cc)
without_step true false g x was now is same other = is
without_step false true true x was now is same other = absurd (let no : true ≡ false = other refl refl in cc)
without_step false true false x was now is same other = refl
without_step false false g x was now is same other = is

pub at_without : {X : Type 0} (n k : ℕ) (es : List (ℕ × X)) → at k (without n es) ≡ cond (n == k) None (at k es)
at_without n k [] = none_step (n == k) None refl
at_without n k (e ∷ es) =
    at_kept (n == e.0) k e (without n es)
    ∙ without_step (n == e.0) (k == e.0) (n == k) e.1 (at k es) (at k (without n es)) (at_without n k es)
    (λ here there. eq-eqb n k (eqb-true n e.0 here ∙ sym (eqb-true k e.0 there)))
    (λ apart there. ap (λ m. n == m) (eqb-true k e.0 there) ∙ apart)

changed_step : {X : Type 0} (h b g : Bool) (f : X → X) (x : X) (was now : Option X) → (h ≡ true → b ≡ g) → now ≡ cond g (option_map f was) was
    → cond h (Some (cond b (f x) x)) now ≡ cond g (option_map f (cond h (Some x) was)) (cond h (Some x) was)
changed_step true true true f x was now same is = refl
changed_step true true false f x was now same is = absurd (let no : true ≡ false = same refl in cc)
changed_step true false true f x was now same is = absurd (let no : false ≡ true = same refl in cc)
changed_step true false false f x was now same is = refl
changed_step false b g f x was now same is = is

at_mapped : {X : Type 0} (n k : ℕ) (f : X → X) (es : List (ℕ × X)) → at k (changed_at n f es) ≡ cond (n == k) (option_map f (at k es)) (at k es)
at_mapped n k f [] = none_step (n == k) None refl
at_mapped n k f (e ∷ es) =
    changed_step (k == e.0) (n == e.0) (n == k) f e.1 (at k es) (at k (changed_at n f es))
    (λ there. ap (λ m. n == m) (sym (eqb-true k e.0 there))) (at_mapped n k f es)

here_step : {X : Type 0} (g : Bool) (o p q : Option X) → (g ≡ true → o ≡ p) → cond g o q ≡ cond g p q
here_step true o p q is = is refl
here_step false o p q is = refl

pub at_changed : {X : Type 0} (n k : ℕ) (f : X → X) (v : X) (es : List (ℕ × X)) → at n es ≡ Some v → at k (changed_at n f es) ≡ cond (n == k) (Some (f v)) (at k es)
at_changed n k f v es there =
    at_mapped n k f es
    ∙ here_step (n == k) (option_map f (at k es)) (Some (f v)) (at k es)
    (λ here. ap (λ m. option_map f (at m es)) (sym (eqb-true n k here)) ∙ ap (option_map f) there)

same_test : (x y : Bool) → (x ≡ true → y ≡ true) → (y ≡ true → x ≡ true) → x ≡ y
same_test true y first second = sym (first refl)
same_test false true first second = second refl
same_test false false first second = refl

swapped : (a b : ℕ) → (a == b) ≡ (b == a)
swapped a b = same_test (a == b) (b == a) (λ h. eq-eqb b a (sym (eqb-true a b h))) (λ h. eq-eqb a b (sym (eqb-true b a h)))

push_step : {X : Type 0} (h b g : Bool) (x y : X) (here was now : Option X) → (h ≡ true → b ≡ g) → cond b (Some y) here ≡ None → (here ≡ None → now ≡ cond g (Some x) was)
    → cond h (Some y) now ≡ cond g (Some x) (cond h (Some y) was)
push_step h true g x y here was now same none is = absurd (cc)
push_step true false true x y here was now same none is = absurd (let no : false ≡ true = same refl in cc)
push_step true false false x y here was now same none is = refl
push_step false false g x y here was now same none is = is none

pub at_push : {X : Type 0} (n k : ℕ) (x : X) (es : List (ℕ × X)) → at n es ≡ None → at k (es ++ (n, x) ∷ []) ≡ cond (n == k) (Some x) (at k es)
at_push n k x [] none = ap (λ b. cond b (Some x) None) (swapped k n)
at_push n k x (e ∷ es) none =
    push_step (k == e.0) (n == e.0) (n == k) x e.1 (at n es) (at k es) (at k (es ++ (n, x) ∷ []))
    (λ there. ap (λ m. n == m) (sym (eqb-true k e.0 there))) none (λ rest. at_push n k x es rest)

-- the same of a list that is seen after the change
pub at_gone : {X : Type 0} (n : ℕ) (es now : List (ℕ × X)) → now ≡ without n es → (k : ℕ) → at k now ≡ cond (n == k) None (at k es)
at_gone n es now is k = ap (at k) is ∙ at_without n k es

pub at_replaced : {X : Type 0} (n : ℕ) (f : X → X) (v : X) (es now : List (ℕ × X)) → now ≡ changed_at n f es → at n es ≡ Some v
    → (k : ℕ) → at k now ≡ cond (n == k) (Some (f v)) (at k es)
at_replaced n f v es now is there k = ap (at k) is ∙ at_changed n k f v es there

pub at_come : {X : Type 0} (n : ℕ) (x : X) (es now : List (ℕ × X)) → now ≡ es ++ (n, x) ∷ [] → at n es ≡ None
    → (k : ℕ) → at k now ≡ cond (n == k) (Some x) (at k es)
at_come n x es now is none k = ap (at k) is ∙ at_push n k x es none

-- ---- two lists, and what stands in the second

pub none_front : {X : Type 0} (n : ℕ) (v : X) (a b : List (ℕ × X)) → Ascending (a ++ b) → at n b ≡ Some v → at n a ≡ None
none_front n v [] b order there = refl
none_front n v (e ∷ a) b order there =
    ap (λ q. cond q (Some e.1) (at n a)) (apart_after n e.0 (at_above e.0 n v b (above_behind e.0 a b order.0) there)) ∙ none_front n v a b order.1 there

pub got_behind : {X : Type 0} (n : ℕ) (v : X) (a b : List (ℕ × X)) → Ascending (a ++ b) → at n b ≡ Some v → at n (a ++ b) ≡ Some v
got_behind n v a b order there = at_behind n a b (none_front n v a b order there) ∙ there

pub without_behind : {X : Type 0} (n : ℕ) (v : X) (a b : List (ℕ × X)) → Ascending (a ++ b) → at n b ≡ Some v → a ++ without n b ≡ without n (a ++ b)
without_behind {X} n v a b order there =
    ap (λ s. s ++ without n b) (sym (without_missing n a (none_front n v a b order there))) ∙ sym (filter-append (λ (e : ℕ × X). not (n == e.0)) a b)

pub without_front : {X : Type 0} (n : ℕ) (a b : List (ℕ × X)) → at n b ≡ None → without n a ++ b ≡ without n (a ++ b)
without_front {X} n a b none =
    ap (λ s. without n a ++ s) (sym (without_missing n b none)) ∙ sym (filter-append (λ (e : ℕ × X). not (n == e.0)) a b)

pub changed_behind : {X : Type 0} (n : ℕ) (f : X → X) (v : X) (a b : List (ℕ × X)) → Ascending (a ++ b) → at n b ≡ Some v → a ++ changed_at n f b ≡ changed_at n f (a ++ b)
changed_behind {X} n f v a b order there =
    ap (λ s. s ++ changed_at n f b) (unchanged n f a (none_front n v a b order there)) ∙ sym (map-append (λ (e : ℕ × X). (e.0, cond (n == e.0) (f e.1) e.1)) a b)

pub changed_front : {X : Type 0} (n : ℕ) (f : X → X) (a b : List (ℕ × X)) → at n b ≡ None → changed_at n f a ++ b ≡ changed_at n f (a ++ b)
changed_front {X} n f a b none =
    ap (λ s. changed_at n f a ++ s) (unchanged n f b none) ∙ sym (map-append (λ (e : ℕ × X). (e.0, cond (n == e.0) (f e.1) e.1)) a b)

pub below_front : {X : Type 0} (n : ℕ) (a b : List (ℕ × X)) → Below n (a ++ b) → Below n a
below_front n [] b under = tt
below_front n (e ∷ a) b under = (under.0, below_front n a b under.1)

pub length_changed : {X : Type 0} (n : ℕ) (f : X → X) (es : List (ℕ × X)) → length (changed_at n f es) ≡ length es
length_changed n f [] = refl
length_changed n f (e ∷ es) = ap suc (length_changed n f es)

pub length_push : {X : Type 0} (e : X) (es : List X) → length (es ++ e ∷ []) ≡ suc (length es)
length_push e [] = refl
length_push e (x ∷ es) = ap suc (length_push e es)

fewer_step : {X : Type 0} (b : Bool) (e : ℕ × X) (v : X) (o : Option X) (es fs : List (ℕ × X)) → cond b (Some e.1) o ≡ Some v → (b ≡ true → fs ≡ es) → (o ≡ Some v → suc (length fs) ≡ length es)
    → suc (length (cond (not b) (e ∷ fs) fs)) ≡ suc (length es)
fewer_step true e v o es fs there all rest = ap (λ s. suc (length s)) (all refl)
fewer_step false e v o es fs there all rest = ap suc (rest there)

-- one entry goes
pub length_without : {X : Type 0} (n : ℕ) (v : X) (es : List (ℕ × X)) → Ascending es → at n es ≡ Some v → suc (length (without n es)) ≡ length es
length_without n v [] order there = absurd (cc)
length_without n v (e ∷ es) order there =
    fewer_step (n == e.0) e v (at n es) es (without n es) there
    (λ here. without_above n es (subst (λ m. Above m es) (sym (eqb-true n e.0 here)) order.0))
    (λ rest. length_without n v es order.1 rest)
