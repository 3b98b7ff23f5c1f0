-- Lists of entries whose numbers ascend, as a map has them.
use Rattle.std.proofs.Common.{◌≡◌, ℕ, ◌<◌, ◌≤◌, ◌==◌, ◌&&◌, not, Bool, true, false, cond, List, [], ◌∷◌, ◌++◌, Option, Some, None, refl, sym, ap, subst, ◌∙◌, arith, nat_lt, nat_le, length, eq-eqb, suc}
use Rattle.std.proofs.lemmas.Bool.{eqb-true, eqb-false, leb-true, le-leb, false_from_ne_true, ne_eqb, ltb-true}
use Rattle.std.proofs.lemmas.Map.Keys.{sorted_head, sorted_tail}
use Rattle.std.specs.Cmp.{unsigned_ties, nat_cmp_is}
use Rattle.std.specs.Ordering.{nat_cmp, match_ordering}
use Rattle.std.specs.declared.cmp.Ordering.TheVariants.{Less, Equal, Greater}
use Rattle.std.specs.List.{AllByRecursion, find, filter, slice_get}
use Rattle.std.specs.List.Sorted.{IsStrictlySortedBy}
use Rattle.std.specs.Map.{lookup, remove_entry, set_value, keys_of}
use Rattle.std.specs.BTreeMap.{is_at, insert_entry}
use Rattle.std.specs.Option.{unwrap_or}
use Rattle.number_windows.specs.Numbered.{at, without, up_to, changed_at, Above, Below, Ascending}

-- ---- order

less_of : (x y : Bool) → cond x Less (cond y Equal Greater) ≡ Less → x ≡ true
less_of true y h = refl
less_of false true h = cc
less_of false false h = cc

pub below : (a b : ℕ) → nat_cmp a b ≡ Less → a < b
below a b h = ltb-true a b (less_of (nat_lt a b) (a == b) h)

pub apart : (n m : ℕ) → n < m → (n == m) ≡ false
apart n m lt = ne_eqb n m (λ same. omega arith)

pub apart_after : (n m : ℕ) → m < n → (n == m) ≡ false
apart_after n m lt = ne_eqb n m (λ same. omega arith)

above_from : {X : Type 0} (n : ℕ) (es : List (ℕ × X)) → AllByRecursion (λ y. nat_cmp n y ≡ Less) (keys_of es) → Above n es
above_from n [] h = tt
above_from n (e ∷ es) h = (below n e.0 h.0, above_from n es h.1)

pub ascending : {X : Type 0} (es : List (ℕ × X)) → IsStrictlySortedBy nat_cmp (keys_of es) → Ascending es
ascending [] h = tt
ascending (e ∷ es) h = (above_from e.0 es (sorted_head nat_cmp e.0 (keys_of es) h), ascending es (sorted_tail nat_cmp e.0 (keys_of es) h))

-- ---- what stands under a number

pub at-get : {X : Type 0} (n : ℕ) (es : List (ℕ × X)) → lookup (is_at (nat_cmp n)) es ≡ at n es
at-get n [] = refl
at-get n (e ∷ es) =
    ap (λ b. cond b (Some e.1) (lookup (is_at (nat_cmp n)) es)) (sym (unsigned_ties n e.0)) ∙ ap (λ o. cond (n == e.0) (Some e.1) o) (at-get n es)

later : {X : Type 0} (b : Bool) (y x : X) (o : Option X) (P : Type 0) → (b ≡ true → P) → (o ≡ Some x → P) → cond b (Some y) o ≡ Some x → P
later true y x o P here there is = here refl
later false y x o P here there is = there is

pub at_above : {X : Type 0} (m n : ℕ) (x : X) (es : List (ℕ × X)) → Above m es → at n es ≡ Some x → m < n
at_above m n x [] above is = absurd (cc)
at_above m n x (e ∷ es) above is =
    later (n == e.0) e.1 x (at n es) (m < n)
    (λ here. let same : n ≡ e.0 = eqb-true n e.0 here in let lt : m < e.0 = above.0 in omega arith)
    (λ there. at_above m n x es above.1 there) is

at_here : {X : Type 0} (e : ℕ × X) (es : List (ℕ × X)) → at e.0 (e ∷ es) ≡ Some e.1
at_here e es = ap (λ b. cond b (Some e.1) (at e.0 es)) (eq-eqb e.0 e.0 refl)

at_later : {X : Type 0} (e : ℕ × X) (es : List (ℕ × X)) (n : ℕ) (x : X) → Above e.0 es → at n es ≡ Some x → at n (e ∷ es) ≡ Some x
at_later e es n x above is = ap (λ b. cond b (Some e.1) (at n es)) (apart_after n e.0 (at_above e.0 n x es above is)) ∙ is

-- ---- an entry goes, or is changed, or comes

pub without_above : {X : Type 0} (n : ℕ) (es : List (ℕ × X)) → Above n es → without n es ≡ es
without_above n [] above = refl
without_above n (e ∷ es) above =
    ap (λ b. cond (not b) (e ∷ without n es) (without n es)) (apart n e.0 above.0) ∙ ap (λ t. e ∷ t) (without_above n es above.1)

pub without_below : {X : Type 0} (n : ℕ) (es : List (ℕ × X)) → Below n es → without n es ≡ es
without_below n [] under = refl
without_below n (e ∷ es) under =
    ap (λ b. cond (not b) (e ∷ without n es) (without n es)) (apart_after n e.0 under.0) ∙ ap (λ t. e ∷ t) (without_below n es under.1)

removed_step : {X : Type 0} (b : Bool) (e : ℕ × X) (es rest wanted : List (ℕ × X)) → (b ≡ true → es ≡ wanted) → rest ≡ wanted
    → cond b es (e ∷ rest) ≡ cond (not b) (e ∷ wanted) wanted
removed_step true e es rest wanted here there = here refl
removed_step false e es rest wanted here there = ap (λ t. e ∷ t) there

pub removed : {X : Type 0} (n : ℕ) (es : List (ℕ × X)) → Ascending es → remove_entry (is_at (nat_cmp n)) es ≡ without n es
removed n [] order = refl
removed n (e ∷ es) order =
    ap (λ b. cond b es (e ∷ remove_entry (is_at (nat_cmp n)) es)) (sym (unsigned_ties n e.0))
    ∙ removed_step (n == e.0) e es (remove_entry (is_at (nat_cmp n)) es) (without n es)
    (λ here. sym (without_above n es (subst (λ m. Above m es) (sym (eqb-true n e.0 here)) order.0)))
    (removed n es order.1)

pub changed_above : {X : Type 0} (n : ℕ) (f : X → X) (es : List (ℕ × X)) → Above n es → changed_at n f es ≡ es
changed_above n f [] above = refl
changed_above n f (e ∷ es) above =
    ap (λ b. (e.0, cond b (f e.1) e.1) ∷ changed_at n f es) (apart n e.0 above.0) ∙ ap (λ t. e ∷ t) (changed_above n f es above.1)

changed_step : {X : Type 0} (b : Bool) (f : X → X) (v : X) (e : ℕ × X) (o : Option X) (es rest wanted : List (ℕ × X)) → cond b (Some e.1) o ≡ Some v
    → (b ≡ true → es ≡ wanted) → (o ≡ Some v → rest ≡ wanted)
    → cond b ((e.0, f v) ∷ es) (e ∷ rest) ≡ (e.0, cond b (f e.1) e.1) ∷ wanted
changed_step true f v e o es rest wanted is here there =
    ap (λ x. (e.0, f x) ∷ es) (sym (ap (λ p. unwrap_or p v) is)) ∙ ap (λ t. (e.0, f e.1) ∷ t) (here refl)
changed_step false f v e o es rest wanted is here there = ap (λ t. e ∷ t) (there is)

pub changed : {X : Type 0} (n : ℕ) (f : X → X) (v : X) (es : List (ℕ × X)) → Ascending es → at n es ≡ Some v → set_value (is_at (nat_cmp n)) es (f v) ≡ changed_at n f es
changed n f v [] order is = refl
changed n f v (e ∷ es) order is =
    ap (λ b. cond b ((e.0, f v) ∷ es) (e ∷ set_value (is_at (nat_cmp n)) es (f v))) (sym (unsigned_ties n e.0))
    ∙ changed_step (n == e.0) f v e (at n es) es (set_value (is_at (nat_cmp n)) es (f v)) (changed_at n f es) is
    (λ here. sym (changed_above n f es (subst (λ m. Above m es) (sym (eqb-true n e.0 here)) order.0)))
    (λ there. changed n f v es order.1 there)

unchanged_step : {X : Type 0} (b : Bool) (f : X → X) (e : ℕ × X) (o : Option X) (rest wanted : List (ℕ × X)) → cond b (Some e.1) o ≡ None
    → (o ≡ None → rest ≡ wanted) → e ∷ rest ≡ (e.0, cond b (f e.1) e.1) ∷ wanted
unchanged_step true f e o rest wanted is there = absurd (cc)
unchanged_step false f e o rest wanted is there = ap (λ t. e ∷ t) (there is)

-- where nothing stands under the number, nothing changes
pub unchanged : {X : Type 0} (n : ℕ) (f : X → X) (es : List (ℕ × X)) → at n es ≡ None → es ≡ changed_at n f es
unchanged n f [] is = refl
unchanged n f (e ∷ es) is = unchanged_step (n == e.0) f e (at n es) es (changed_at n f es) is (λ there. unchanged n f es there)

pub pushed : {X : Type 0} (n : ℕ) (x : X) (es : List (ℕ × X)) → Below n es → insert_entry nat_cmp es n x ≡ es ++ (n, x) ∷ []
pushed n x [] under = refl
pushed n x (e ∷ es) under =
    ap (λ o. match_ordering o ((n, x) ∷ e ∷ es) ((e.0, x) ∷ es) (e ∷ insert_entry nat_cmp es n x)) (sym (nat_cmp_is n e.0 Greater under.0))
    ∙ ap (λ t. e ∷ t) (pushed n x es under.1)

-- ---- the first entry that passes

pub find_none : {X : Type 0} (p : ℕ × X → Bool) (es : List (ℕ × X)) → Ascending es → ((n : ℕ) (x : X) → at n es ≡ Some x → p (n, x) ≡ false) → find p es ≡ None
find_none p [] order fails = refl
find_none p (e ∷ es) order fails =
    ap (λ b. cond b (Some e) (find p es)) (fails e.0 e.1 (at_here e es)) ∙ find_none p es order.1 (λ n x is. fails n x (at_later e es n x order.0 is))

found_step : {X : Type 0} (b : Bool) (p : ℕ × X → Bool) (k : ℕ) (x : X) (e : ℕ × X) (es : List (ℕ × X)) (o : Option X) → cond b (Some e.1) o ≡ Some x
    → p (k, x) ≡ true → (b ≡ true → k ≡ e.0) → (o ≡ Some x → p e ≡ false) → (o ≡ Some x → find p es ≡ Some (k, x))
    → cond (p e) (Some e) (find p es) ≡ Some (k, x)
found_step true p k x e es o is passes here fails there =
    let key : k ≡ e.0 = here refl in
    let value : e.1 ≡ x = ap (λ q. unwrap_or q x) is in
    let same : e ≡ (k, x) = ap (λ m. (m, e.1)) (sym key) ∙ ap (λ v. (k, v)) value in
    ap (λ b. cond b (Some e) (find p es)) (ap p same ∙ passes) ∙ ap Some same
found_step false p k x e es o is passes here fails there = ap (λ b. cond b (Some e) (find p es)) (fails is) ∙ there is

pub find_first : {X : Type 0} (p : ℕ × X → Bool) (k : ℕ) (x : X) (es : List (ℕ × X)) → Ascending es → at k es ≡ Some x → p (k, x) ≡ true
    → ((n : ℕ) (y : X) → n < k → at n es ≡ Some y → p (n, y) ≡ false) → find p es ≡ Some (k, x)
find_first p k x [] order is passes fails = cc
find_first p k x (e ∷ es) order is passes fails =
    found_step (k == e.0) p k x e es (at k es) is passes (eqb-true k e.0)
    (λ there. fails e.0 e.1 (at_above e.0 k x es order.0 there) (at_here e es))
    (λ there. find_first p k x es order.1 there passes (λ n y lt it. fails n y lt (at_later e es n y order.0 it)))

kept_step : {X : Type 0} (b : Bool) (p : X → Bool) (e : X) (es : List X) (found : Option X) → find p es ≡ found → find p (cond b (e ∷ es) es) ≡ cond (b && p e) (Some e) found
kept_step true p e es found is = ap (λ o. cond (p e) (Some e) o) is
kept_step false p e es found is = is

-- the first that passes, among those that pass another test
pub find_among : {X : Type 0} (p q : X → Bool) (es : List X) → find p (filter q es) ≡ find (λ e. q e && p e) es
find_among p q [] = refl
find_among p q (e ∷ es) = kept_step (q e) p e (filter q es) (find (λ x. q x && p x) es) (find_among p q es)

-- ---- numbers that are all below or above one

pub keeps : {X : Type 0} (b : Bool) (P : List (ℕ × X) → Type 0) (e : ℕ × X) (es : List (ℕ × X)) → (P es → P (e ∷ es)) → P es → P (cond b (e ∷ es) es)
keeps true P e es more there = more there
keeps false P e es more there = there

pub below_filter : {X : Type 0} (m : ℕ) (p : ℕ × X → Bool) (es : List (ℕ × X)) → Below m es → Below m (filter p es)
below_filter m p [] under = tt
below_filter m p (e ∷ es) under = keeps (p e) (λ fs. Below m fs) e (filter p es) (λ there. (under.0, there)) (below_filter m p es under.1)

pub above_filter : {X : Type 0} (m : ℕ) (p : ℕ × X → Bool) (es : List (ℕ × X)) → Above m es → Above m (filter p es)
above_filter m p [] over = tt
above_filter m p (e ∷ es) over = keeps (p e) (λ fs. Above m fs) e (filter p es) (λ there. (over.0, there)) (above_filter m p es over.1)

pub below_changed : {X : Type 0} (m n : ℕ) (f : X → X) (es : List (ℕ × X)) → Below m es → Below m (changed_at n f es)
below_changed m n f [] under = tt
below_changed m n f (e ∷ es) under = (under.0, below_changed m n f es under.1)

pub above_changed : {X : Type 0} (m n : ℕ) (f : X → X) (es : List (ℕ × X)) → Above m es → Above m (changed_at n f es)
above_changed m n f [] over = tt
above_changed m n f (e ∷ es) over = (over.0, above_changed m n f es over.1)

pub below_more : {X : Type 0} (m k : ℕ) (es : List (ℕ × X)) → m ≤ k → Below m es → Below k es
below_more m k [] le under = tt
below_more m k (e ∷ es) le under = (let lt : e.0 < m = under.0 in omega arith, below_more m k es le under.1)

pub below_push : {X : Type 0} (m k n : ℕ) (x : X) (es : List (ℕ × X)) → m ≤ k → n < k → Below m es → Below k (es ++ (n, x) ∷ [])
below_push m k n x [] le lt under = (lt, tt)
below_push m k n x (e ∷ es) le lt under = (let below : e.0 < m = under.0 in omega arith, below_push m k n x es le lt under.1)

pub above_push : {X : Type 0} (m n : ℕ) (x : X) (es : List (ℕ × X)) → m < n → Above m es → Above m (es ++ (n, x) ∷ [])
above_push m n x [] lt over = (lt, tt)
above_push m n x (e ∷ es) lt over = (over.0, above_push m n x es lt over.1)

drop_last : {X : Type 0} (b : Bool) (m : ℕ) (e : ℕ × X) (es : List (ℕ × X)) → (b ≡ false → e.0 < m) → Below m es → Below m (cond (not b) (e ∷ es) es)
drop_last true m e es lt there = there
drop_last false m e es lt there = (lt refl, there)

-- the greatest number goes
pub below_without : {X : Type 0} (m : ℕ) (es : List (ℕ × X)) → Below (suc m) es → Below m (without m es)
below_without m [] under = tt
below_without m (e ∷ es) under =
    drop_last (m == e.0) m e (without m es)
    (λ other. let ne : m ≡ e.0 → ⊥ = eqb-false m e.0 other in let le : e.0 < suc m = under.0 in omega arith)
    (below_without m es under.1)

-- ---- the first above a number

and_true : (b : Bool) → (b && true) ≡ b
and_true true = refl
and_true false = refl

-- ---- a map's changes

pub at_below : {X : Type 0} (n : ℕ) (es : List (ℕ × X)) → Below n es → at n es ≡ None
at_below n [] under = refl
at_below n (e ∷ es) under = ap (λ b. cond b (Some e.1) (at n es)) (apart_after n e.0 under.0) ∙ at_below n es under.1

-- ---- parts of what is left

skip_step : {X : Type 0} (b : Bool) (p : X → Bool) (e : X) (fs es : List X) → (b ≡ false → p e ≡ false) → filter p fs ≡ filter p es → filter p (cond b (e ∷ fs) fs) ≡ filter p (e ∷ es)
skip_step true p e fs es fails is = ap (λ t. cond (p e) (e ∷ t) t) is
skip_step false p e fs es fails is = is ∙ sym (ap (λ b. cond b (e ∷ filter p es) (filter p es)) (fails refl))

pub filter_skip : {X : Type 0} (p q : X → Bool) (es : List X) → ((e : X) → q e ≡ false → p e ≡ false) → filter p (filter q es) ≡ filter p es
filter_skip p q [] fails = refl
filter_skip p q (e ∷ es) fails = skip_step (q e) p e (filter q es) es (fails e) (filter_skip p q es fails)

not_false : (b : Bool) → not b ≡ false → b ≡ true
not_false true is = refl
not_false false is = cc

over : (m n : ℕ) → m < n → nat_le n m ≡ false
over m n lt = false_from_ne_true (nat_le n m) (λ le. let less : n ≤ m = leb-true n m le in omega arith)

pub up_to_without : {X : Type 0} (m k : ℕ) (es : List (ℕ × X)) → m < k → up_to m (without k es) ≡ up_to m es
up_to_without {X} m k es lt =
    filter_skip (λ (e : ℕ × X). nat_le e.0 m) (λ e. not (k == e.0)) es
    (λ e gone. let same : k ≡ e.0 = eqb-true k e.0 (not_false (k == e.0) gone) in over m e.0 (omega arith))

pub up_to_all : {X : Type 0} (m : ℕ) (es : List (ℕ × X)) → Below (suc m) es → up_to m es ≡ es
up_to_all m [] under = refl
up_to_all m (e ∷ es) under =
    let le : e.0 < suc m = under.0 in
    ap (λ b. cond b (e ∷ up_to m es) (up_to m es)) (le-leb e.0 m (omega arith)) ∙ ap (λ t. e ∷ t) (up_to_all m es under.1)

pub up_to_above : {X : Type 0} (m : ℕ) (es : List (ℕ × X)) → Above m es → up_to m es ≡ []
up_to_above m [] above = refl
up_to_above m (e ∷ es) above = ap (λ b. cond b (e ∷ up_to m es) (up_to m es)) (over m e.0 above.0) ∙ up_to_above m es above.1

without_step : {X : Type 0} (b : Bool) (p : ℕ × X → Bool) (key : ℕ) (x : X) (e : ℕ × X) (o : Option X) (es fs : List (ℕ × X)) → cond b (Some e.1) o ≡ Some x → p (key, x) ≡ false
    → (b ≡ true → key ≡ e.0) → (b ≡ true → fs ≡ es) → (o ≡ Some x → filter p fs ≡ filter p es) → filter p (cond (not b) (e ∷ fs) fs) ≡ filter p (e ∷ es)
without_step true p key x e o es fs is fails here gone there =
    let same : e ≡ (key, x) = ap (λ m. (m, e.1)) (sym (here refl)) ∙ ap (λ v. (key, v)) (ap (λ q. unwrap_or q x) is) in
    ap (filter p) (gone refl) ∙ sym (ap (λ b. cond b (e ∷ filter p es) (filter p es)) (ap p same ∙ fails))
without_step false p key x e o es fs is fails here gone there = ap (λ t. cond (p e) (e ∷ t) t) (there is)

-- an entry that a filter leaves out goes
pub filter_without : {X : Type 0} (p : ℕ × X → Bool) (key : ℕ) (x : X) (es : List (ℕ × X)) → Ascending es → at key es ≡ Some x → p (key, x) ≡ false
    → filter p (without key es) ≡ filter p es
filter_without p key x [] order is fails = refl
filter_without p key x (e ∷ es) order is fails =
    without_step (key == e.0) p key x e (at key es) es (without key es) is fails (eqb-true key e.0)
    (λ here. without_above key es (subst (λ m. Above m es) (sym (eqb-true key e.0 here)) order.0))
    (λ there. filter_without p key x es order.1 there fails)

-- a filter that every entry passes
pub filter_all : {X : Type 0} (p : ℕ × X → Bool) (es : List (ℕ × X)) → Ascending es → ((n : ℕ) (x : X) → at n es ≡ Some x → p (n, x) ≡ true) → filter p es ≡ es
filter_all p [] order passes = refl
filter_all p (e ∷ es) order passes =
    ap (λ b. cond b (e ∷ filter p es) (filter p es)) (passes e.0 e.1 (at_here e es))
    ∙ ap (λ t. e ∷ t) (filter_all p es order.1 (λ n x is. passes n x (at_later e es n x order.0 is)))

fewer_step : {X : Type 0} (b : Bool) (e : X) (es fs : List X) → length fs ≤ length es → length (cond b (e ∷ fs) fs) ≤ suc (length es)
fewer_step true e es fs le = omega arith
fewer_step false e es fs le = omega arith

fewer : {X : Type 0} (p : X → Bool) (es : List X) → length (filter p es) ≤ length es
fewer p [] = omega arith
fewer p (e ∷ es) = fewer_step (p e) e es (filter p es) (fewer p es)

shorter_step : {X : Type 0} (b : Bool) (x : X) (e : ℕ × X) (o : Option X) (es fs : List (ℕ × X)) → cond b (Some e.1) o ≡ Some x → length fs ≤ length es → (o ≡ Some x → length fs < length es)
    → length (cond (not b) (e ∷ fs) fs) < suc (length es)
shorter_step true x e o es fs is le lt = omega arith
shorter_step false x e o es fs is le lt = let less : length fs < length es = lt is in omega arith

pub shorter : {X : Type 0} (key : ℕ) (x : X) (es : List (ℕ × X)) → at key es ≡ Some x → length (without key es) < length es
shorter key x [] is = absurd (cc)
shorter key x (e ∷ es) is =
    shorter_step (key == e.0) x e (at key es) es (without key es) is (fewer (λ e. not (key == e.0)) es) (λ there. shorter key x es there)

-- ---- the first entry goes

pub without_first : {X : Type 0} (n : ℕ) (x : X) (es : List (ℕ × X)) → Ascending es → slice_get es 0 ≡ Some (n, x) → es ≡ (n, x) ∷ without n es
without_first n x [] order is = cc
without_first n x (e ∷ es) order is =
    let here : (n, x) ≡ e = cc in
    subst (λ d. e ∷ es ≡ d ∷ without d.0 (e ∷ es)) (sym here)
    (ap (λ t. e ∷ t) (sym (ap (λ b. cond (not b) (e ∷ without e.0 es) (without e.0 es)) (eq-eqb e.0 e.0 refl) ∙ without_above e.0 es order.0)))
