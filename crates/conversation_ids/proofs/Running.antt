-- Runs as the entries of a map from last to first numbers.
use Rattle.std.proofs.Common.{◌≡◌, ℕ, ◌+◌, ◌-◌, ◌<◌, ◌≤◌, ◌==◌, ◌&&◌, ◌||◌, nat_le, List, [], ◌∷◌, Bool, true, false, Option, Some, None, cond, refl, sym, ap, ◌∙◌, arith, ⊎_elim, if◌then◌else◌, unwrap_or, subst}
use Rattle.std.proofs.lemmas.Bool.{cases_lt, cases_order, lt-ltb, le-ltb, le-leb, lt-leb, eq-eqb, ne_eqb, eqb-false, and_right, true≢false}
use Rattle.std.specs.BTreeMap.{insert_entry, is_at}
use Rattle.std.specs.BTreeMap.Range.{range_contains}
use Rattle.std.specs.Map.{lookup, remove_entry}
use Rattle.std.specs.Ordering.{nat_cmp, is_eq, is_le, match_ordering}
use Rattle.std.specs.declared.cmp.Ordering.TheVariants.{Less, Equal, Greater}
use Rattle.std.specs.declared.ops.Bound.TheVariants.{Included, Unbounded}
use Rattle.conversation_rules.specs.Runs.{AreRuns, is_in, has_number, joined, with_number}
use Rattle.conversation_ids.specs.Next.{runs_from, next_among, next_run, cut, put}

-- ---- numbers in their order

less : (x y : ℕ) → x < y → nat_cmp x y ≡ Less
less x y h = ap (λ b. cond b Less (cond (x == y) Equal Greater)) (lt-ltb x y h)

equal : (x y : ℕ) → x ≡ y → nat_cmp x y ≡ Equal
equal x y h = ap (λ b. cond b Less (cond (x == y) Equal Greater)) (le-ltb x y (let f : y ≤ x = omega (arith, h) in f)) ∙ ap (λ b. cond b Equal Greater) (eq-eqb x y h)

greater : (x y : ℕ) → y < x → nat_cmp x y ≡ Greater
greater x y h = ap (λ b. cond b Less (cond (x == y) Equal Greater)) (le-ltb x y (let f : y ≤ x = omega (arith, h) in f)) ∙ ap (λ b. cond b Equal Greater) (ne_eqb x y (λ e. let f : x ≡ y = e in absurd (omega (arith, h, f))))

-- ---- the entries of the map, one by one

put-before : (k v : ℕ) (e : ℕ × ℕ) (es : List (ℕ × ℕ)) → k < e.0 → insert_entry nat_cmp (e ∷ es) k v ≡ (k, v) ∷ (e ∷ es)
put-before k v e es h = ap (λ o. match_ordering o ((k, v) ∷ (e ∷ es)) ((e.0, v) ∷ es) (e ∷ insert_entry nat_cmp es k v)) (less k e.0 h)

put-here : (k v : ℕ) (e : ℕ × ℕ) (es : List (ℕ × ℕ)) → k ≡ e.0 → insert_entry nat_cmp (e ∷ es) k v ≡ (e.0, v) ∷ es
put-here k v e es h = ap (λ o. match_ordering o ((k, v) ∷ (e ∷ es)) ((e.0, v) ∷ es) (e ∷ insert_entry nat_cmp es k v)) (equal k e.0 h)

put-behind : (k v : ℕ) (e : ℕ × ℕ) (es : List (ℕ × ℕ)) → e.0 < k → insert_entry nat_cmp (e ∷ es) k v ≡ e ∷ insert_entry nat_cmp es k v
put-behind k v e es h = ap (λ o. match_ordering o ((k, v) ∷ (e ∷ es)) ((e.0, v) ∷ es) (e ∷ insert_entry nat_cmp es k v)) (greater k e.0 h)

at-here : (k : ℕ) (e : ℕ × ℕ) → k ≡ e.0 → is_at (nat_cmp k) e.0 ≡ true
at-here k e h = ap is_eq (equal k e.0 h)

at-other : (k : ℕ) (e : ℕ × ℕ) → (k ≡ e.0 → ⊥) → is_at (nat_cmp k) e.0 ≡ false
at-other k e h = ⊎_elim (λ same. absurd (h same)) (λ apart. ⊎_elim (λ l. ap is_eq (less k e.0 l)) (λ g. ap is_eq (greater k e.0 g)) apart) (cases_order k e.0)

look-here : (k : ℕ) (e : ℕ × ℕ) (es : List (ℕ × ℕ)) → k ≡ e.0 → lookup (is_at (nat_cmp k)) (e ∷ es) ≡ Some e.1
look-here k e es h = ap (λ b. cond b (Some e.1) (lookup (is_at (nat_cmp k)) es)) (at-here k e h)

look-other : (k : ℕ) (e : ℕ × ℕ) (es : List (ℕ × ℕ)) → (k ≡ e.0 → ⊥) → lookup (is_at (nat_cmp k)) (e ∷ es) ≡ lookup (is_at (nat_cmp k)) es
look-other k e es h = ap (λ b. cond b (Some e.1) (lookup (is_at (nat_cmp k)) es)) (at-other k e h)

cut-here : (k : ℕ) (e : ℕ × ℕ) (es : List (ℕ × ℕ)) → k ≡ e.0 → remove_entry (is_at (nat_cmp k)) (e ∷ es) ≡ es
cut-here k e es h = ap (λ b. cond b es (e ∷ remove_entry (is_at (nat_cmp k)) es)) (at-here k e h)

cut-other : (k : ℕ) (e : ℕ × ℕ) (es : List (ℕ × ℕ)) → (k ≡ e.0 → ⊥) → remove_entry (is_at (nat_cmp k)) (e ∷ es) ≡ e ∷ remove_entry (is_at (nat_cmp k)) es
cut-other k e es h = ap (λ b. cond b es (e ∷ remove_entry (is_at (nat_cmp k)) es)) (at-other k e h)

reaches : (n q : ℕ) → n ≤ q → range_contains nat_cmp (Included n) Unbounded q ≡ true
reaches n q h = ⊎_elim (λ l. ap (λ o. is_le o && true) (less n q l)) (λ g. ap (λ o. is_le o && true) (equal n q (let f : n ≡ q = omega (arith, h, g) in f))) (cases_lt n q)

falls-short : (n q : ℕ) → q < n → range_contains nat_cmp (Included n) Unbounded q ≡ false
falls-short n q h = ap (λ o. is_le o && true) (greater n q h)

from-here : (n : ℕ) (e : ℕ × ℕ) (es : List (ℕ × ℕ)) → n ≤ e.0 → runs_from n (e ∷ es) ≡ e ∷ runs_from n es
from-here n e es h = ap (λ b. cond b (e ∷ runs_from n es) (runs_from n es)) (reaches n e.0 h)

from-later : (n : ℕ) (e : ℕ × ℕ) (es : List (ℕ × ℕ)) → e.0 < n → runs_from n (e ∷ es) ≡ runs_from n es
from-later n e es h = ap (λ b. cond b (e ∷ runs_from n es) (runs_from n es)) (falls-short n e.0 h)

-- ---- whether a number is in runs

pub before-run : (n : ℕ) (e : ℕ × ℕ) → n < e.1 → is_in n e ≡ false
before-run n e h = ap (λ b. b && nat_le n e.0) (lt-leb e.1 n h)

pub behind-run : (n : ℕ) (e : ℕ × ℕ) → e.0 < n → is_in n e ≡ false
behind-run n e h = and_right (nat_le e.1 n) (nat_le n e.0) (lt-leb n e.0 h)

pub in-run : (n : ℕ) (e : ℕ × ℕ) → e.1 ≤ n → n ≤ e.0 → is_in n e ≡ true
in-run n e h k = ap (λ b. b && nat_le n e.0) (le-leb e.1 n h) ∙ le-leb n e.0 k

below : (from n : ℕ) (es : List (ℕ × ℕ)) → n < from → AreRuns from es → has_number n es ≡ false
below from n [] h runs = refl
below from n (e ∷ es) h runs =
    let first : n < e.1 = let f : from ≤ e.1 = runs.0 in omega (arith, h, f) in
    let next : n < e.0 + 2 = let f : e.1 ≤ e.0 = runs.1 in omega (arith, first, f) in
    ap (λ b. b || has_number n es) (before-run n e first) ∙ below (e.0 + 2) n es next runs.2

pub found : (from n : ℕ) (es : List (ℕ × ℕ)) (last first : ℕ) (rest : List (ℕ × ℕ)) → AreRuns from es → runs_from n es ≡ (last, first) ∷ rest → nat_le first n ≡ has_number n es
found from n [] last first rest runs is = absurd (cc is)
found from n (e ∷ es) last first rest runs is =
    ⊎_elim
    (λ h. found (e.0 + 2) n es last first rest runs.2 (sym (from-later n e es h) ∙ is) ∙ sym (ap (λ b. b || has_number n es) (behind-run n e h)))
    here (cases_lt e.0 n)
  where
    inside : n ≤ e.0 → e.1 ≤ n → nat_le e.1 n ≡ has_number n (e ∷ es)
    inside h k = le-leb e.1 n k ∙ sym (ap (λ b. b || has_number n es) (in-run n e k h))

    outside : n ≤ e.0 → n < e.1 → nat_le e.1 n ≡ has_number n (e ∷ es)
    outside h k =
        let next : n < e.0 + 2 = omega (arith, h) in
        lt-leb e.1 n k ∙ sym (ap (λ b. b || has_number n es) (before-run n e k) ∙ below (e.0 + 2) n es next runs.2)

    here : n ≤ e.0 → nat_le first n ≡ has_number n (e ∷ es)
    here h =
        let same : e ∷ runs_from n es ≡ (last, first) ∷ rest = sym (from-here n e es h) ∙ is in
        let its : e.1 ≡ first = cc same in
        ap (λ f. nat_le f n) (sym its) ∙ ⊎_elim (outside h) (inside h) (cases_lt n e.1)

pub missed : (from n : ℕ) (es : List (ℕ × ℕ)) → AreRuns from es → runs_from n es ≡ [] → false ≡ has_number n es
missed from n [] runs is = refl
missed from n (e ∷ es) runs is =
    ⊎_elim
    (λ h. missed (e.0 + 2) n es runs.2 (sym (from-later n e es h) ∙ is) ∙ sym (ap (λ b. b || has_number n es) (behind-run n e h)))
    here (cases_lt e.0 n)
  where
    here : n ≤ e.0 → false ≡ has_number n (e ∷ es)
    here h = let same : e ∷ runs_from n es ≡ [] = sym (from-here n e es h) ∙ is in absurd (cc same)

-- ---- one more number

no-key : (from k : ℕ) (es : List (ℕ × ℕ)) → k < from → AreRuns from es → lookup (is_at (nat_cmp k)) es ≡ None
no-key from k [] h runs = refl
no-key from k (e ∷ es) h runs =
    let first : k < e.0 = let f : from ≤ e.1 = runs.0 in let g : e.1 ≤ e.0 = runs.1 in omega (arith, h, f, g) in
    let next : k < e.0 + 2 = omega (arith, first) in
    look-other k e es (λ same. let f : k ≡ e.0 = same in absurd (omega (arith, first, f))) ∙ no-key (e.0 + 2) k es next runs.2

next-here : (n : ℕ) (e : ℕ × ℕ) (es : List (ℕ × ℕ)) → n ≤ e.0 → next_run n (e ∷ es) ≡ (if e.1 == n + 1 then Some e.0 else None)
next-here n e es h = ap (next_among n) (from-here n e es h)

next-later : (n : ℕ) (e : ℕ × ℕ) (es : List (ℕ × ℕ)) → e.0 < n → next_run n (e ∷ es) ≡ next_run n es
next-later n e es h = ap (next_among n) (from-later n e es h)

next-reaches : (n : ℕ) (es : List (ℕ × ℕ)) → n ≤ unwrap_or (next_run n es) n
next-reaches n [] = let f : n ≤ n = omega arith in f
next-reaches n (e ∷ es) =
    ⊎_elim
    (λ h. subst (λ r. n ≤ unwrap_or r n) (sym (next-later n e es h)) (next-reaches n es))
    (λ h. subst (λ r. n ≤ unwrap_or r n) (sym (next-here n e es h)) (either h (e.1 == n + 1)))
    (cases_lt e.0 n)
  where
    either : n ≤ e.0 → (b : Bool) → n ≤ unwrap_or (if b then Some e.0 else None) n
    either h true = h
    either h false = let f : n ≤ n = omega arith in f

cut-behind : (k : ℕ) (before : Option ℕ) (e : ℕ × ℕ) (es : List (ℕ × ℕ)) → (k ≡ e.0 → ⊥) → cut k before (e ∷ es) ≡ e ∷ cut k before es
cut-behind k None e es h = refl
cut-behind k (Some first) e es h = cut-other k e es h

-- the number stands before the first run
alone : (n : ℕ) (e : ℕ × ℕ) (es : List (ℕ × ℕ)) → 0 < n → e.1 ≤ e.0 → AreRuns (e.0 + 2) es → n + 1 < e.1 → put n (lookup (is_at (nat_cmp (n - 1))) (e ∷ es)) (next_run n (e ∷ es)) (e ∷ es) ≡ with_number n (e ∷ es)
alone n e es positive order runs h =
    let reach : n ≤ e.0 = omega (arith, h, order) in
    let none : lookup (is_at (nat_cmp (n - 1))) (e ∷ es) ≡ None = no-key (n + 1) (n - 1) (e ∷ es) (let f : n - 1 < n + 1 = omega arith in f) ((let f : n + 1 ≤ e.1 = omega (arith, h) in f), order, runs) in
    let no_next : next_run n (e ∷ es) ≡ None = next-here n e es reach ∙ ap (λ b. if b then Some e.0 else None) (ne_eqb e.1 (n + 1) (λ same. let f : e.1 ≡ n + 1 = same in absurd (omega (arith, h, f)))) in
    let short : n < e.0 = omega (arith, h, order) in
    ap (λ before. put n before (next_run n (e ∷ es)) (e ∷ es)) none
    ∙ ap (λ next. put n None next (e ∷ es)) no_next
    ∙ put-before n n e es short
    ∙ sym (ap (λ b. if b then (n, n) ∷ (e ∷ es) else (if n + 1 == e.1 then (e.0, n) ∷ es else (if n == e.0 + 1 then joined n e.1 es else e ∷ with_number n es))) (lt-ltb (n + 1) e.1 h))

-- right before it
right-before : (n : ℕ) (e : ℕ × ℕ) (es : List (ℕ × ℕ)) → 0 < n → e.1 ≤ e.0 → AreRuns (e.0 + 2) es → e.1 ≡ n + 1 → put n (lookup (is_at (nat_cmp (n - 1))) (e ∷ es)) (next_run n (e ∷ es)) (e ∷ es) ≡ with_number n (e ∷ es)
right-before n e es positive order runs h =
    let reach : n ≤ e.0 = omega (arith, h, order) in
    let none : lookup (is_at (nat_cmp (n - 1))) (e ∷ es) ≡ None = no-key n (n - 1) (e ∷ es) (let f : n - 1 < n = omega (arith, positive) in f) ((let f : n ≤ e.1 = omega (arith, h) in f), order, runs) in
    let the_next : next_run n (e ∷ es) ≡ Some e.0 = next-here n e es reach ∙ ap (λ b. if b then Some e.0 else None) (eq-eqb e.1 (n + 1) h) in
    ap (λ before. put n before (next_run n (e ∷ es)) (e ∷ es)) none
    ∙ ap (λ next. put n None next (e ∷ es)) the_next
    ∙ put-here e.0 n e es refl
    ∙ sym (ap (λ b. if b then (n, n) ∷ (e ∷ es) else (if n + 1 == e.1 then (e.0, n) ∷ es else (if n == e.0 + 1 then joined n e.1 es else e ∷ with_number n es))) (le-ltb (n + 1) e.1 (let f : e.1 ≤ n + 1 = omega (arith, h) in f))
    ∙ ap (λ b. if b then (e.0, n) ∷ es else (if n == e.0 + 1 then joined n e.1 es else e ∷ with_number n es)) (eq-eqb (n + 1) e.1 (sym h)))

-- what `with_number` does behind a run
pub with-behind : (n : ℕ) (e : ℕ × ℕ) (es : List (ℕ × ℕ)) → e.1 ≤ e.0 → e.0 < n → with_number n (e ∷ es) ≡ (if n == e.0 + 1 then joined n e.1 es else e ∷ with_number n es)
with-behind n e es order h =
    ap (λ b. if b then (n, n) ∷ (e ∷ es) else (if n + 1 == e.1 then (e.0, n) ∷ es else (if n == e.0 + 1 then joined n e.1 es else e ∷ with_number n es))) (le-ltb (n + 1) e.1 (let f : e.1 ≤ n + 1 = omega (arith, h, order) in f))
    ∙ ap (λ b. if b then (e.0, n) ∷ es else (if n == e.0 + 1 then joined n e.1 es else e ∷ with_number n es)) (ne_eqb (n + 1) e.1 (λ same. let f : n + 1 ≡ e.1 = same in absurd (omega (arith, h, order, f))))

-- a map from which the run before is cut, once the number's own is put behind it
cut-first : (n k v : ℕ) (e : ℕ × ℕ) (es : List (ℕ × ℕ)) → n ≡ e.0 + 1 → n ≤ k → cut (n - 1) (Some e.1) (insert_entry nat_cmp (e ∷ es) k v) ≡ insert_entry nat_cmp es k v
cut-first n k v e es is h =
    ap (cut (n - 1) (Some e.1)) (put-behind k v e es (let f : e.0 < k = omega (arith, is, h) in f))
    ∙ cut-here (n - 1) e (insert_entry nat_cmp es k v) (let f : n - 1 ≡ e.0 = omega (arith, is) in f)

-- the next run, where there is one, begins behind the number
join-next : (n first : ℕ) (es : List (ℕ × ℕ)) → AreRuns (n + 1) es → insert_entry nat_cmp es (unwrap_or (next_run n es) n) first ≡ joined n first es
join-next n first [] runs = refl
join-next n first (f ∷ es) runs =
    let reach : n ≤ f.0 = let a : n + 1 ≤ f.1 = runs.0 in let b : f.1 ≤ f.0 = runs.1 in omega (arith, a, b) in
    let apart : n < f.0 = let a : n + 1 ≤ f.1 = runs.0 in let b : f.1 ≤ f.0 = runs.1 in omega (arith, a, b) in
    ap (λ next. insert_entry nat_cmp (f ∷ es) (unwrap_or next n) first) (next-here n f es reach) ∙ either apart (f.1 == n + 1)
  where
    either : n < f.0 → (b : Bool) → insert_entry nat_cmp (f ∷ es) (unwrap_or (if b then Some f.0 else None) n) first ≡ (if b then (f.0, first) ∷ es else (n, first) ∷ (f ∷ es))
    either h true = put-here f.0 first f es refl
    either h false = put-before n first f es h

right-behind : (n : ℕ) (e : ℕ × ℕ) (es : List (ℕ × ℕ)) → 0 < n → e.1 ≤ e.0 → AreRuns (e.0 + 2) es → n ≡ e.0 + 1 → put n (lookup (is_at (nat_cmp (n - 1))) (e ∷ es)) (next_run n (e ∷ es)) (e ∷ es) ≡ with_number n (e ∷ es)
right-behind n e es positive order runs h =
    let later : e.0 < n = omega (arith, h) in
    let key : lookup (is_at (nat_cmp (n - 1))) (e ∷ es) ≡ Some e.1 = look-here (n - 1) e es (let f : n - 1 ≡ e.0 = omega (arith, h) in f) in
    let behind : AreRuns (n + 1) es = subst (λ k. AreRuns k es) (let f : e.0 + 2 ≡ n + 1 = omega (arith, h) in f) runs in
    ap (λ before. put n before (next_run n (e ∷ es)) (e ∷ es)) key
    ∙ ap (λ next. put n (Some e.1) next (e ∷ es)) (next-later n e es later)
    ∙ cut-first n (unwrap_or (next_run n es) n) e.1 e es h (next-reaches n es)
    ∙ join-next n e.1 es behind
    ∙ sym (with-behind n e es order later ∙ ap (λ b. if b then joined n e.1 es else e ∷ with_number n es) (eq-eqb n (e.0 + 1) h))

put-behind-all : (n : ℕ) (e : ℕ × ℕ) (es : List (ℕ × ℕ)) → e.1 ≤ e.0 → e.0 + 1 < n → put n (lookup (is_at (nat_cmp (n - 1))) (e ∷ es)) (next_run n (e ∷ es)) (e ∷ es) ≡ e ∷ put n (lookup (is_at (nat_cmp (n - 1))) es) (next_run n es) es
put-behind-all n e es order h =
    let later : e.0 < n = omega (arith, h) in
    let other : n - 1 ≡ e.0 → ⊥ = λ same. let f : n - 1 ≡ e.0 = same in absurd (omega (arith, h, f)) in
    let k : ℕ = unwrap_or (next_run n es) n in
    let reach : n ≤ k = next-reaches n es in
    let before : Option ℕ = lookup (is_at (nat_cmp (n - 1))) es in
    ap (λ b. put n b (next_run n (e ∷ es)) (e ∷ es)) (look-other (n - 1) e es other)
    ∙ ap (λ next. put n before next (e ∷ es)) (next-later n e es later)
    ∙ ap (cut (n - 1) before) (put-behind k (unwrap_or before n) e es (let f : e.0 < k = omega (arith, later, reach) in f))
    ∙ cut-behind (n - 1) before e (insert_entry nat_cmp es k (unwrap_or before n)) other

pub missing-first : (n : ℕ) (e : ℕ × ℕ) (b : Bool) → (is_in n e || b) ≡ false → is_in n e ≡ false
missing-first n e b h = by_case (is_in n e) b h
  where
    by_case : (a b : Bool) → (a || b) ≡ false → a ≡ false
    by_case true b h = h
    by_case false b h = refl

pub missing-rest : (a b : Bool) → (a || b) ≡ false → b ≡ false
missing-rest true b h = absurd (true≢false h)
missing-rest false b h = h

-- a number that isn't in a run, and not before it
pub past : (n : ℕ) (e : ℕ × ℕ) (es : List (ℕ × ℕ)) → has_number n (e ∷ es) ≡ false → e.1 ≤ n → e.0 < n
past n e es missing h = ⊎_elim (λ later. later) (λ inside. absurd (true≢false (sym (in-run n e h inside) ∙ missing-first n e (has_number n es) missing))) (cases_lt e.0 n)

pub puts : (from n : ℕ) (es : List (ℕ × ℕ)) → 0 < n → AreRuns from es → has_number n es ≡ false → put n (lookup (is_at (nat_cmp (n - 1))) es) (next_run n es) es ≡ with_number n es
puts from n [] positive runs missing = refl
puts from n (e ∷ es) positive runs missing =
    ⊎_elim
    (λ before. ⊎_elim (λ far. alone n e es positive runs.1 runs.2 far) (λ near. right-before n e es positive runs.1 runs.2 (let f : e.1 ≡ n + 1 = omega (arith, before, near) in f)) (cases_lt (n + 1) e.1))
    (λ behind.
    let later : e.0 < n = past n e es missing behind in
    ⊎_elim
    (λ far.
    put-behind-all n e es runs.1 far
    ∙ ap (λ rest. e ∷ rest) (puts (e.0 + 2) n es positive runs.2 (missing-rest (is_in n e) (has_number n es) missing))
    ∙ sym (with-behind n e es runs.1 later ∙ ap (λ b. if b then joined n e.1 es else e ∷ with_number n es) (ne_eqb n (e.0 + 1) (λ same. let f : n ≡ e.0 + 1 = same in absurd (omega (arith, far, f))))))
    (λ near. right-behind n e es positive runs.1 runs.2 (let f : n ≡ e.0 + 1 = omega (arith, later, near) in f))
    (cases_lt (e.0 + 1) n))
    (cases_lt n e.1)

-- ---- they are runs again

joined-runs : (from n first : ℕ) (es : List (ℕ × ℕ)) → from ≤ first → first ≤ n → AreRuns (n + 1) es → AreRuns from (joined n first es)
joined-runs from n first [] low order runs = (low, order, tt)
joined-runs from n first (f ∷ es) low order runs = by_case (f.1 == n + 1) refl
  where
    by_case : (b : Bool) → (f.1 == n + 1) ≡ b → AreRuns from (if b then (f.0, first) ∷ es else (n, first) ∷ (f ∷ es))
    by_case true same = (low, (let a : n + 1 ≤ f.1 = runs.0 in let b : f.1 ≤ f.0 = runs.1 in let g : first ≤ f.0 = omega (arith, a, b, order) in g), runs.2)
    by_case false other =
        let a : n + 1 ≤ f.1 = runs.0 in
        let apart : f.1 ≡ n + 1 → ⊥ = eqb-false f.1 (n + 1) other in
        let g : n + 2 ≤ f.1 = ⊎_elim (λ l. absurd (apart (let e : f.1 ≡ n + 1 = omega (arith, a, l) in e))) (λ h. h) (cases_lt f.1 (n + 2)) in
        (low, order, (g, runs.1, runs.2))

pub with-runs : (from n : ℕ) (es : List (ℕ × ℕ)) → from ≤ n → AreRuns from es → has_number n es ≡ false → AreRuns from (with_number n es)
with-runs from n [] low runs missing = (low, (let f : n ≤ n = omega arith in f), tt)
with-runs from n (e ∷ es) low runs missing =
    ⊎_elim
    (λ before. ⊎_elim
    (λ far. subst (AreRuns from) (sym (ap (λ b. if b then (n, n) ∷ (e ∷ es) else (if n + 1 == e.1 then (e.0, n) ∷ es else (if n == e.0 + 1 then joined n e.1 es else e ∷ with_number n es))) (lt-ltb (n + 1) e.1 far))) (low, (let f : n ≤ n = omega arith in f), ((let f : n + 2 ≤ e.1 = omega (arith, far) in f), runs.1, runs.2)))
    (λ near. let h : e.1 ≡ n + 1 = omega (arith, before, near) in
    subst (AreRuns from) (sym (ap (λ b. if b then (n, n) ∷ (e ∷ es) else (if n + 1 == e.1 then (e.0, n) ∷ es else (if n == e.0 + 1 then joined n e.1 es else e ∷ with_number n es))) (le-ltb (n + 1) e.1 near)
    ∙ ap (λ b. if b then (e.0, n) ∷ es else (if n == e.0 + 1 then joined n e.1 es else e ∷ with_number n es)) (eq-eqb (n + 1) e.1 (sym h)))) (low, (let o : e.1 ≤ e.0 = runs.1 in let f : n ≤ e.0 = omega (arith, h, o) in f), runs.2))
    (cases_lt (n + 1) e.1))
    (λ behind.
    let later : e.0 < n = past n e es missing behind in
    subst (AreRuns from) (sym (with-behind n e es runs.1 later))
    (⊎_elim
    (λ far. subst (AreRuns from) (sym (ap (λ b. if b then joined n e.1 es else e ∷ with_number n es) (ne_eqb n (e.0 + 1) (λ same. let f : n ≡ e.0 + 1 = same in absurd (omega (arith, far, f))))))
    (runs.0, runs.1, with-runs (e.0 + 2) n es (let f : e.0 + 2 ≤ n = omega (arith, far) in f) runs.2 (missing-rest (is_in n e) (has_number n es) missing)))
    (λ near. let h : n ≡ e.0 + 1 = omega (arith, later, near) in
    subst (AreRuns from) (sym (ap (λ b. if b then joined n e.1 es else e ∷ with_number n es) (eq-eqb n (e.0 + 1) h)))
    (joined-runs from n e.1 es runs.0 (let o : e.1 ≤ e.0 = runs.1 in let f : e.1 ≤ n = omega (arith, o, later) in f) (subst (λ k. AreRuns k es) (let f : e.0 + 2 ≡ n + 1 = omega (arith, h) in f) runs.2)))
    (cases_lt (e.0 + 1) n)))
    (cases_lt n e.1)
