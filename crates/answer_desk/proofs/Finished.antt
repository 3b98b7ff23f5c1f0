-- Finished parts and whole units, one after another.
use Rattle.std.proofs.Common.{◌≡◌, ◌==◌, ℕ, suc, zero, ◌<◌, ◌≤◌, List, [], ◌∷◌, ◌++◌, length, get_or, map, take, drop, refl, ap, sym, ◌∙◌, arith, Bool, true, false, ◌&&◌, rules, IsTrue, true≢false}
use Rattle.std.proofs.lemmas.List.{append_assoc, append-nil}
use Rattle.std.specs.List.{list_all}
use Rattle.answer_desk.specs.Waiting.{Waiting, is_whole, is_finished, whole_front, behind_front}
use Rattle.answer_desk.specs.Inner.Units.{front_finished}

pub and_parts : (a b : Bool) → (a && b) ≡ true → (a ≡ true) × (b ≡ true)
and_parts true b both = (refl, both)
and_parts false b both = cc

and_false : (a : Bool) → (a && false) ≡ false
and_false true = refl
and_false false = refl

pub finished_more : {X Y : Type 0} (p : Y → Bool) (f : X → Y) (xs : List X) (i : ℕ) (d : X) → i < length xs
    → list_all p (take i (map f xs)) ≡ true → true ≡ p (f (get_or xs i d)) → list_all p (take (suc i) (map f xs)) ≡ true
finished_more p f [] i d below front here = absurd (omega arith)
finished_more p f (x ∷ xs) zero d below front here = rw (← here) refl
finished_more p f (x ∷ xs) (suc i) d below front here =
    let parts = and_parts (p (f x)) (list_all p (take i (map f xs))) front in
    rw (parts.0) (finished_more p f xs i d (omega arith) parts.1 here)

pub unfinished_at : {X Y : Type 0} (p : Y → Bool) (f : X → Y) (xs : List X) (i : ℕ) (d : X) → i < length xs
    → false ≡ p (f (get_or xs i d)) → list_all p (map f xs) ≡ false
unfinished_at p f [] i d below here = absurd (omega arith)
unfinished_at p f (x ∷ xs) zero d below here = rw (← here) refl
unfinished_at p f (x ∷ xs) (suc i) d below here = rw (unfinished_at p f xs i d (omega arith) here) (and_false (p (f x)))

-- the unit at a place, and those behind it
pub drop-map_at : {X Y : Type 0} (f : X → Y) (xs : List X) (i : ℕ) (x : X) → i < length xs → x ≡ get_or xs i x
    → drop i (map f xs) ≡ f x ∷ drop (suc i) (map f xs)
drop-map_at f [] i x below read = absurd (omega arith)
drop-map_at f (y ∷ ys) zero x below read = ap (λ z. f z ∷ map f ys) (sym read)
drop-map_at f (y ∷ ys) (suc i) x below read = drop-map_at f ys i x (omega arith) read

-- the front ends at a unit that isn't whole
pub front_ends : (left : List Waiting) (unit : Waiting) (units : List Waiting) → left ≡ unit ∷ units → is_whole unit ≡ false → whole_front left ≡ []
front_ends left unit units is open_still = rw (is, open_still) refl

pub behind_ends : (left : List Waiting) (unit : Waiting) (units : List Waiting) → left ≡ unit ∷ units → is_whole unit ≡ false → behind_front left ≡ left
behind_ends left unit units is open_still = rw (is, open_still) refl

-- and goes on behind one that is
pub front_more : (front left : List Waiting) (unit : Waiting) (units : List Waiting) → left ≡ unit ∷ units → is_whole unit ≡ true
    → front ++ whole_front left ≡ (front ++ unit ∷ []) ++ whole_front units
front_more front left unit units is whole = rw (is, whole) (sym (append_assoc front (unit ∷ []) (whole_front units)))

pub behind_more : (left : List Waiting) (unit : Waiting) (units : List Waiting) → left ≡ unit ∷ units → is_whole unit ≡ true → behind_front left ≡ behind_front units
behind_more left unit units is whole = rw (is, whole) refl

pub none_known : (units : List Waiting) → front_finished 0 units ≡ true
none_known [] = refl
none_known (unit ∷ units) = refl

pub other_place : (i n : ℕ) → i < n → (i == n) ≡ false
other_place i n below = search rules

pub front_end : (front all : List Waiting) (left : List Waiting) → front ++ whole_front left ≡ all → whole_front left ≡ [] → front ≡ all
front_end front all left so_far none = sym (append-nil front) ∙ rw none at so_far

-- the count of the finished parts tells whether a unit is whole
pub broken_by_count : (count n : ℕ) (whole : Bool) → (count == n) ≡ whole → (count ≡ n → ⊥) → whole ≡ false
broken_by_count count n whole same differs = sym same ∙ search (rules, differs)

pub whole_by_count : (count n : ℕ) (whole : Bool) → (count == n) ≡ whole → count ≡ n → whole ≡ true
whole_by_count count n whole same equal = sym same ∙ search (rules, equal)

pub front_known : (known : ℕ) (left : List Waiting) (unit : Waiting) (units : List Waiting) → left ≡ unit ∷ units
    → front_finished known left ≡ true → list_all is_finished (take known unit.parts) ≡ true
front_known known left unit units is front = rw is at front

pub known_front : (known : ℕ) (left : List Waiting) (unit : Waiting) (units : List Waiting) → left ≡ unit ∷ units
    → list_all is_finished (take known unit.parts) ≡ true → front_finished known left ≡ true
known_front known left unit units is front = rw is front

-- whether units wait

suc_not_zero : (n : ℕ) → (suc n == 0) ≡ false
suc_not_zero n = search rules

pub none_wait : {X Y : Type 0} (f : X → Y) (xs : List X) (len : ℕ) (is_empty : Bool) → length xs ≡ len → is_empty ≡ (len == 0)
    → (IsTrue is_empty → map f xs ≡ []) × (map f xs ≡ [] → IsTrue is_empty)
none_wait f [] len is_empty long is = (λ empty. refl, λ none. is ∙ rw (← long) refl)
none_wait f (x ∷ xs) len is_empty long is =
    let some : is_empty ≡ false = is ∙ rw (← long) (suc_not_zero (length xs)) in
    (λ empty. absurd (true≢false (sym empty ∙ some)), λ none. cc)

-- the first unit that waits isn't whole, so nothing is due

pub none_due : {X : Type 0} (waiting : X → Waiting) (units : List X) (unit : X) → 0 < length units → unit ≡ get_or units 0 unit → is_whole (waiting unit) ≡ false
    → (whole_front (map waiting units) ≡ []) × (behind_front (map waiting units) ≡ map waiting units)
none_due waiting [] unit some read broken = absurd (omega arith)
none_due waiting (u ∷ us) unit some read broken =
    let at : is_whole (waiting u) ≡ false = rw read at broken in
    (rw at refl, rw at refl)

pub some_wait : {X Y : Type 0} (f : X → Y) (xs : List X) (P : Type 0) → 0 < length xs → map f xs ≡ [] → P
some_wait f [] P some none = absurd (omega arith)
some_wait f (x ∷ xs) P some none = cc

pub nothing_waits : {X Y : Type 0} (f : X → Y) (xs : List X) → length xs ≤ 0 → map f xs ≡ []
nothing_waits f [] none = refl
nothing_waits f (x ∷ xs) none = absurd (omega arith)

pub none_seen : (units : List Waiting) → units ≡ [] → (whole_front units ≡ []) × (behind_front units ≡ units)
none_seen [] is = (refl, refl)
none_seen (u ∷ us) is = cc
