-- Room that is made anew.
use Rattle.std.proofs.Common.{◌≡◌, ℕ, zero, suc, ◌+◌, ◌-◌, ◌<◌, ◌≤◌, ◌&&◌, nat_le, OnOk, OnErr, Result, Ok, Err, [], length, slice_index_or, Bool, true, false, true≢false, refl, ap, sym, ◌∙◌, arith}
use Rattle.std.proofs.lemmas.List.{get_or_past}
use Rattle.number_set.specs.Numbers.{Marked, HasRoom, is_in, marks_from}

marks-length : (s : Marked) (n count : ℕ) → length (marks_from s n count) ≡ count
marks-length s n zero = refl
marks-length s n (suc count) = omega (arith, marks-length s (suc n) count)

marks-at : (s : Marked) (n count i : ℕ) → i < count → slice_index_or (marks_from s n count) i false ≡ is_in s (n + i)
marks-at s n zero i below = absurd (omega (arith, below))
marks-at s n (suc count) zero below = ap (is_in s) (let e : n ≡ n + 0 = omega arith in e)
marks-at s n (suc count) (suc i) below = marks-at s (suc n) count i (omega (arith, below)) ∙ ap (is_in s) (let e : suc n + i ≡ n + suc i = omega arith in e)

at_least : (a b : ℕ) → a ≤ b → nat_le a b ≡ true
at_least a b h = grind (arith, h)

not_at_least : (a b : ℕ) → b < a → nat_le a b ≡ false
not_at_least a b h = grind (arith, h)

and-false : (b : Bool) → (b && false) ≡ false
and-false true = refl
and-false false = refl

-- it isn't in, where all that are in lie elsewhere
not-in : (s : Marked) (n : ℕ) (mark : Bool) → is_in s n ≡ mark → (is_in s n ≡ true → ⊥) → is_in s n ≡ false
not-in s n true is never = absurd (never is)
not-in s n false is never = is

abbrev pub remade : Marked → ℕ → ℕ → Marked
remade s first count = record { first = first; marks = marks_from s first count }

remade-below : (s : Marked) (first count n : ℕ) → n < first → is_in (remade s first count) n ≡ false
remade-below s first count n before = ap (λ b. b && slice_index_or (marks_from s first count) (n - first) false) (not_at_least first n before)

remade-within : (s : Marked) (first count n : ℕ) → first ≤ n → n < first + count → is_in (remade s first count) n ≡ is_in s n
remade-within s first count n reached below =
    ap (λ b. b && slice_index_or (marks_from s first count) (n - first) false) (at_least first n reached)
    ∙ marks-at s first count (n - first) (omega (arith, reached, below))
    ∙ ap (is_in s) (let e : first + (n - first) ≡ n = omega (arith, reached) in e)

remade-beyond : (s : Marked) (first count n : ℕ) → first + count ≤ n → is_in (remade s first count) n ≡ false
remade-beyond s first count n beyond =
    ap (λ b. nat_le first n && b) (get_or_past (marks_from s first count) (n - first) false (omega (arith, beyond, marks-length s first count))) ∙ and-false (nat_le first n)

pub remade-same : (s : Marked) (first count end n : ℕ) → end ≤ first + count → ((k : ℕ) → is_in s k ≡ true → (first ≤ k) × (k < end)) → is_in (remade s first count) n ≡ is_in s n
remade-same s first count end n wide all = by_place (nat_le first n) (nat_le (first + count) n) refl refl
  where
    by_place : (reached beyond : Bool) → nat_le first n ≡ reached → nat_le (first + count) n ≡ beyond → is_in (remade s first count) n ≡ is_in s n
    by_place false beyond low high =
        let before : n < first = grind (arith, low) in
        remade-below s first count n before ∙ sym (not-in s n (is_in s n) refl (λ is. let h = all n is in omega (arith, h.0, before)))
    by_place true true low high =
        let past : first + count ≤ n = grind (arith, high) in
        remade-beyond s first count n past ∙ sym (not-in s n (is_in s n) refl (λ is. let h = all n is in omega (arith, h.1, past, wide)))
    by_place true false low high =
        remade-within s first count n (grind (arith, low)) (grind (arith, high))

pub remade-room : (s : Marked) (first count n : ℕ) → first ≤ n → n < first + count → HasRoom (remade s first count) n
remade-room s first count n reached below = (reached, omega (arith, below, marks-length s first count))

pub made-same : {E : Type 0} (r : Result (Unit {0}) E) (s s' : Marked) (first count end n : ℕ) → OnOk r (s' ≡ remade s first count) → OnErr r (s' ≡ s) → end ≤ first + count
    → ((k : ℕ) → is_in s k ≡ true → (first ≤ k) × (k < end)) → is_in s' n ≡ is_in s n
made-same (Ok done) s s' first count end n ok err wide all = ap (λ t. is_in t n) ok ∙ remade-same s first count end n wide all
made-same (Err e) s s' first count end n ok err wide all = ap (λ t. is_in t n) err

pub made-room : {E : Type 0} (r : Result (Unit {0}) E) (s s' : Marked) (first count end : ℕ) → OnOk r (s' ≡ remade s first count) → end ≤ first + count
    → OnOk r ((n : ℕ) → first ≤ n → n < end → HasRoom s' n)
made-room (Ok done) s s' first count end ok wide = λ n reached below. rw ok (remade-room s first count n reached (omega (arith, below, wide)))
made-room (Err e) s s' first count end ok wide = tt

pub none-in-empty : (n : ℕ) → is_in (record { first = 0; marks = [] }) n ≡ false
none-in-empty n = and-false (nat_le 0 n)

pub none-remade : (s : Marked) (count n : ℕ) → ((k : ℕ) → is_in s k ≡ false) → is_in (remade s 0 count) n ≡ false
none-remade s count n none = remade-same s 0 count 0 n (omega arith) (λ k is. absurd (true≢false (sym is ∙ none k))) ∙ none n
