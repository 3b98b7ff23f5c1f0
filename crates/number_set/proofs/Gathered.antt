-- A set that gets the numbers of another, one after another.
use Rattle.std.proofs.Common.{◌≡◌, ℕ, zero, suc, ◌+◌, ◌-◌, ◌<◌, ◌≤◌, List, [], ◌∷◌, ◌++◌, Bool, true, false, length, set, slice_index_or, nat_le, ◌&&◌, replicate, refl, sym, ap, ◌∙◌, arith, append_assoc}
use Rattle.std.proofs.Math.Seq.{set-append_seam}
use Rattle.std.proofs.lemmas.List.{length-append, length-replicate}
use Rattle.number_set.specs.Numbers.{Marked, HasRoom, is_in, with_mark, marks_from, numbers, numbers_from}
use Rattle.number_set.specs.Words.{AreOut}
use Rattle.number_set.proofs.Chains.{length-marks_from, marks_next}
use Rattle.number_set.proofs.Sets.{with_mark-is, at_least}

-- the set has the marks of the numbers before this one, and no others
pub record Gathers (s : Marked) (first end n : ℕ) (made : Marked) : Type 0 where
  pub is : made ≡ record { first = first; marks = marks_from s first (n - first) ++ replicate (end - n) false }
  pub begun : first ≤ n
  pub within : n ≤ end

append-nil : (xs : List Bool) → xs ++ [] ≡ xs
append-nil [] = refl
append-nil (x ∷ xs) = ap (λ ys. x ∷ ys) (append-nil xs)

pub gathers-all : (s : Marked) (first end n : ℕ) (made : Marked) → Gathers s first end n made → end ≤ n → made ≡ record { first = first; marks = marks_from s first (end - first) }
gathers-all s first end n made so over =
    let same : n ≡ end = omega (arith, so.within, over) in
    let none : end - end ≡ 0 = omega arith in
    so.is ∙ rw (same, none) (ap (λ marks. record { first = first; marks = marks }) (append-nil (marks_from s first (end - first))))

pub gathers-room : (s : Marked) (first end n : ℕ) (made : Marked) → Gathers s first end n made → n < end → HasRoom made n
gathers-room s first end n made so more =
    let long : length (marks_from s first (n - first) ++ replicate (end - n) false) ≡ (n - first) + (end - n) =
    length-append (marks_from s first (n - first)) (replicate (end - n) false) ∙ rw (length-marks_from s first (n - first), length-replicate (end - n) false) refl in
    rw so.is (so.begun, omega (arith, long, so.begun, more))

-- one mark more
pub gathers-next : (s : Marked) (first end n : ℕ) (made next : Marked) (b : Bool) → Gathers s first end n made → n < end → is_in s n ≡ b
    → next ≡ record { first = first; marks = marks_from s first (n - first) ++ b ∷ replicate (end - suc n) false } → Gathers s first end (n + 1) next
gathers-next s first end n made next b so more mark is =
    let count = n - first in
    let here : first + count ≡ n = omega (arith, so.begun) in
    let one : n + 1 - first ≡ suc count = omega (arith, so.begun) in
    let left : end - (n + 1) ≡ end - suc n = omega arith in
    let marks : marks_from s first (suc count) ≡ marks_from s first count ++ b ∷ [] = marks_next s first count ∙ ap (λ m. marks_from s first count ++ m ∷ []) (ap (is_in s) here ∙ mark) in
    let whole : marks_from s first (n + 1 - first) ++ replicate (end - (n + 1)) false ≡ marks_from s first count ++ b ∷ replicate (end - suc n) false =
    ap (λ k. marks_from s first k ++ replicate (end - (n + 1)) false) one ∙ ap (λ k. marks_from s first (suc count) ++ replicate k false) left
    ∙ ap (λ ms. ms ++ replicate (end - suc n) false) marks ∙ append_assoc (marks_from s first count) (b ∷ []) (replicate (end - suc n) false) in
    record {
      is = is ∙ ap (λ ms. record { first = first; marks = ms }) (sym whole);
      begun = omega (arith, so.begun);
      within = omega (arith, more);
    }

pub gathers-out : (s : Marked) (first end n : ℕ) (made : Marked) → Gathers s first end n made → n < end → is_in s n ≡ false → Gathers s first end (n + 1) made
gathers-out s first end n made so more out =
    let left : end - n ≡ suc (end - suc n) = omega (arith, more) in
    gathers-next s first end n made made false so more out (so.is ∙ rw left refl)

pub gathers-in : (s : Marked) (first end n : ℕ) (made next : Marked) → Gathers s first end n made → n < end → is_in s n ≡ true → next ≡ with_mark true n made → Gathers s first end (n + 1) next
gathers-in s first end n made next so more here is =
    let left : end - n ≡ suc (end - suc n) = omega (arith, more) in
    let front = marks_from s first (n - first) in
    let long : length front ≡ n - first = length-marks_from s first (n - first) in
    let marked : set (front ++ replicate (end - n) false) (n - first) true ≡ front ++ true ∷ replicate (end - suc n) false =
    ap (λ k. set (front ++ replicate k false) (n - first) true) left ∙ ap (λ i. set (front ++ false ∷ replicate (end - suc n) false) i true) (sym long)
    ∙ set-append_seam front false (replicate (end - suc n) false) true in
    gathers-next s first end n made next true so more here
    (is ∙ ap (with_mark true n) so.is ∙ sym (with_mark-is true n first (front ++ replicate (end - n) false) (at_least first n so.begun)) ∙ ap (λ ms. record { first = first; marks = ms }) marked)

-- ---- a set of none

none-in : (n : ℕ) (bs : List Bool) → length (numbers_from n bs) ≡ 0 → AreOut bs
none-in n [] none = tt
none-in n (true ∷ bs) none = absurd (omega (arith, none))
none-in n (false ∷ bs) none = (refl, none-in (suc n) bs none)

out-there : (bs : List Bool) (i : ℕ) → AreOut bs → slice_index_or bs i false ≡ false
out-there [] i out = refl
out-there (b ∷ bs) zero out = out.0
out-there (b ∷ bs) (suc i) out = out-there bs i out.1

and-out : (b : Bool) → (b && false) ≡ false
and-out true = refl
and-out false = refl

no-marks : (s : Marked) (n count : ℕ) → AreOut s.marks → marks_from s n count ≡ replicate count false
no-marks s n zero out = refl
no-marks s n (suc count) out =
    let here : is_in s n ≡ false = ap (λ b. nat_le s.first n && b) (out-there s.marks (n - s.first) out) ∙ and-out (nat_le s.first n) in
    rw here (ap (λ ms. false ∷ ms) (no-marks s (suc n) count out))

-- a set of no numbers has no marks of any
pub gathers-nothing : (s : Marked) (n count : ℕ) → length (numbers s) ≡ 0 → marks_from s n count ≡ replicate count false
gathers-nothing s n count none = no-marks s n count (none-in s.first s.marks none)
