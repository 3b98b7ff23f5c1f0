-- Levels as they are put one above the other, and a set of no numbers.
use Rattle.std.proofs.Common.{◌≡◌, ℕ, zero, suc, ◌+◌, ◌<◌, ◌≤◌, List, [], ◌∷◌, ◌*◌, ◌++◌, Bool, false, length, map, take, drop, replicate, refl, sym, ap, ◌∙◌, arith}
use Rattle.std.proofs.lemmas.List.{length-replicate}
use Rattle.number_set.specs.declared.limits.TheConstants.{LARGEST_END}
use Rattle.number_set.specs.Levels.{pair_sums, total, AreSums, IsChain, lowest}
use Rattle.number_set.specs.Numbers.{Marked, is_in, marks_from}
use Rattle.number_set.specs.Words.{word_marks, marks_of, count_set, AreOut, AreWords}
use Rattle.number_set.proofs.Bits.{zero-word, none-out}
use Rattle.number_set.proofs.Sets.{length-marks_of}

pub shorter : (xs : List ℕ) → 1 < length xs → length (pair_sums xs) < length xs
shorter [] h = absurd (omega (arith, h))
shorter (a ∷ []) h = absurd (omega (arith, h))
shorter (a ∷ b ∷ xs) h = omega (arith, no_longer xs)
  where
    no_longer : (xs : List ℕ) → length (pair_sums xs) ≤ length xs
    no_longer [] = omega arith
    no_longer (a ∷ []) = omega arith
    no_longer (a ∷ b ∷ xs) = omega (arith, no_longer xs)

-- a level more at the top
pub chain_more : (ls : List (List ℕ)) (c : List ℕ) → IsChain (ls ++ c ∷ []) → IsChain ((ls ++ c ∷ []) ++ pair_sums c ∷ [])
chain_more [] c h = (refl, tt)
chain_more (l ∷ []) c h = (h.0, (refl, tt))
chain_more (l ∷ m ∷ ls) c h = (h.0, chain_more (m ∷ ls) c h.1)

pub chain_ends : (ls : List (List ℕ)) (c : List ℕ) → IsChain (ls ++ c ∷ []) → length c ≤ 1 → AreSums (ls ++ c ∷ [])
chain_ends [] c h k = k
chain_ends (l ∷ []) c h k = (h.0, k)
chain_ends (l ∷ m ∷ ls) c h k = (h.0, chain_ends (m ∷ ls) c h.1 k)

pub lowest_more : (ls : List (List ℕ)) (c d : List ℕ) → lowest ((ls ++ c ∷ []) ++ d ∷ []) ≡ lowest (ls ++ c ∷ [])
lowest_more [] c d = refl
lowest_more (l ∷ ls) c d = refl

pub mapped_push : {X : Type 0} (f : X → List ℕ) (xs : List X) (x : X) → map f (xs ++ x ∷ []) ≡ map f xs ++ f x ∷ []
mapped_push f [] x = refl
mapped_push f (y ∷ xs) x = ap (λ ys. f y ∷ ys) (mapped_push f xs x)

-- ---- a set of none

pub length-marks_from : (s : Marked) (n count : ℕ) → length (marks_from s n count) ≡ count
length-marks_from s n zero = refl
length-marks_from s n (suc count) = omega (arith, length-marks_from s (suc n) count)

pub marks_next : (s : Marked) (n count : ℕ) → marks_from s n (suc count) ≡ marks_from s n count ++ is_in s (n + count) ∷ []
marks_next s n zero = let e : n + 0 ≡ n = omega arith in rw e refl
marks_next s n (suc count) =
    let e : n + suc count ≡ suc n + count = omega arith in rw e (ap (λ ms. is_in s n ∷ ms) (marks_next s (suc n) count))

all-out : (count : ℕ) → AreOut (marks_of (replicate count 0))
all-out zero = tt
all-out (suc count) = both (word_marks 0) (marks_of (replicate count 0)) zero-word (all-out count)
  where
    both : (xs ys : List Bool) → AreOut xs → AreOut ys → AreOut (xs ++ ys)
    both [] ys a b = b
    both (x ∷ xs) ys a b = (a.0, both xs ys a.1 b)

out-behind : (n : ℕ) (bs : List Bool) → AreOut bs → AreOut (drop n bs)
out-behind zero bs out = out
out-behind (suc n) [] out = tt
out-behind (suc n) (b ∷ bs) out = out-behind n bs out.1

out-front : (n : ℕ) (bs : List Bool) → AreOut bs → n ≤ length bs → take n bs ≡ replicate n false
out-front zero bs out h = refl
out-front (suc n) [] out h = absurd (omega (arith, h))
out-front (suc n) (b ∷ bs) out h = rw out.0 (ap (λ ms. false ∷ ms) (out-front n bs out.1 (omega (arith, h))))

counts-none : (count : ℕ) → map count_set (replicate count 0) ≡ replicate count 0
counts-none zero = refl
counts-none (suc count) = let none : count_set 0 ≡ 0 = ap length (none-out 0 (word_marks 0) zero-word) in rw (none, counts-none count) refl

pub total-none : (count : ℕ) → total (replicate count 0) ≡ 0
total-none zero = refl
total-none (suc count) = omega (arith, total-none count)

-- words without a bit that is set, and counts over them
pub of-none : (first room count : ℕ) (levels : List (List ℕ)) → first + room ≤ LARGEST_END → room ≤ 64 * count → count ≤ LARGEST_END
    → AreSums levels → lowest levels ≡ replicate count 0
    → AreWords first room 0 (replicate count 0) levels × (take room (marks_of (replicate count 0)) ≡ replicate room false)
of-none first room count levels end enough few sums is =
    let zeros : List ℕ = replicate count 0 in
    let long : length zeros ≡ count = length-replicate count 0 in (
      record {
        end = end;
        enough = omega (arith, enough, long);
        few = omega (arith, few, long);
        others = out-behind room (marks_of (replicate count 0)) (all-out count);
        sums = sums;
        counts = is ∙ sym (counts-none count);
        counted = sym (ap total is ∙ total-none count);
      },
      out-front room (marks_of (replicate count 0)) (all-out count) (omega (arith, enough, length-marks_of (replicate count 0), long)),
    )
