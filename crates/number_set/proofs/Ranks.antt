-- The mark that is found is the one that so many stand before.
use Rattle.std.proofs.Common.{◌≡◌, ℕ, zero, suc, ◌+◌, ◌-◌, ◌*◌, ◌<◌, ◌≤◌, List, [], ◌∷◌, ◌++◌, Bool, true, false, length, map, take, Some, None, option_map, slice_get, slice_index, nat_lt, add-one, refl, sym, ap, subst, ◌∙◌, arith, true≢false}
use Rattle.number_set.specs.declared.levels.Found.{Found}
use Rattle.number_set.specs.Levels.{pair_sums, total, AreSums, go_down, found_below, HasWay}
use Rattle.number_set.specs.Numbers.{numbers_from}
use Rattle.number_set.specs.Words.{word_marks, marks_of, count_set, AreWords}
use Rattle.number_set.proofs.Bits.{length-word_marks}
use Rattle.number_set.proofs.Sums.{total-pair_sums}
use Rattle.number_set.proofs.Sets.{numbers-append, same-count, counts-length, count-in-word, numbers-in-room, len-is}

-- a place such that so many stand before it and what is left, which the count there is above
pub record IsFound (counts : List ℕ) (before : ℕ) (found : Found) : Type 0 where
  pub within : found.place < length counts
  pub before_it : total (take found.place counts) + found.left ≡ before
  pub left : found.left < slice_index counts found.place

double-suc : (n : ℕ) → 2 * suc n ≡ suc (suc (2 * n))
double-suc n = omega arith

-- below a place of the sums stand its two counts
below_within : (p : ℕ) (xs : List ℕ) → p < length (pair_sums xs) → 2 * p < length xs
below_within p [] h = absurd (omega (arith, h))
below_within zero (a ∷ []) h = omega arith
below_within (suc p) (a ∷ []) h = absurd (omega (arith, h))
below_within zero (a ∷ b ∷ xs) h = omega arith
below_within (suc p) (a ∷ b ∷ xs) h = omega (arith, below_within p xs (omega (arith, h)))

total-take-nil : (p : ℕ) → total (take p []) ≡ 0
total-take-nil zero = refl
total-take-nil (suc p) = refl

before_two : (p : ℕ) (xs : List ℕ) → total (take (2 * p) xs) ≡ total (take p (pair_sums xs))
before_two zero xs = refl
before_two (suc p) [] = rw (double-suc p) refl
before_two (suc p) (a ∷ []) = rw (double-suc p) (ap (λ n. a + n) (sym (total-take-nil p)))
before_two (suc p) (a ∷ b ∷ xs) = rw (double-suc p) (omega (arith, before_two p xs))

count_two : (p : ℕ) (xs : List ℕ) → p < length (pair_sums xs) → slice_index (pair_sums xs) p ≡ slice_index xs (2 * p) + slice_index xs (suc (2 * p))
count_two p [] h = absurd (omega (arith, h))
count_two zero (a ∷ []) h = omega arith
count_two (suc p) (a ∷ []) h = absurd (omega (arith, h))
count_two zero (a ∷ b ∷ xs) h = refl
count_two (suc p) (a ∷ b ∷ xs) h = rw (double-suc p) (count_two p xs (omega (arith, h)))

total-take-suc : (p : ℕ) (xs : List ℕ) → total (take (suc p) xs) ≡ total (take p xs) + slice_index xs p
total-take-suc p [] = rw (total-take-nil p) refl
total-take-suc zero (x ∷ xs) = omega arith
total-take-suc (suc p) (x ∷ xs) = omega (arith, total-take-suc p xs)

-- a count above 0 stands within
within-positive : (p : ℕ) (xs : List ℕ) → 0 < slice_index xs p → p < length xs
within-positive p [] h = absurd (omega (arith, h))
within-positive zero (x ∷ xs) h = omega arith
within-positive (suc p) (x ∷ xs) h = omega (arith, within-positive p xs h)

stepped : (counts : List ℕ) (before : ℕ) (found : Found) → IsFound (pair_sums counts) before found → (b : Bool)
    → nat_lt found.left (slice_index counts (2 * found.place)) ≡ b → IsFound counts before (go_down counts found)
stepped counts before found is true less =
    rw less (record {
      within = below_within found.place counts is.within;
      before_it = omega (arith, before_two found.place counts, is.before_it);
      left = grind (arith, less);
    })
stepped counts before found is false less =
    let fits : found.left < slice_index counts (2 * found.place) + slice_index counts (suc (2 * found.place)) = rw (sym (count_two found.place counts is.within)) is.left in
    let over : slice_index counts (2 * found.place) ≤ found.left = grind (arith, less) in
    let left : found.left - slice_index counts (2 * found.place) < slice_index counts (suc (2 * found.place)) = omega (arith, fits, over) in
    rw (less, add-one) (record {
      within = within-positive (suc (2 * found.place)) counts (omega (arith, left));
      before_it = omega (arith, total-take-suc (2 * found.place) counts, before_two found.place counts, is.before_it, over);
      left = left;
    })

-- from the top down, each count that is found is right
pub found_is : (counts : List ℕ) (levels : List (List ℕ)) (before : ℕ) → AreSums (counts ∷ levels) → before < total counts
    → IsFound counts before (found_below (counts ∷ levels) before) × HasWay (counts ∷ levels) before
found_is [] [] before sums less = absurd (omega (arith, less))
found_is (a ∷ []) [] before sums less =
    let test : nat_lt before a ≡ true = grind (arith, less) in
    (rw test (record { within = omega arith; before_it = omega arith; left = omega (arith, less) }), (omega arith, tt))
found_is (a ∷ b ∷ counts) [] before sums less = absurd (omega (arith, sums))
found_is counts (above ∷ levels) before sums less =
    let up = found_is above levels before sums.1 (omega (arith, less, ap total sums.0, total-pair_sums counts)) in
    let found = found_below (above ∷ levels) before in
    let is : IsFound (pair_sums counts) before found = rw (sym sums.0) up.0 in
    (stepped counts before found is (nat_lt found.left (slice_index counts (2 * found.place))) refl, (below_within found.place counts is.within, up.1))

shifted : (n m i r : ℕ) (bs : List Bool) → slice_get (numbers_from m bs) i ≡ Some r → slice_get (numbers_from (n + m) bs) i ≡ Some (n + r)
shifted n m i r [] is = absurd (true≢false (none_some is))
  where
    none_some : {x : ℕ} → None ≡ Some x → true ≡ false
    none_some p = cc
shifted n m zero r (true ∷ bs) is = ap (option_map (λ k. n + k)) is
shifted n m (suc i) r (true ∷ bs) is = let e : suc (n + m) ≡ n + suc m = omega arith in rw e (shifted n (suc m) i r bs is)
shifted n m i r (false ∷ bs) is = let e : suc (n + m) ≡ n + suc m = omega arith in rw e (shifted n (suc m) i r bs is)

from-front : (i r : ℕ) (xs ys : List ℕ) → slice_get xs i ≡ Some r → slice_get (xs ++ ys) i ≡ Some r
from-front i r [] ys is = absurd (true≢false (none_some is))
  where
    none_some : {x : ℕ} → None ≡ Some x → true ≡ false
    none_some p = cc
from-front zero r (x ∷ xs) ys is = is
from-front (suc i) r (x ∷ xs) ys is = from-front i r xs ys is

behind-front : (i r : ℕ) (xs ys : List ℕ) → slice_get ys i ≡ Some r → slice_get (xs ++ ys) (length xs + i) ≡ Some r
behind-front i r [] ys is = let e : 0 + i ≡ i = omega arith in rw e is
behind-front i r (x ∷ xs) ys is = let e : suc (length xs) + i ≡ suc (length xs + i) = omega arith in rw e (behind-front i r xs ys is)

-- the number of a bit of a word before which so many stand
pub ranked : (n : ℕ) (ws : List ℕ) (before bit : ℕ) (found : Found) → IsFound (map count_set ws) before found
    → slice_get (numbers_from 0 (word_marks (slice_index ws found.place))) found.left ≡ Some bit
    → slice_get (numbers_from n (marks_of ws)) before ≡ Some (n + 64 * found.place + bit)
ranked n ws before bit found is here = at n ws before found.place found.left bit (omega (arith, is.within, counts-length ws)) is.before_it here
  where
    at : (n : ℕ) (ws : List ℕ) (before k left bit : ℕ) → k < length ws → total (take k (map count_set ws)) + left ≡ before
        → slice_get (numbers_from 0 (word_marks (slice_index ws k))) left ≡ Some bit → slice_get (numbers_from n (marks_of ws)) before ≡ Some (n + 64 * k + bit)
    at n [] before k left bit within is here = absurd (omega (arith, within))
    at n (w ∷ ws) before zero left bit within is here =
        let same : before ≡ left = omega (arith, is) in
        let e : n + 0 ≡ n = omega arith in
        let to : n + bit ≡ n + 64 * 0 + bit = omega arith in
        ap (λ ns. slice_get ns before) (numbers-append n (word_marks w) (marks_of ws))
        ∙ ap (slice_get (numbers_from n (word_marks w) ++ numbers_from (n + length (word_marks w)) (marks_of ws))) same
        ∙ from-front left (n + bit) (numbers_from n (word_marks w)) (numbers_from (n + length (word_marks w)) (marks_of ws)) (ap (λ m. slice_get (numbers_from m (word_marks w)) left) (sym e) ∙ shifted n 0 left bit (word_marks w) here)
        ∙ ap Some to
    at n (w ∷ ws) before (suc k) left bit within is here =
        let front = numbers_from n (word_marks w) in
        let rest = total (take k (map count_set ws)) + left in
        let same : before ≡ length front + rest = omega (arith, is, same-count n 0 (word_marks w)) in
        let to : n + length (word_marks w) + 64 * k + bit ≡ n + 64 * suc k + bit = omega (arith, length-word_marks w) in
        ap (λ ns. slice_get ns before) (numbers-append n (word_marks w) (marks_of ws))
        ∙ ap (slice_get (front ++ numbers_from (n + length (word_marks w)) (marks_of ws))) same
        ∙ behind-front rest _ front (numbers_from (n + length (word_marks w)) (marks_of ws)) (at (n + length (word_marks w)) ws rest k left bit (omega (arith, within)) refl here)
        ∙ ap Some to

-- what is found in a set's levels
pub record Rank (words : List ℕ) (levels : List (List ℕ)) (place : ℕ) : Type 0 where
  pub way : HasWay levels place
  pub found : IsFound (map count_set words) place (found_below levels place)
  pub within : (found_below levels place).place < length words
  pub left : (found_below levels place).left < count_set (slice_index words (found_below levels place).place)

pub rank_in : (first room len : ℕ) (words : List ℕ) (levels : List (List ℕ)) (place : ℕ) → AreWords first room len words levels → place < len → Rank words levels place
rank_in first room len words [] place is less = absurd (omega (arith, less, is.counted))
rank_in first room len words (counts ∷ levels) place is less =
    let found = found_is counts levels place is.sums (omega (arith, less, is.counted)) in
    let in_words : IsFound (map count_set words) place (found_below (counts ∷ levels) place) =
    subst (λ ns. IsFound ns place (found_below (counts ∷ levels) place)) is.counts found.0 in
    let within : (found_below (counts ∷ levels) place).place < length words = omega (arith, in_words.within, counts-length words) in
    record {
      way = found.1;
      found = in_words;
      within = within;
      left = omega (arith, in_words.left, count-in-word words (found_below (counts ∷ levels) place).place within);
    }

-- the number of what is found
pub number-is : (first room len : ℕ) (words : List ℕ) (levels : List (List ℕ)) (place bit : ℕ) → AreWords first room len words levels → (less : place < len)
    → slice_get (numbers_from 0 (word_marks (slice_index words (found_below levels place).place))) (found_below levels place).left ≡ Some bit
    → slice_get (numbers_from first (take room (marks_of words))) place ≡ Some (first + 64 * (found_below levels place).place + bit)
number-is first room len words levels place bit is less here =
    ap (λ ns. slice_get ns place) (numbers-in-room first room (marks_of words) is.others)
    ∙ ranked first words place bit (found_below levels place) (rank_in first room len words levels place is less).found here

-- behind the last number there is none
past : (xs : List ℕ) (place : ℕ) → length xs ≤ place → slice_get xs place ≡ None
past [] place h = refl
past (x ∷ xs) zero h = absurd (omega (arith, h))
past (x ∷ xs) (suc place) h = past xs place (omega (arith, h))

pub beyond : (first room len : ℕ) (words : List ℕ) (levels : List (List ℕ)) (place : ℕ) → AreWords first room len words levels → len ≤ place
    → slice_get (numbers_from first (take room (marks_of words))) place ≡ None
beyond first room len words levels place is more =
    past (numbers_from first (take room (marks_of words))) place (omega (arith, more, len-is first room len words levels is))
