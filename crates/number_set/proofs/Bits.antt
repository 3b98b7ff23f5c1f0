-- The bits of a word, as the list of its marks.
use Rattle.std.proofs.Common.{◌≡◌, ◌≢◌, ℕ, zero, suc, ◌+◌, ◌-◌, ◌^◌, ◌<◌, ◌≤◌, List, [], ◌∷◌, Bool, true, false, length, set, Some, slice_get, slice_index_or, w64, refl, sym, ap, ◌∙◌, arith, true≢false}
use Rattle.std.specs.Int.{bit_at, trailing_zeros}
use Rattle.std.proofs.lemmas.Nat.Bits.{bit_at-zero, bit_at-trailing_zeros}
use Rattle.number_set.specs.Levels.{is_one}
use Rattle.number_set.specs.Numbers.{numbers_from}
use Rattle.number_set.specs.Words.{marks_of_bits, word_marks, count_set, AreOut}

pub length-marks_of_bits : (i k w : ℕ) → length (marks_of_bits i k w) ≡ k
length-marks_of_bits i zero w = refl
length-marks_of_bits i (suc k) w = omega (arith, length-marks_of_bits (suc i) k w)

pub mark_of_bit : (i k j w : ℕ) → j < k → slice_index_or (marks_of_bits i k w) j false ≡ is_one (bit_at w (i + j))
mark_of_bit i zero j w h = absurd (omega (arith, h))
mark_of_bit i (suc k) zero w h = let e : i + 0 ≡ i = omega arith in rw e refl
mark_of_bit i (suc k) (suc j) w h =
    let e : i + suc j ≡ suc i + j = omega arith in rw e (mark_of_bit (suc i) k j w (omega (arith, h)))

-- the same bits are the same marks
same-bits : (i k w w' : ℕ) → ((m : ℕ) → i ≤ m → m < i + k → bit_at w' m ≡ bit_at w m) → marks_of_bits i k w' ≡ marks_of_bits i k w
same-bits i zero w w' same = refl
same-bits i (suc k) w w' same =
    let head : bit_at w' i ≡ bit_at w i = same i (omega arith) (omega arith) in
    let rest = same-bits (suc i) k w w' (λ m a b. same m (omega arith) (omega arith)) in
    rw (head, rest) refl

-- one bit was changed
changed-bits : (i k j w w' : ℕ) (b : Bool) → j < k → is_one (bit_at w' (i + j)) ≡ b → ((m : ℕ) → m < i + k → m ≢ i + j → bit_at w' m ≡ bit_at w m)
    → marks_of_bits i k w' ≡ set (marks_of_bits i k w) j b
changed-bits i zero j w w' b h here same = absurd (omega (arith, h))
changed-bits i (suc k) zero w w' b h here same =
    let e : i + 0 ≡ i = omega arith in
    let head : is_one (bit_at w' i) ≡ b = ap (λ n. is_one (bit_at w' n)) (sym e) ∙ here in
    let rest = same-bits (suc i) k w w' (λ m a c. same m (omega arith) (λ is. omega (arith, is))) in
    rw (head, rest) refl
changed-bits i (suc k) (suc j) w w' b h here same =
    let e : i + suc j ≡ suc i + j = omega arith in
    let head : bit_at w' i ≡ bit_at w i = same i (omega arith) (λ is. omega (arith, is)) in
    let rest = changed-bits (suc i) k j w w' b (omega (arith, h)) (ap (λ n. is_one (bit_at w' n)) (sym e) ∙ here) (λ m a other. same m (omega arith) (λ is. other (is ∙ e))) in
    rw (head, rest) refl

pub length-word_marks : (w : ℕ) → length (word_marks w) ≡ 64
unfolding word_marks
length-word_marks w = length-marks_of_bits 0 64 w

pub mark_of_word : (w j : ℕ) → j < 64 → slice_index_or (word_marks w) j false ≡ is_one (bit_at w j)
unfolding word_marks
mark_of_word w j h = let e : 0 + j ≡ j = omega arith in mark_of_bit 0 64 j w h ∙ ap (λ n. is_one (bit_at w n)) e

pub changed-word : (j w w' : ℕ) (b : Bool) → j < 64 → is_one (bit_at w' j) ≡ b → ((m : ℕ) → m < 64 → m ≢ j → bit_at w' m ≡ bit_at w m)
    → word_marks w' ≡ set (word_marks w) j b
unfolding word_marks
changed-word j w w' b h here same =
    let e : 0 + j ≡ j = omega arith in
    changed-bits 0 64 j w w' b h (ap (λ n. is_one (bit_at w' n)) e ∙ here) (λ m below other. same m below (λ is. other (is ∙ sym e)))

-- ---- marks and the numbers that they are of

pub none-out : (n : ℕ) (bs : List Bool) → AreOut bs → numbers_from n bs ≡ []
none-out n [] out = refl
none-out n (true ∷ bs) out = absurd (true≢false out.0)
none-out n (false ∷ bs) out = none-out (suc n) bs out.1

zero-bits : (i k : ℕ) → AreOut (marks_of_bits i k 0)
zero-bits i zero = tt
zero-bits i (suc k) = (ap is_one (bit_at-zero i), zero-bits (suc i) k)

pub zero-word : AreOut (word_marks 0)
unfolding word_marks
zero-word = zero-bits 0 64

-- the first mark of one that is in
pub first-in : (n t : ℕ) (bs : List Bool) → slice_index_or bs t false ≡ true → ((j : ℕ) → j < t → slice_index_or bs j false ≡ false)
    → numbers_from n bs ≡ (n + t) ∷ numbers_from n (set bs t false)
first-in n t [] here before = absurd (true≢false (sym here))
first-in n zero (b ∷ bs) here before =
    let e : n + 0 ≡ n = omega arith in rw (here, e) refl
first-in n (suc t) (b ∷ bs) here before =
    let head : b ≡ false = before 0 (omega arith) in
    let e : n + suc t ≡ suc n + t = omega arith in
    rw (head, e) (first-in (suc n) t bs here (λ j below. before (suc j) (omega (arith, below))))

-- the lowest bit of a word that has some
pub record IsLowest (w : ℕ) : Type 0 where
  pub within : trailing_zeros w64 w < 64
  pub first : numbers_from 0 (word_marks w) ≡ trailing_zeros w64 w ∷ numbers_from 0 (set (word_marks w) (trailing_zeros w64 w) false)

no_bits : (w : ℕ) → w ≡ 0 → count_set w ≡ 0
no_bits w is = rw is (ap length (none-out 0 (word_marks 0) zero-word))

pub lowest-is : (w : ℕ) → w < 2 ^ 64 → 0 < count_set w → IsLowest w
lowest-is zero small some = absurd (omega (arith, some, no_bits 0 refl))
lowest-is (suc v) small some =
    let w = suc v in
    let t = trailing_zeros w64 w in
    let at = bit_at-trailing_zeros w64 w (omega arith) small in
    record {
      within = at.0;
      first = let e : 0 + t ≡ t = omega arith in first-in 0 t (word_marks w) (mark_of_word w t at.0 ∙ ap is_one at.1)
          (λ j below. mark_of_word w j (omega (arith, at.0, below)) ∙ ap is_one (at.2 j below)) ∙ ap (λ n. n ∷ numbers_from 0 (set (word_marks w) t false)) e;
    }

pub lowest-first : (w : ℕ) → w < 2 ^ 64 → 0 < count_set w → slice_get (numbers_from 0 (word_marks w)) 0 ≡ Some (trailing_zeros w64 w)
lowest-first w small some = ap (λ ns. slice_get ns 0) (lowest-is w small some).first

pub behind-lowest : (w w' : ℕ) → w < 2 ^ 64 → 0 < count_set w → word_marks w' ≡ set (word_marks w) (trailing_zeros w64 w) false
    → numbers_from 0 (word_marks w) ≡ trailing_zeros w64 w ∷ numbers_from 0 (word_marks w')
behind-lowest w w' small some is = (lowest-is w small some).first ∙ ap (λ bs. trailing_zeros w64 w ∷ numbers_from 0 bs) (sym is)

pub next-behind : (ns ms : List ℕ) (t before r : ℕ) → ns ≡ t ∷ ms → 0 < before → slice_get ms (before - 1) ≡ Some r → slice_get ns before ≡ Some r
next-behind ns ms t zero r is some here = absurd (omega (arith, some))
next-behind ns ms t (suc b) r is some here = let e : suc b - 1 ≡ b = omega arith in ap (λ xs. slice_get xs (suc b)) is ∙ (rw e at here)
