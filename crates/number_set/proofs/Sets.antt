-- What a set is after one of its marks was changed.
use Rattle.std.proofs.Common.{◌≡◌, ℕ, zero, suc, ◌+◌, ◌-◌, ◌*◌, ◌/◌, ◌%◌, ◌<◌, ◌≤◌, List, [], ◌∷◌, ◌++◌, Bool, true, false, length, map, set, take, drop, IsTrue, slice_index, slice_index_or, nat_le, nat_lt, ◌&&◌, refl, sym, ap, ◌∙◌, arith, true≢false}
use Rattle.std.proofs.Math.Seq.{take-set-lt}
use Rattle.std.proofs.lemmas.List.{get_or_append_left, get_or-append_right, get_or-take, set-append_left, set-append_right, drop-set-lt, length-append, length-take-le, take-append-drop}
use Rattle.number_set.specs.Levels.{half, total, HasPlace, HasOne, one_more, one_less, lowest}
use Rattle.number_set.specs.Numbers.{Marked, HasRoom, numbers_from, is_in, with_mark}
use Rattle.number_set.specs.Words.{word_marks, marks_of, count_set, AreOut, AreWords}
use Rattle.number_set.proofs.Bits.{length-word_marks, none-out}
use Rattle.number_set.proofs.Sums.{has_place, has_one, sums-more, sums-less, length-set}

-- ---- a list that was written through a slice of all of it

pub written_all : {X : Type 0} (n : ℕ) (new old : List X) → length new ≡ n → length old ≡ n → take n (new ++ drop (length new) old) ≡ new
written_all zero [] [] p q = refl
written_all zero [] (y ∷ old) p q = refl
written_all zero (x ∷ new) old p q = absurd (omega (arith, p))
written_all (suc n) [] old p q = absurd (omega (arith, p))
written_all (suc n) (x ∷ new) [] p q = absurd (omega (arith, q))
written_all (suc n) (x ∷ new) (y ∷ old) p q = ap (λ xs. x ∷ xs) (written_all n new old (omega (arith, p)) (omega (arith, q)))

pub length-mapped : {X : Type 0} (f : X → List ℕ) (xs : List X) → length (map f xs) ≡ length xs
length-mapped f [] = refl
length-mapped f (x ∷ xs) = omega (arith, length-mapped f xs)

-- the levels of what was written through a slice of all of them
pub written : {X : Type 0} (f : X → List ℕ) (n : ℕ) (new old : List X) (ls : List (List ℕ)) → map f new ≡ ls → length ls ≡ length (map f old) → length old ≡ n
    → map f (take n (new ++ drop (length new) old)) ≡ ls
written f n new old ls is same all =
    ap (map f) (written_all n new old (omega (arith, ap length is, same, all, length-mapped f new, length-mapped f old)) all) ∙ is

pub length-one_more : (i : ℕ) (ls : List (List ℕ)) → length (one_more i ls) ≡ length ls
length-one_more i [] = refl
length-one_more i (l ∷ ls) = omega (arith, length-one_more (half i) ls)

pub length-one_less : (i : ℕ) (ls : List (List ℕ)) → length (one_less i ls) ≡ length ls
length-one_less i [] = refl
length-one_less i (l ∷ ls) = omega (arith, length-one_less (half i) ls)

-- ---- marks, and how many of them are of numbers that are in

total-more : (i : ℕ) (xs : List ℕ) → i < length xs → total (set xs i (slice_index xs i + 1)) ≡ total xs + 1
total-more i [] h = absurd (omega (arith, h))
total-more zero (x ∷ xs) h = omega arith
total-more (suc i) (x ∷ xs) h = omega (arith, total-more i xs (omega (arith, h)))

total-less : (i : ℕ) (xs : List ℕ) → 0 < slice_index xs i → total (set xs i (slice_index xs i - 1)) + 1 ≡ total xs
total-less i [] h = absurd (omega (arith, h))
total-less zero (x ∷ xs) h = omega (arith, h)
total-less (suc i) (x ∷ xs) h = omega (arith, total-less i xs h)

within-positive : (i : ℕ) (xs : List ℕ) → 0 < slice_index xs i → i < length xs
within-positive i [] h = absurd (omega (arith, h))
within-positive zero (x ∷ xs) h = omega arith
within-positive (suc i) (x ∷ xs) h = omega (arith, within-positive i xs h)

-- a mark that isn't there may be taken away
pub unmarked : (i : ℕ) (bs : List Bool) → slice_index_or bs i false ≡ false → set bs i false ≡ bs
unmarked i [] p = refl
unmarked zero (b ∷ bs) p = ap (λ a. a ∷ bs) (sym p)
unmarked (suc i) (b ∷ bs) p = ap (λ cs. b ∷ cs) (unmarked i bs p)

pub numbers-append : (n : ℕ) (xs ys : List Bool) → numbers_from n (xs ++ ys) ≡ numbers_from n xs ++ numbers_from (n + length xs) ys
numbers-append n [] ys = let e : n + 0 ≡ n = omega arith in rw e refl
numbers-append n (true ∷ xs) ys = let e : n + suc (length xs) ≡ suc n + length xs = omega arith in rw e (ap (λ ns. n ∷ ns) (numbers-append (suc n) xs ys))
numbers-append n (false ∷ xs) ys = let e : n + suc (length xs) ≡ suc n + length xs = omega arith in rw e (numbers-append (suc n) xs ys)

pub same-count : (n m : ℕ) (bs : List Bool) → length (numbers_from n bs) ≡ length (numbers_from m bs)
same-count n m [] = refl
same-count n m (true ∷ bs) = omega (arith, same-count (suc n) (suc m) bs)
same-count n m (false ∷ bs) = same-count (suc n) (suc m) bs

few-numbers : (n : ℕ) (bs : List Bool) → length (numbers_from n bs) ≤ length bs
few-numbers n [] = omega arith
few-numbers n (true ∷ bs) = omega (arith, few-numbers (suc n) bs)
few-numbers n (false ∷ bs) = omega (arith, few-numbers (suc n) bs)

count-more : (n i : ℕ) (bs : List Bool) → i < length bs → slice_index_or bs i false ≡ false → length (numbers_from n (set bs i true)) ≡ length (numbers_from n bs) + 1
count-more n i [] h p = absurd (omega (arith, h))
count-more n zero (true ∷ bs) h p = absurd (true≢false p)
count-more n zero (false ∷ bs) h p = omega arith
count-more n (suc i) (true ∷ bs) h p = omega (arith, count-more (suc n) i bs (omega (arith, h)) p)
count-more n (suc i) (false ∷ bs) h p = count-more (suc n) i bs (omega (arith, h)) p

count-less : (n i : ℕ) (bs : List Bool) → slice_index_or bs i false ≡ true → length (numbers_from n (set bs i false)) + 1 ≡ length (numbers_from n bs)
count-less n i [] p = absurd (true≢false (sym p))
count-less n zero (true ∷ bs) p = omega arith
count-less n zero (false ∷ bs) p = absurd (true≢false (sym p))
count-less n (suc i) (true ∷ bs) p = omega (arith, count-less (suc n) i bs p)
count-less n (suc i) (false ∷ bs) p = count-less (suc n) i bs p

pub few-in-word : (w : ℕ) → count_set w ≤ 64
few-in-word w = omega (arith, few-numbers 0 (word_marks w), length-word_marks w)

-- ---- the marks of words

pub length-marks_of : (ws : List ℕ) → length (marks_of ws) ≡ 64 * length ws
length-marks_of [] = refl
length-marks_of (w ∷ ws) = omega (arith, length-append (word_marks w) (marks_of ws), length-word_marks w, length-marks_of ws)

pub mark-in-word : (ws : List ℕ) (k j : ℕ) → k < length ws → j < 64 → slice_index_or (marks_of ws) (64 * k + j) false ≡ slice_index_or (word_marks (slice_index ws k)) j false
mark-in-word [] k j h p = absurd (omega (arith, h))
mark-in-word (w ∷ ws) zero j h p =
    let e : 64 * 0 + j ≡ j = omega arith in
    ap (λ i. slice_index_or (word_marks w ++ marks_of ws) i false) e ∙ get_or_append_left (word_marks w) (marks_of ws) false j (omega (arith, p, length-word_marks w))
mark-in-word (w ∷ ws) (suc k) j h p =
    let long = length-word_marks w in
    let e : 64 * suc k + j - 64 ≡ 64 * k + j = omega arith in
    get_or-append_right (word_marks w) (marks_of ws) 64 (64 * suc k + j) false long (omega arith)
    ∙ ap (λ i. slice_index_or (marks_of ws) i false) e ∙ mark-in-word ws k j (omega (arith, h)) p

pub word-changed : (ws : List ℕ) (k j w' : ℕ) (b : Bool) → k < length ws → j < 64 → word_marks w' ≡ set (word_marks (slice_index ws k)) j b
    → marks_of (set ws k w') ≡ set (marks_of ws) (64 * k + j) b
word-changed [] k j w' b h p is = absurd (omega (arith, h))
word-changed (w ∷ ws) zero j w' b h p is =
    let e : 64 * 0 + j ≡ j = omega arith in
    ap (λ ms. ms ++ marks_of ws) is ∙ sym (set-append_left (word_marks w) (marks_of ws) j b (omega (arith, p, length-word_marks w)))
    ∙ ap (λ i. set (word_marks w ++ marks_of ws) i b) (sym e)
word-changed (w ∷ ws) (suc k) j w' b h p is =
    let e : 64 * suc k + j - 64 ≡ 64 * k + j = omega arith in
    ap (λ ms. word_marks w ++ ms) (word-changed ws k j w' b (omega (arith, h)) p is ∙ ap (λ i. set (marks_of ws) i b) (sym e))
    ∙ sym (set-append_right (word_marks w) (marks_of ws) 64 (64 * suc k + j) b (length-word_marks w) (omega arith))

pub count-in-word : (ws : List ℕ) (k : ℕ) → k < length ws → slice_index (map count_set ws) k ≡ count_set (slice_index ws k)
count-in-word [] k h = absurd (omega (arith, h))
count-in-word (w ∷ ws) zero h = refl
count-in-word (w ∷ ws) (suc k) h = count-in-word ws k (omega (arith, h))

counts-set : (ws : List ℕ) (k w : ℕ) → map count_set (set ws k w) ≡ set (map count_set ws) k (count_set w)
counts-set [] k w = refl
counts-set (v ∷ ws) zero w = refl
counts-set (v ∷ ws) (suc k) w = ap (λ ns. count_set v ∷ ns) (counts-set ws k w)

pub counts-length : (ws : List ℕ) → length (map count_set ws) ≡ length ws
counts-length [] = refl
counts-length (w ∷ ws) = omega (arith, counts-length ws)

pub counts-few : (ws : List ℕ) → total (map count_set ws) ≤ 64 * length ws
counts-few [] = omega arith
counts-few (w ∷ ws) = omega (arith, few-in-word w, counts-few ws)

pub counts-total : (n : ℕ) (ws : List ℕ) → length (numbers_from n (marks_of ws)) ≡ total (map count_set ws)
counts-total n [] = refl
counts-total n (w ∷ ws) = omega (
  arith,
  ap length (numbers-append n (word_marks w) (marks_of ws)),
  length-append (numbers_from n (word_marks w)) (numbers_from (n + length (word_marks w)) (marks_of ws)),
  same-count n 0 (word_marks w),
  counts-total (n + length (word_marks w)) ws,
)

-- what stands behind the room counts for nothing
pub numbers-in-room : (n room : ℕ) (ms : List Bool) → AreOut (drop room ms) → numbers_from n (take room ms) ≡ numbers_from n ms
numbers-in-room n room ms out =
    sym (
    ap (numbers_from n) (sym (take-append-drop room ms)) ∙ numbers-append n (take room ms) (drop room ms)
    ∙ ap (λ ns. numbers_from n (take room ms) ++ ns) (none-out (n + length (take room ms)) (drop room ms) out)
    ∙ append-nil (numbers_from n (take room ms))
    )
  where
    append-nil : (xs : List ℕ) → xs ++ [] ≡ xs
    append-nil [] = refl
    append-nil (x ∷ xs) = ap (λ ys. x ∷ ys) (append-nil xs)

-- ---- a place in the room

-- where a mark stands
pub record IsPlace (room : ℕ) (ws : List ℕ) (p : ℕ) : Type 0 where
  pub word : p / 64 < length ws
  pub bit : p % 64 < 64
  pub whole : 64 * (p / 64) + p % 64 ≡ p

pub place-is : (first room len p : ℕ) (ws : List ℕ) (ls : List (List ℕ)) → AreWords first room len ws ls → p < room → IsPlace room ws p
place-is first room len p ws ls is h = record { word = omega (arith, is.enough, h); bit = omega arith; whole = omega arith }

pub mark-at : (first room len p : ℕ) (ws : List ℕ) (ls : List (List ℕ)) → AreWords first room len ws ls → p < room
    → slice_index_or (take room (marks_of ws)) p false ≡ slice_index_or (word_marks (slice_index ws (p / 64))) (p % 64) false
mark-at first room len p ws ls is h =
    let place = place-is first room len p ws ls is h in
    get_or-take room (marks_of ws) p false h ∙ ap (λ i. slice_index_or (marks_of ws) i false) (sym place.whole) ∙ mark-in-word ws (p / 64) (p % 64) place.word place.bit

pub place_in : (first room len k : ℕ) (ws : List ℕ) (ls : List (List ℕ)) → AreWords first room len ws ls → k < length ws → HasPlace k ls
place_in first room len k ws [] is h = tt
place_in first room len k ws (l ∷ ls) is h =
    has_place k l ls is.sums (omega (arith, h, ap length is.counts, counts-length ws)) (omega (arith, ap total is.counts, counts-few ws, is.few))

pub one_in : (first room len k : ℕ) (ws : List ℕ) (ls : List (List ℕ)) → AreWords first room len ws ls → 0 < slice_index (map count_set ws) k → HasOne k ls
one_in first room len k ws [] is h = tt
one_in first room len k ws (l ∷ ls) is h =
    let some : 0 < slice_index l k = rw is.counts h in has_one k l ls is.sums (within-positive k l some) some

lowest-more : (k : ℕ) (ls : List (List ℕ)) → lowest (one_more k ls) ≡ set (lowest ls) k (slice_index (lowest ls) k + 1)
lowest-more k [] = refl
lowest-more k (l ∷ ls) = refl

lowest-less : (k : ℕ) (ls : List (List ℕ)) → lowest (one_less k ls) ≡ set (lowest ls) k (slice_index (lowest ls) k - 1)
lowest-less k [] = refl
lowest-less k (l ∷ ls) = refl

-- ---- one more, one less

-- what a set is once the mark at a place was changed
pub record IsChanged (first room len p w' : ℕ) (b : Bool) (ws : List ℕ) (ls : List (List ℕ)) : Type 0 where
  pub still : AreWords first room len (set ws (p / 64) w') ls
  pub marks : take room (marks_of (set ws (p / 64) w')) ≡ set (take room (marks_of ws)) p b

marks-changed : (first room len p w' : ℕ) (b : Bool) (ws : List ℕ) (ls : List (List ℕ)) → AreWords first room len ws ls → p < room
    → word_marks w' ≡ set (word_marks (slice_index ws (p / 64))) (p % 64) b → marks_of (set ws (p / 64) w') ≡ set (marks_of ws) p b
marks-changed first room len p w' b ws ls is h new =
    let place = place-is first room len p ws ls is h in
    word-changed ws (p / 64) (p % 64) w' b place.word place.bit new ∙ ap (λ i. set (marks_of ws) i b) place.whole

pub words-more : (first room len p w' : ℕ) (ws : List ℕ) (ls : List (List ℕ)) → AreWords first room len ws ls → p < room
    → word_marks w' ≡ set (word_marks (slice_index ws (p / 64))) (p % 64) true → slice_index_or (take room (marks_of ws)) p false ≡ false
    → IsChanged first room (len + 1) p w' true ws (one_more (p / 64) ls)
words-more first room len p w' ws ls is h new none =
    let place = place-is first room len p ws ls is h in
    let k = p / 64 in
    let marks = marks-changed first room len p w' true ws ls is h new in
    let more : count_set w' ≡ count_set (slice_index ws k) + 1 =
    ap (λ ms. length (numbers_from 0 ms)) new
    ∙ count-more 0 (p % 64) (word_marks (slice_index ws k)) (omega (arith, length-word_marks (slice_index ws k), place.bit)) (sym (mark-at first room len p ws ls is h) ∙ none) in
    let counts : lowest (one_more k ls) ≡ map count_set (set ws k w') =
    lowest-more k ls ∙ rw (is.counts, counts-set ws k w', more, count-in-word ws k place.word) refl in
    record {
      still = record {
        end = is.end;
        enough = omega (arith, is.enough, length-set k w' ws);
        few = omega (arith, is.few, length-set k w' ws);
        others = rw (marks, drop-set-lt room (marks_of ws) p true h) is.others;
        sums = sums-more k ls is.sums (place_in first room len k ws ls is place.word);
        counts = counts;
        counted = omega (arith, is.counted, ap total (lowest-more k ls), total-more k (lowest ls) (omega (arith, place.word, ap length is.counts, counts-length ws)));
      };
      marks = ap (take room) marks ∙ take-set-lt room (marks_of ws) p true h;
    }

pub words-less : (first room len p w' : ℕ) (ws : List ℕ) (ls : List (List ℕ)) → AreWords first room len ws ls → p < room
    → word_marks w' ≡ set (word_marks (slice_index ws (p / 64))) (p % 64) false → slice_index_or (take room (marks_of ws)) p false ≡ true
    → (1 ≤ len) × HasOne (p / 64) ls × IsChanged first room (len - 1) p w' false ws (one_less (p / 64) ls)
words-less first room len p w' ws ls is h new one =
    let place = place-is first room len p ws ls is h in
    let k = p / 64 in
    let marks = marks-changed first room len p w' false ws ls is h new in
    let less : length (numbers_from 0 (set (word_marks (slice_index ws k)) (p % 64) false)) + 1 ≡ count_set (slice_index ws k) =
    count-less 0 (p % 64) (word_marks (slice_index ws k)) (sym (mark-at first room len p ws ls is h) ∙ one) in
    let now : count_set w' ≡ count_set (slice_index ws k) - 1 = omega (arith, less, ap (λ ms. length (numbers_from 0 ms)) new) in
    let some : 0 < slice_index (map count_set ws) k = omega (arith, less, count-in-word ws k place.word) in
    let counts : lowest (one_less k ls) ≡ map count_set (set ws k w') =
    lowest-less k ls ∙ rw (is.counts, counts-set ws k w', now, count-in-word ws k place.word) refl in
    let total-one : total (lowest (one_less k ls)) + 1 ≡ total (lowest ls) =
    ap (λ ns. total ns + 1) (lowest-less k ls) ∙ total-less k (lowest ls) (rw is.counts some) in
    let has = one_in first room len k ws ls is some in (
      omega (arith, is.counted, total-one),
      has,
      record {
        still = record {
          end = is.end;
          enough = omega (arith, is.enough, length-set k w' ws);
          few = omega (arith, is.few, length-set k w' ws);
          others = rw (marks, drop-set-lt room (marks_of ws) p false h) is.others;
          sums = sums-less k ls is.sums has;
          counts = counts;
          counted = omega (arith, is.counted, total-one);
        };
        marks = ap (take room) marks ∙ take-set-lt room (marks_of ws) p false h;
      },
    )

pub few_in : (first room len : ℕ) (ws : List ℕ) (ls : List (List ℕ)) → AreWords first room len ws ls → len ≤ 64000064
few_in first room len ws ls is = omega (arith, is.counted, ap total is.counts, counts-few ws, is.few)

pub len-is : (first room len : ℕ) (ws : List ℕ) (ls : List (List ℕ)) → AreWords first room len ws ls → len ≡ length (numbers_from first (take room (marks_of ws)))
len-is first room len ws ls is =
    is.counted ∙ ap total is.counts ∙ sym (counts-total first ws) ∙ ap length (sym (numbers-in-room first room (marks_of ws) is.others))

pub length-room : (first room len : ℕ) (ws : List ℕ) (ls : List (List ℕ)) → AreWords first room len ws ls → length (take room (marks_of ws)) ≡ room
length-room first room len ws ls is = length-take-le room (marks_of ws) (omega (arith, is.enough, length-marks_of ws))

-- ---- whether a number is in

pub at_least : (a b : ℕ) → a ≤ b → nat_le a b ≡ true
at_least a b h = grind (arith, h)

pub absent : (first n : ℕ) (marks : List Bool) → first ≤ n → is_in (record { first = first; marks = marks }) n ≡ false → slice_index_or marks (n - first) false ≡ false
absent first n marks h p = sym (ap (λ b. b && slice_index_or marks (n - first) false) (at_least first n h)) ∙ p

both : (a b : Bool) → (a && b) ≡ true → (a ≡ true) × (b ≡ true)
both true b p = (refl, p)
both false b p = absurd (true≢false (sym p))

pub present : (first n : ℕ) (marks : List Bool) → is_in (record { first = first; marks = marks }) n ≡ true → (nat_le first n ≡ true) × (slice_index_or marks (n - first) false ≡ true)
present first n marks p = both (nat_le first n) (slice_index_or marks (n - first) false) p

-- what marking a number that is within does
pub with_mark-is : (mark : Bool) (n first : ℕ) (marks : List Bool) → nat_le first n ≡ true
    → record { first = first; marks = set marks (n - first) mark } ≡ with_mark mark n (record { first = first; marks = marks })
with_mark-is mark n first marks h = rw h refl

without : (b : Bool) (s : Marked) (n : ℕ) → nat_le s.first n ≡ b → is_in s n ≡ false → with_mark false n s ≡ s
without true s n h p =
    rw h (ap (λ marks. record { first = s.first; marks = marks }) (unmarked (n - s.first) s.marks (sym (ap (λ b. b && slice_index_or s.marks (n - s.first) false) h) ∙ p)))
without false s n h p = rw h refl

-- a number that isn't in needs not be taken out
pub not_in : (s : Marked) (n : ℕ) → is_in s n ≡ false → with_mark false n s ≡ s
not_in s n p = without (nat_le s.first n) s n refl p

pub is-in : (first n : ℕ) (marks : List Bool) → first ≤ n → slice_index_or marks (n - first) false ≡ is_in (record { first = first; marks = marks }) n
is-in first n marks h = ap (λ b. b && slice_index_or marks (n - first) false) (sym (at_least first n h))

-- a word that was read at a place
pub word-read : (ws : List ℕ) (k w : ℕ) → k < length ws → w ≡ slice_index_or ws k w → w ≡ slice_index ws k
word-read [] k w h is = absurd (omega (arith, h))
word-read (v ∷ ws) zero w h is = is
word-read (v ∷ ws) (suc k) w h is = word-read ws k w (omega (arith, h)) is

-- a number that is in has room
pub room-of : (s : Marked) (n : ℕ) → is_in s n ≡ true → HasRoom s n
room-of s n here =
    let is = present s.first n s.marks here in
    let first : s.first ≤ n = grind (arith, is.0) in
    let within : n - s.first < length s.marks = some-mark s.marks (n - s.first) is.1 in
    (first, omega (arith, within, first))
  where
    some-mark : (marks : List Bool) (i : ℕ) → slice_index_or marks i false ≡ true → i < length marks
    some-mark [] i p = absurd (true≢false (sym p))
    some-mark (m ∷ marks) zero p = omega arith
    some-mark (m ∷ marks) (suc i) p = omega (arith, some-mark marks i p)

pub room-told : (s : Marked) (n room : ℕ) → length s.marks ≡ room → s.first ≤ n → (IsTrue (nat_lt (n - s.first) room) → HasRoom s n) × (HasRoom s n → IsTrue (nat_lt (n - s.first) room))
room-told s n room long first = (λ told. let within : n - s.first < room = grind (arith, told) in (first, omega (arith, within, long, first)), λ has. let within : n - s.first < room = omega (arith, has.1, long, first) in grind (arith, within))
