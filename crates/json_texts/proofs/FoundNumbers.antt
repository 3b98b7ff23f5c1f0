-- Numbers are found to their ends. Each part of the grammar does the same with what ends a number behind its own text.
use Rattle.std.proofs.Common.{◌≡◌, ℕ, suc, ◌+◌, ◌-◌, ◌<◌, ◌≤◌, Bool, true, false, cond, ◌||◌, ◌==◌, List, [], ◌∷◌, ◌++◌, length, take, drop, get_or, Option, Some, None, IfSome, is_some, unwrap_or, option_and_then, inl, inr, ◌⊎◌, refl, sym, ap, ap₂, ◌∙◌, subst, arith, length-append, length-drop, drop-drop, get_or-drop}
use Rattle.std.proofs.lemmas.Bool.{and_parts, leb-true, true≢false, false≢true, eqb-true, ne_eqb, or_cases, not-true, cases_Bool}
use Rattle.std.proofs.lemmas.List.{take_at}
use Rattle.std.specs.List.{prefix_len}
use Rattle.std.specs.Char.{is_ascii_digit}
use Rattle.json.specs.Word.{head, after_digits, after_minus, after_sign, after_whole, after_fraction, after_exponent, after_number}
use Rattle.json.specs.Print.{IsNumber}
use Rattle.json_texts.specs.Found.{is_of_number, ends_number, after_natural, FindsNumber}
use Rattle.json_texts.proofs.FoundStrings.{first_is}

-- ---- what ends a number

abbrev run : List ℕ → ℕ
run t = prefix_len is_of_number t

digit_is : (x : ℕ) → is_ascii_digit x ≡ true → is_of_number x ≡ true
digit_is x is = ap (λ d. d || (x == 45) || (x == 43) || (x == 46) || (x == 101) || (x == 69)) is

no_digit_is : (x : ℕ) → is_of_number x ≡ false → is_ascii_digit x ≡ false
no_digit_is x is = go (cases_Bool (is_ascii_digit x))
  where
    go : (is_ascii_digit x ≡ true) ⊎ (is_ascii_digit x ≡ false) → is_ascii_digit x ≡ false
    go (inl digit) = absurd (true≢false (sym (digit_is x digit) ∙ is))
    go (inr other) = other

head_ends : (rest : List ℕ) → ends_number rest ≡ true → is_of_number (head rest) ≡ false
head_ends [] ended = refl
head_ends (x ∷ xs) ended = not-true _ ended

run_none : (t : List ℕ) → is_of_number (get_or t 0 0) ≡ false → run t ≡ 0
run_none [] other = refl
run_none (x ∷ xs) other = ap (λ b. cond b (1 + run xs) 0) other

no_digits : (rest : List ℕ) → ends_number rest ≡ true → prefix_len is_ascii_digit rest ≡ 0
no_digits [] ended = refl
no_digits (x ∷ xs) ended = ap (λ b. cond b (1 + prefix_len is_ascii_digit xs) 0) (no_digit_is x (not-true _ ended))

-- ---- a number with what ends it

module _ (rest : List ℕ) (ended : ends_number rest ≡ true) where
  -- what stands between t and r is of a number
  abbrev Skips : List ℕ → List ℕ → Type 0
  Skips t r = run (t ++ rest) + length r ≡ length t + run (r ++ rest)

  -- o is what a part leaves of t, and p what it leaves of t with the rest
  abbrev Extends : List ℕ → Option (List ℕ) → Option (List ℕ) → Type 0
  Extends t None p = p ≡ None
  Extends t (Some r) p = (p ≡ Some (r ++ rest)) × Skips t r

  same_test : (c : ℕ) (t : List ℕ) → is_of_number c ≡ true → (head (t ++ rest) == c) ≡ (head t == c)
  same_test c [] is =
      ne_eqb (head rest) c (λ e. true≢false (sym is ∙ ap is_of_number (sym e) ∙ head_ends rest ended))
      ∙ sym (ne_eqb 32 c (λ e. true≢false (sym is ∙ ap is_of_number (sym e))))
  same_test c (x ∷ xs) is = refl

  one_byte : (x : ℕ) (xs : List ℕ) → is_of_number x ≡ true → Skips (x ∷ xs) xs
  one_byte x xs is = let more : run (x ∷ (xs ++ rest)) ≡ 1 + run (xs ++ rest) = ap (λ b. cond b (1 + run (xs ++ rest)) 0) is in omega (arith, more)

  -- one byte c is passed
  one : (c : ℕ) (t : List ℕ) → is_of_number c ≡ true → (head t == c) ≡ true → (drop 1 (t ++ rest) ≡ drop 1 t ++ rest) × Skips t (drop 1 t)
  one c [] is e = absurd (true≢false (sym is ∙ ap is_of_number (sym (eqb-true 32 c e))))
  one c (x ∷ xs) is e = (refl, one_byte x xs (ap is_of_number (eqb-true x c e) ∙ is))

  either : (a b : ℕ) (t : List ℕ) → is_of_number a ≡ true → is_of_number b ≡ true → ((head t == a) ≡ true) ⊎ ((head t == b) ≡ true)
      → (drop 1 (t ++ rest) ≡ drop 1 t ++ rest) × Skips t (drop 1 t)
  either a b t p q (inl e) = one a t p e
  either a b t p q (inr e) = one b t q e

  record Digits (t : List ℕ) (n m : ℕ) : Type 0 where
    count : m ≡ n
    after : drop n (t ++ rest) ≡ drop n t ++ rest
    skips : Skips t (drop n t)

  digits_at : (d : Bool) (x : ℕ) (xs : List ℕ) (n m : ℕ) → (d ≡ true → is_of_number x ≡ true) → Digits xs n m → Digits (x ∷ xs) (cond d (1 + n) 0) (cond d (1 + m) 0)
  digits_at false x xs n m k ih = record { count = refl; after = refl; skips = omega arith }
  digits_at true x xs n m k ih =
      let e : suc n ≡ 1 + n = omega arith in
      let count = ih.count in
      let skips = ih.skips in
      let first = one_byte x xs (k refl) in
      subst (λ j. Digits (x ∷ xs) j (1 + m)) e (record { count = omega (arith, count); after = ih.after; skips = omega (arith, skips, first) })

  digit_run : (t : List ℕ) → Digits t (prefix_len is_ascii_digit t) (prefix_len is_ascii_digit (t ++ rest))
  digit_run [] = record { count = no_digits rest ended; after = refl; skips = omega arith }
  digit_run (x ∷ xs) = digits_at (is_ascii_digit x) x xs _ _ (digit_is x) (digit_run xs)

  -- both take the same side of a test
  by_test : (t : List ℕ) (b c : Bool) (x y p q : Option (List ℕ)) → c ≡ b → (b ≡ true → Extends t x p) → Extends t y q → Extends t (cond b x y) (cond c p q)
  by_test t true true x y p q e f g = f refl
  by_test t false false x y p q e f g = g
  by_test t true false x y p q e f g = absurd (false≢true e)
  by_test t false true x y p q e f g = absurd (true≢false e)

  -- a part that follows a skip from t to u
  after : (t u v : List ℕ) (f : List ℕ → Option (List ℕ)) → (v ≡ u ++ rest) × Skips t u → Extends u (f u) (f (u ++ rest)) → Extends t (f u) (f v)
  after t u v f s = go (f u)
    where
      go : (o : Option (List ℕ)) → Extends u o (f (u ++ rest)) → Extends t o (f v)
      go None h = ap f s.0 ∙ h
      go (Some r) h =
          let first = s.1 in
          let second = h.1 in
          (ap f s.0 ∙ h.0, omega (arith, first, second))

  optional : (t : List ℕ) (b c : Bool) → c ≡ b → (b ≡ true → (drop 1 (t ++ rest) ≡ drop 1 t ++ rest) × Skips t (drop 1 t))
      → (cond c (drop 1 (t ++ rest)) (t ++ rest) ≡ cond b (drop 1 t) t ++ rest) × Skips t (cond b (drop 1 t) t)
  optional t true true e f = f refl
  optional t false false e f = (refl, omega arith)
  optional t true false e f = absurd (false≢true e)
  optional t false true e f = absurd (true≢false e)

  digits : (t : List ℕ) → Extends t (after_digits t) (after_digits (t ++ rest))
  digits t =
      let d = digit_run t in
      by_test t (prefix_len is_ascii_digit t == 0) (prefix_len is_ascii_digit (t ++ rest) == 0) None _ None _ (ap (λ n. n == 0) d.count) (λ e. refl)
      (ap Some (ap (λ n. drop n (t ++ rest)) d.count ∙ d.after), d.skips)

  whole : (t : List ℕ) → Extends t (after_whole t) (after_whole (t ++ rest))
  whole t = by_test t (head t == 48) _ (Some (drop 1 t)) _ _ _ (same_test 48 t refl) (λ e. let s = one 48 t refl e in (ap Some s.0, s.1)) (digits t)

  fraction : (t : List ℕ) → Extends t (after_fraction t) (after_fraction (t ++ rest))
  fraction t =
      by_test t (head t == 46) _ _ (Some t) _ _ (same_test 46 t refl) (λ e. after t (drop 1 t) _ after_digits (one 46 t refl e) (digits (drop 1 t))) (refl, omega arith)

  signed : (t : List ℕ) → Extends t (after_digits (after_sign t)) (after_digits (after_sign (t ++ rest)))
  signed t =
      after t (after_sign t) _ after_digits
      (optional t _ _ (ap₂ (λ a b. a || b) (same_test 45 t refl) (same_test 43 t refl)) (λ e. either 45 43 t refl refl (or_cases _ _ e))) (digits (after_sign t))

  exponent : (t : List ℕ) → Extends t (after_exponent t) (after_exponent (t ++ rest))
  exponent t =
      by_test t ((head t == 101) || (head t == 69)) _ _ (Some t) _ _ (ap₂ (λ a b. a || b) (same_test 101 t refl) (same_test 69 t refl))
      (λ e. after t (drop 1 t) _ (λ u. after_digits (after_sign u)) (either 101 69 t refl refl (or_cases _ _ e)) (signed (drop 1 t))) (refl, omega arith)

  then : (t : List ℕ) (f : List ℕ → Option (List ℕ)) → ((u : List ℕ) → Extends u (f u) (f (u ++ rest))) → (o p : Option (List ℕ)) → Extends t o p
      → Extends t (option_and_then f o) (option_and_then f p)
  then t f g None p h = ap (option_and_then f) h
  then t f g (Some r) p h = subst (λ q. Extends t (f r) (option_and_then f q)) (sym h.0) (after t r (r ++ rest) f (refl, h.1) (g r))

  number : (t : List ℕ) → Extends t (after_number t) (after_number (t ++ rest))
  unfolding after_number
  number t =
      then t after_exponent exponent _ _ (then t after_fraction fraction _ _
      (after t (after_minus t) _ after_whole (optional t _ _ (same_test 45 t refl) (one 45 t refl)) (whole (after_minus t))))

  -- a number is read to its end, and none of what ends it is of it
  read : (s : List ℕ) → IsNumber s → (after_number (s ++ rest) ≡ Some rest) × (run (s ++ rest) ≡ length s)
  read s is =
      let whole : Extends s (Some []) (after_number (s ++ rest)) = subst (λ o. Extends s o (after_number (s ++ rest))) is (number s) in
      let size = whole.1 in
      let none = run_none rest (not-true _ ended) in
      (whole.0, omega (arith, size, none))

-- ---- the first byte of a number

found_some : (f : List ℕ → Option (List ℕ)) (o : Option (List ℕ)) → is_some (option_and_then f o) ≡ true → is_some o ≡ true
found_some f None h = h
found_some f (Some t) h = refl

abbrev pub begins : ℕ → Bool
begins x = is_ascii_digit x || (x == 45)

first_digit : (b : Bool) (n : ℕ) (t : List ℕ) → is_some (cond (cond b (1 + n) 0 == 0) None (Some (drop (cond b (1 + n) 0) t))) ≡ true → b ≡ true
first_digit true n t h = refl
first_digit false n t h = h

digits_first : (t : List ℕ) → is_some (after_digits t) ≡ true → is_ascii_digit (head t) ≡ true
digits_first [] h = absurd (false≢true h)
digits_first (x ∷ xs) h = first_digit (is_ascii_digit x) (prefix_len is_ascii_digit xs) (x ∷ xs) h

whole_first : (t : List ℕ) (z : Bool) → (z ≡ true → head t ≡ 48) → is_some (cond z (Some (drop 1 t)) (after_digits t)) ≡ true → is_ascii_digit (head t) ≡ true
whole_first t true e h = ap is_ascii_digit (e refl)
whole_first t false e h = digits_first t h

minus_first : (t : List ℕ) (m : Bool) → (m ≡ true → head t ≡ 45) → is_some (after_whole (cond m (drop 1 t) t)) ≡ true → begins (head t) ≡ true
minus_first t true e h = ap begins (e refl)
minus_first t false e h = ap (λ d. d || (head t == 45)) (whole_first t (head t == 48) (eqb-true (head t) 48) h)

first_byte : (s : List ℕ) → IsNumber s → begins (head s) ≡ true
unfolding after_number
first_byte s h = minus_first s (head s == 45) (eqb-true (head s) 45) (found_some after_fraction _ (found_some after_exponent _ (ap is_some h)))

pub number_first : (x : ℕ) (xs : List ℕ) → IsNumber (x ∷ xs) → begins x ≡ true
number_first x xs is = first_byte (x ∷ xs) is

pub begins_low : (x : ℕ) → begins x ≡ true → x < 58
begins_low x is = go (or_cases _ _ is)
  where
    go : (is_ascii_digit x ≡ true) ⊎ ((x == 45) ≡ true) → x < 58
    go (inl digit) = omega (arith, leb-true x 57 (and_parts _ _ digit).1)
    go (inr minus) = omega (arith, eqb-true x 45 minus)

-- where no number begins
pub no_number_found : (text : List ℕ) (from : ℕ) (found : Option ℕ) → begins (get_or text from 0) ≡ false → FindsNumber text from found
unfolding FindsNumber
no_number_found text from found none [] rest is ended stands = absurd (false≢true (first_byte [] is))
no_number_found text from found none (x ∷ xs) rest is ended stands =
    absurd (false≢true (sym none ∙ ap begins (first_is text (xs ++ rest) from x stands) ∙ first_byte (x ∷ xs) is))

-- ---- whole numbers

other_head : (t : List ℕ) (c : ℕ) → (32 == c) ≡ false → (get_or t 0 0 ≡ c → ⊥) → (head t == c) ≡ false
other_head [] c space other = space
other_head (x ∷ xs) c space other = ne_eqb x c other

minus_head : (t : List ℕ) → get_or t 0 0 ≡ 45 → (head t == 45) ≡ true
minus_head [] is = absurd (let f : 0 ≡ 45 = is in omega (arith, f))
minus_head (x ∷ xs) is = ap (λ y. y == 45) is

first_same : (text : List ℕ) (from : ℕ) → get_or (drop from text) 0 0 ≡ get_or text from 0
first_same text from = let here : from + 0 ≡ from = omega arith in get_or-drop from text 0 0 ∙ ap (λ k. get_or text k 0) here

pub signed_read : (text : List ℕ) (from : ℕ) (r : Option ℕ) → get_or text from 0 ≡ 45 → IfSome r (λ end. after_natural (drop (from + 1) text) ≡ Some (drop end text))
    → IfSome r (λ end. after_number (drop from text) ≡ Some (drop end text))
unfolding after_number
signed_read text from None minus reads = reads
signed_read text from (Some end) minus reads =
    let first : (head (drop from text) == 45) ≡ true = minus_head (drop from text) (first_same text from ∙ minus) in
    ap (λ b. after_natural (cond b (drop 1 (drop from text)) (drop from text))) first ∙ ap after_natural (drop-drop 1 from text) ∙ reads

pub unsigned_read : (text : List ℕ) (from : ℕ) (r : Option ℕ) → (get_or text from 0 ≡ 45 → ⊥) → IfSome r (λ end. after_natural (drop from text) ≡ Some (drop end text))
    → IfSome r (λ end. after_number (drop from text) ≡ Some (drop end text))
unfolding after_number
unsigned_read text from None other reads = reads
unsigned_read text from (Some end) other reads =
    ap (λ b. after_natural (cond b (drop 1 (drop from text)) (drop from text))) (other_head (drop from text) 45 refl (λ e. other (sym (first_same text from) ∙ e))) ∙ reads

pub whole_found : (text : List ℕ) (from end : ℕ) → from ≤ length text → end ≤ length text → after_number (drop from text) ≡ Some (drop end text) → FindsNumber text from (Some end)
unfolding FindsNumber
whole_found text from end low high reads s rest is ended stands =
    let behind : rest ≡ drop end text = ap (λ o. unwrap_or o []) (sym (read rest ended s is).0 ∙ ap after_number (sym stands) ∙ reads) in
    let whole : length text - from ≡ length s + length rest = sym (length-drop from text) ∙ ap length stands ∙ length-append s rest in
    let size : length rest ≡ length text - end = ap length behind ∙ length-drop end text in
    let place : end ≡ from + length s = omega (arith, low, high, whole, size) in
    ap Some place

-- a whole number without a sign
pub natural_found : (text : List ℕ) (from end : ℕ) → from ≤ length text → end ≤ length text → is_ascii_digit (get_or text from 0) ≡ true → after_natural (drop from text) ≡ Some (drop end text)
    → FindsNumber text from (Some end)
natural_found text from end low high digit reads =
    whole_found text from end low high (unsigned_read text from (Some end) (λ e. true≢false (sym digit ∙ ap is_ascii_digit e)) reads)

-- ---- any numbers

-- a run that goes on no further
pub run_over : (text : List ℕ) (from at : ℕ) → from + prefix_len is_of_number (drop from text) ≡ at + prefix_len is_of_number (drop at text) → is_of_number (get_or text at 0) ≡ false
    → at ≡ from + prefix_len is_of_number (drop from text)
run_over text from at same other =
    let none : prefix_len is_of_number (drop at text) ≡ 0 = run_none (drop at text) (ap is_of_number (first_same text at) ∙ other) in
    omega (arith, same, none)

-- the run is the number
pub run_is : (text s rest : List ℕ) (from at : ℕ) → at ≡ from + prefix_len is_of_number (drop from text) → IsNumber s → ends_number rest ≡ true → drop from text ≡ s ++ rest
    → (at ≡ from + length s) × (take (at - from) (drop from text) ≡ s)
run_is text s rest from at all is ended stands =
    let size : prefix_len is_of_number (drop from text) ≡ length s = ap (prefix_len is_of_number) stands ∙ (read rest ended s is).1 in
    let place : at ≡ from + length s = omega (arith, all, size) in
    let count : at - from ≡ length s = omega (arith, place) in
    (place, ap₂ (λ n l. take n l) count stands ∙ take_at s rest (length s) refl)

pub any_found : (text : List ℕ) (from at : ℕ) → at ≡ from + prefix_len is_of_number (drop from text) → FindsNumber text from (Some at)
unfolding FindsNumber
any_found text from at all s rest is ended stands = ap Some (run_is text s rest from at all is ended stands).0

pub no_any_found : (text : List ℕ) (from at : ℕ) (found : Option ℕ) → at ≡ from + prefix_len is_of_number (drop from text) → (IsNumber (take (at - from) (drop from text)) → ⊥) → FindsNumber text from found
unfolding FindsNumber
no_any_found text from at found all none s rest is ended stands = absurd (none (subst IsNumber (sym (run_is text s rest from at all is ended stands).1) is))
