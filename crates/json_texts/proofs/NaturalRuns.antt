-- The integers that some bytes begin with, as masks of these bytes show them.
use Rattle.std.proofs.Common.{◌≡◌, ℕ, zero, suc, ◌+◌, ◌-◌, ◌*◌, ◌/◌, ◌%◌, ◌^◌, ◌<◌, ◌≤◌, ◌⊎◌, inl, inr, min, max, Bool, true, false, not, ◌&&◌, ◌||◌, ◌==◌, cond, List, [], ◌∷◌, ◌++◌, map, length, take, drop, get_or, refl, sym, ap, ap₂, ◌∙◌, subst, arith, take-append-drop, append_assoc, eqb-true, drop-drop}
use Rattle.std.proofs.lemmas.Bool.{true≢false, false≢true, ne_eqb, eq-eqb}
use Rattle.std.proofs.lemmas.List.{length-map, drop-append-le}
use Rattle.std.proofs.lemmas.Nat.{leading_top, and_le_l, le-div, div_below, pow_pos}
use Rattle.std.proofs.lemmas.Simd.{bit_mask_l, mask_l-lt, chunk-drop, length-chunk, get_or-chunk}
use Rattle.std.specs.List.{prefix_len, AllByRecursion}
use Rattle.std.specs.Char.{is_ascii_digit}
use lib.Bits.{bit_and, bit_or, bit_xor, and_step, or_step, xor_step, differ, xor_self, and_zero_r}
use lib.Count.{count_leading_zeros, leading_of_zero}
use Rattle.std.proofs.Math.Nat.{pow-suc}
use lib.Lanes.{mask_l, chunk}
use Rattle.json.specs.Print.{IsNumber}
use Rattle.json_texts.specs.Naturals.{with_commas, HasNumberItems, HasLastNumbers}
use Rattle.json_texts.specs.Standing.{Stands}
use Rattle.json_texts.proofs.Placed.{stands_behind, stands_byte, part_stands}
use Rattle.json_texts.proofs.Whole.{digits_are_number}

-- ---- the lowest bit of a mask, and the others

abbrev bit : Bool → ℕ → ℕ
bit b n = cond b 1 0 + 2 * n

abbrev differs : Bool → Bool → Bool
differs a b = cond a (not b) b

low : (b : Bool) (n : ℕ) → bit b n % 2 ≡ cond b 1 0
low true n = omega arith
low false n = omega arith

high : (b : Bool) (n : ℕ) → bit b n / 2 ≡ n
high true n = omega arith
high false n = omega arith

and-bit : (a b : Bool) (m n : ℕ) → bit_and (bit a m) (bit b n) ≡ bit (a && b) (bit_and m n)
and-bit a b m n = and_step (bit a m) (bit b n) ∙ ap₂ (λ x y. x * 2 + y) (ap₂ bit_and (high a m) (high b n)) (ap₂ min (low a m) (low b n)) ∙ shape a b (bit_and m n)
  where
    shape : (a b : Bool) (k : ℕ) → k * 2 + min (cond a 1 0) (cond b 1 0) ≡ bit (a && b) k
    shape true true k = omega arith
    shape true false k = omega arith
    shape false b k = omega arith

or-bit : (a b : Bool) (m n : ℕ) → bit_or (bit a m) (bit b n) ≡ bit (a || b) (bit_or m n)
or-bit a b m n = or_step (bit a m) (bit b n) ∙ ap₂ (λ x y. x * 2 + y) (ap₂ bit_or (high a m) (high b n)) (ap₂ max (low a m) (low b n)) ∙ shape a b (bit_or m n)
  where
    shape : (a b : Bool) (k : ℕ) → k * 2 + max (cond a 1 0) (cond b 1 0) ≡ bit (a || b) k
    shape true true k = omega arith
    shape true false k = omega arith
    shape false true k = omega arith
    shape false false k = omega arith

xor-bit : (a b : Bool) (m n : ℕ) → bit_xor (bit a m) (bit b n) ≡ bit (differs a b) (bit_xor m n)
xor-bit a b m n = xor_step (bit a m) (bit b n) ∙ ap₂ (λ x y. x * 2 + y) (ap₂ bit_xor (high a m) (high b n)) (ap₂ differ (low a m) (low b n)) ∙ shape a b (bit_xor m n)
  where
    shape : (a b : Bool) (k : ℕ) → k * 2 + differ (cond a 1 0) (cond b 1 0) ≡ bit (differs a b) k
    shape true true k = omega arith
    shape true false k = omega arith
    shape false true k = omega arith
    shape false false k = omega arith

-- ---- byte by byte, where d says that a digit comes before them

abbrev digit_first : List ℕ → Bool
digit_first xs = is_ascii_digit (get_or xs 0 0)

abbrev is_comma : Bool → ℕ → Bool
is_comma d x = (x == 44) && d

-- a comma, or the bracket that closes an array
abbrev is_end : Bool → ℕ → Bool
is_end d x = is_comma d x || ((x == 93) && d)

-- a zero that begins an integer of more digits
abbrev leads : Bool → ℕ → List ℕ → Bool
leads d x xs = differs (x == 48) ((x == 48) && d) && digit_first xs

abbrev fits : Bool → ℕ → List ℕ → Bool
fits d x xs = is_comma d x || differs (is_ascii_digit x) (leads d x xs)

abbrev places_l : ℕ → Bool → List ℕ → List Bool
places_l c d [] = []
places_l c d (x ∷ xs) = ((x == c) && d) ∷ places_l c (is_ascii_digit x) xs

abbrev ends_l : Bool → List ℕ → List Bool
ends_l d [] = []
ends_l d (x ∷ xs) = is_end d x ∷ ends_l (is_ascii_digit x) xs

abbrev leads_l : Bool → List ℕ → List Bool
leads_l d [] = []
leads_l d (x ∷ xs) = leads d x xs ∷ leads_l (is_ascii_digit x) xs

abbrev fits_l : Bool → List ℕ → List Bool
fits_l d [] = []
fits_l d (x ∷ xs) = fits d x xs ∷ fits_l (is_ascii_digit x) xs

-- the ends up to the first byte that doesn't fit
abbrev whole_l : Bool → List ℕ → List Bool
whole_l d [] = []
whole_l d (x ∷ xs) = is_end d x ∷ cond (fits d x xs) (whole_l (is_ascii_digit x) xs) []

-- ---- the masks

abbrev digit_mask : List ℕ → ℕ
digit_mask xs = mask_l (map is_ascii_digit xs)

abbrev byte_mask : ℕ → List ℕ → ℕ
byte_mask c xs = mask_l (map (λ x. x == c) xs)

places-mask : (c : ℕ) (d : Bool) (xs : List ℕ) → bit_and (byte_mask c xs) (bit d (digit_mask xs)) ≡ mask_l (places_l c d xs)
places-mask c d [] = refl
places-mask c d (x ∷ xs) = and-bit (x == c) d (byte_mask c xs) (digit_mask (x ∷ xs)) ∙ ap (bit ((x == c) && d)) (places-mask c (is_ascii_digit x) xs)

ends-mask : (d : Bool) (xs : List ℕ) → bit_or (mask_l (places_l 44 d xs)) (mask_l (places_l 93 d xs)) ≡ mask_l (ends_l d xs)
ends-mask d [] = refl
ends-mask d (x ∷ xs) =
    let g = is_ascii_digit x in
    or-bit (is_comma d x) ((x == 93) && d) (mask_l (places_l 44 g xs)) (mask_l (places_l 93 g xs)) ∙ ap (bit (is_end d x)) (ends-mask g xs)

next_digit : (xs : List ℕ) → digit_mask xs ≡ bit (digit_first xs) (digit_mask xs / 2)
next_digit [] = refl
next_digit (x ∷ xs) = ap (bit (is_ascii_digit x)) (sym (high (is_ascii_digit x) (digit_mask xs)))

leads-mask : (d : Bool) (xs : List ℕ) → bit_and (bit_xor (byte_mask 48 xs) (bit_and (byte_mask 48 xs) (bit d (digit_mask xs)))) (digit_mask xs / 2) ≡ mask_l (leads_l d xs)
leads-mask d [] = refl
leads-mask d (x ∷ xs) =
    let z = x == 48 in
    let g = is_ascii_digit x in
    let zeros = byte_mask 48 xs in
    let digits = digit_mask xs in
    ap₂ bit_and (ap (bit_xor (bit z zeros)) (and-bit z d zeros (bit g digits)) ∙ xor-bit z (z && d) zeros (bit_and zeros (bit g digits))) (high g digits ∙ next_digit xs)
    ∙ and-bit (differs z (z && d)) (digit_first xs) (bit_xor zeros (bit_and zeros (bit g digits))) (digits / 2) ∙ ap (bit (leads d x xs)) (leads-mask g xs)

fits-mask : (d : Bool) (xs : List ℕ) → bit_or (mask_l (places_l 44 d xs)) (bit_xor (digit_mask xs) (mask_l (leads_l d xs))) ≡ mask_l (fits_l d xs)
fits-mask d [] = refl
fits-mask d (x ∷ xs) =
    let g = is_ascii_digit x in
    let commas = mask_l (places_l 44 g xs) in
    let leading = mask_l (leads_l g xs) in
    ap (bit_or (bit (is_comma d x) commas)) (xor-bit g (leads d x xs) (digit_mask xs) leading)
    ∙ or-bit (is_comma d x) (differs g (leads d x xs)) commas (bit_xor (digit_mask xs) leading) ∙ ap (bit (fits d x xs)) (fits-mask g xs)

-- a number and the next share no bit up to the lowest 0 of it
turned : (f : Bool) (m : ℕ) → bit_xor (bit f m) (bit f m + 1) ≡ bit true (cond f (bit_xor m (m + 1)) 0)
turned true m =
    let next : bit true m + 1 ≡ bit false (m + 1) = omega arith in
    ap (bit_xor (bit true m)) next ∙ xor-bit true false m (m + 1)
turned false m =
    let next : bit false m + 1 ≡ bit true m = omega arith in
    ap (bit_xor (bit false m)) next ∙ xor-bit false true m m ∙ ap (bit true) (xor_self m)

with_true : (c : Bool) → (c && true) ≡ c
with_true true = refl
with_true false = refl

whole-mask : (d : Bool) (xs : List ℕ) → bit_and (mask_l (ends_l d xs)) (bit_xor (mask_l (fits_l d xs)) (mask_l (fits_l d xs) + 1)) ≡ mask_l (whole_l d xs)
whole-mask d [] = refl
whole-mask d (x ∷ xs) =
    let g = is_ascii_digit x in
    let ends = mask_l (ends_l g xs) in
    let fit = mask_l (fits_l g xs) in
    let f = fits d x xs in
    ap (bit_and (bit (is_end d x) ends)) (turned f fit) ∙ and-bit (is_end d x) true ends (cond f (bit_xor fit (fit + 1)) 0)
    ∙ ap₂ bit (with_true (is_end d x)) (others ends (bit_xor fit (fit + 1)) (whole_l g xs) f (whole-mask g xs))
  where
    others : (ends turn : ℕ) (ms : List Bool) (f : Bool) → bit_and ends turn ≡ mask_l ms → bit_and ends (cond f turn 0) ≡ mask_l (cond f ms [])
    others ends turn ms true e = e
    others ends turn ms false e = and_zero_r ends

-- ---- what they are

-- these numbers with a comma before each, and the byte behind the last of them
abbrev behind_l : ℕ → List (List ℕ) → List ℕ
behind_l close [] = close ∷ []
behind_l close (n ∷ ns) = 44 ∷ (n ++ behind_l close ns)

record Begun (d : Bool) (xs : List ℕ) (i : ℕ) : Type 0 where
  digits : List ℕ
  numbers : List (List ℕ)
  all : prefix_len is_ascii_digit digits ≡ length digits
  some : d ≡ false → 0 < length digits
  alone : d ≡ false → get_or digits 0 0 ≡ 48 → length digits ≡ 1
  are : AllByRecursion IsNumber numbers
  close : ℕ
  closes : (close ≡ 44) ⊎ (close ≡ 93)
  byte : get_or xs i 0 ≡ close
  stands : take (suc i) xs ≡ digits ++ behind_l close numbers
  inside : i < length xs

by_fit : (f : Bool) (ms : List Bool) (i : ℕ) → get_or (cond f ms []) i false ≡ true → (f ≡ true) × (get_or ms i false ≡ true)
by_fit true ms i h = (refl, h)
by_fit false ms i h = absurd (false≢true h)

-- a byte that fits and is no digit
other_fits : (c d z n : Bool) → z ≡ false → ((c && d) || differs false (differs z (z && d) && n)) ≡ true → (c ≡ true) × (d ≡ true)
other_fits c d true n none h = absurd (true≢false none)
other_fits true true false n none h = (refl, refl)
other_fits true false false n none h = absurd (false≢true h)
other_fits false d false n none h = absurd (false≢true h)

-- a digit that fits
digit_fits : (c d z n : Bool) → c ≡ false → ((c && d) || differs true (differs z (z && d) && n)) ≡ true → d ≡ false → z ≡ true → n ≡ false
digit_fits true d z n none h e f = absurd (true≢false none)
digit_fits false true z n none h e f = absurd (true≢false e)
digit_fits false false false n none h e f = absurd (false≢true f)
digit_fits false false true true none h e f = absurd (false≢true h)
digit_fits false false true false none h e f = refl

first_digit : (b : Bool) (n m : ℕ) → cond b (1 + n) 0 ≡ suc m → b ≡ true
first_digit true n m e = refl
first_digit false n m e = let f : 0 ≡ suc m = e in absurd (omega (arith, f))

-- no digit follows, so the digits end here
no_more : (xs digits more : List ℕ) (i : ℕ) → digit_first xs ≡ false → prefix_len is_ascii_digit digits ≡ length digits → take (suc i) xs ≡ digits ++ more → length digits ≡ 0
no_more xs [] more i none all stands = refl
no_more [] (y ∷ ys) more i none all stands = absurd (let f = ap length stands in omega (arith, f))
no_more (x ∷ xs) (y ∷ ys) more i none all stands =
    let same : x ≡ y = ap (λ l. get_or l 0 0) stands in
    absurd (true≢false (sym (first_digit (is_ascii_digit y) _ _ all) ∙ ap is_ascii_digit (sym same) ∙ none))

no_byte : (x c : ℕ) → (is_ascii_digit x ≡ is_ascii_digit c → ⊥) → (x == c) ≡ false
no_byte x c other = ne_eqb x c (λ e. other (ap is_ascii_digit e))

by_digit : (d : Bool) (x : ℕ) (xs : List ℕ) (i : ℕ) (b : Bool) → is_ascii_digit x ≡ b → fits d x xs ≡ true → Begun b xs i → Begun d (x ∷ xs) (suc i)
by_digit d x xs i true is fit b =
    let all = b.all in
    let inside = b.inside in
    let comma : (x == 44) ≡ false = no_byte x 44 (λ e. true≢false (sym is ∙ e)) in
    let fit_so : (is_comma d x || differs true (leads d x xs)) ≡ true = ap (λ g. is_comma d x || differs g (leads d x xs)) (sym is) ∙ fit in
    record {
      digits = x ∷ b.digits;
      numbers = b.numbers;
      all = ap (λ g. cond g (1 + prefix_len is_ascii_digit b.digits) 0) is ∙ omega (arith, all);
      some = λ e. omega arith;
      alone = λ e zero.
          let last = no_more xs b.digits (behind_l b.close b.numbers) i (digit_fits (x == 44) d (x == 48) (digit_first xs) comma fit_so e (eq-eqb x 48 zero)) b.all b.stands in
          omega (arith, last);
      are = b.are;
      close = b.close;
      closes = b.closes;
      byte = b.byte;
      stands = ap (λ l. x ∷ l) b.stands;
      inside = omega (arith, inside);
    }
by_digit d x xs i false is fit b =
    let inside = b.inside in
    let zero : (x == 48) ≡ false = no_byte x 48 (λ e. false≢true (sym is ∙ e)) in
    let fit_so : (is_comma d x || differs false (leads d x xs)) ≡ true = ap (λ g. is_comma d x || differs g (leads d x xs)) (sym is) ∙ fit in
    let both = other_fits (x == 44) d (x == 48) (digit_first xs) zero fit_so in
    record {
      digits = [];
      numbers = b.digits ∷ b.numbers;
      all = refl;
      some = λ e. absurd (true≢false (sym both.1 ∙ e));
      alone = λ e zero. absurd (true≢false (sym both.1 ∙ e));
      are = (digits_are_number b.digits b.all (b.some refl) (b.alone refl), b.are);
      close = b.close;
      closes = b.closes;
      byte = b.byte;
      stands = ap₂ (λ y l. y ∷ l) (eqb-true x 44 both.0) b.stands;
      inside = omega (arith, inside);
    }

end_is : (c b d : Bool) → ((c && d) || (b && d)) ≡ true → ((c ≡ true) ⊎ (b ≡ true)) × (d ≡ true)
end_is true b true h = (inl refl, refl)
end_is false true true h = (inr refl, refl)
end_is false false d h = absurd (false≢true h)
end_is true true false h = absurd (false≢true h)
end_is true false false h = absurd (false≢true h)
end_is false true false h = absurd (false≢true h)

begun : (d : Bool) (xs : List ℕ) (i : ℕ) → get_or (whole_l d xs) i false ≡ true → Begun d xs i
begun d [] i h = absurd (false≢true h)
begun d (x ∷ xs) zero h =
    let e = end_is (x == 44) (x == 93) d h in
    record {
      digits = [];
      numbers = [];
      all = refl;
      some = λ f. absurd (true≢false (sym e.1 ∙ f));
      alone = λ f zero. absurd (true≢false (sym e.1 ∙ f));
      are = tt;
      close = x;
      closes = which e.0;
      byte = refl;
      stands = refl;
      inside = omega arith;
    }
  where
    which : ((x == 44) ≡ true) ⊎ ((x == 93) ≡ true) → (x ≡ 44) ⊎ (x ≡ 93)
    which (inl is) = inl (eqb-true x 44 is)
    which (inr is) = inr (eqb-true x 93 is)
begun d (x ∷ xs) (suc i) h =
    let f = by_fit (fits d x xs) (whole_l (is_ascii_digit x) xs) i h in
    by_digit d x xs i (is_ascii_digit x) refl f.0 (begun (is_ascii_digit x) xs i f.1)

-- ---- the last comma

some_bit : (b : Bool) (n : ℕ) → n ≡ cond b 1 0 → 0 < n → b ≡ true
some_bit true n e some = refl
some_bit false n e some = absurd (let none : n ≡ 0 = e in omega (arith, none, some))

top_bit : (ms : List Bool) (j : ℕ) → 2 ^ j ≤ mask_l ms → mask_l ms < 2 ^ suc j → get_or ms j false ≡ true
top_bit ms j least most =
    let one : 1 ≤ mask_l ms / 2 ^ j = le-div 1 (mask_l ms) (2 ^ j) (pow_pos j) (omega (arith, least)) in
    let few : mask_l ms / 2 ^ j < 2 = div_below (mask_l ms) (2 ^ j) 2 (pow_pos j) (subst (λ n. mask_l ms < n) (pow-suc-two j) most) in
    some_bit (get_or ms j false) (mask_l ms / 2 ^ j % 2) (bit_mask_l ms j) (omega (arith, one, few))
  where
    pow-suc-two : (j : ℕ) → 2 ^ suc j ≡ 2 * 2 ^ j
    pow-suc-two j = omega (arith, pow-suc 2 j)

abbrev last_end : ℕ → ℕ
last_end n = 64 - count_leading_zeros 64 n

pub record Looked (xs : List ℕ) (end : ℕ) : Type 0 where
  pub items : (get_or xs (end - 1) 0 ≡ 93 → ⊥) → HasNumberItems xs 0 end
  pub last : 0 < end → get_or xs (end - 1) 0 ≡ 93 → HasLastNumbers xs 0 end
  pub inside : end ≤ length xs

-- the numbers with their commas, and the last
record Parts (n : List ℕ) (ns : List (List ℕ)) : Type 0 where
  front : List (List ℕ)
  last : List ℕ
  front_are : AllByRecursion IsNumber front
  last_is : IsNumber last
  same : n ++ behind_l 93 ns ≡ with_commas front ++ (last ++ 93 ∷ [])

parts : (n : List ℕ) (ns : List (List ℕ)) → IsNumber n → AllByRecursion IsNumber ns → Parts n ns
parts n [] is are = record { front = []; last = n; front_are = tt; last_is = is; same = refl }
parts n (m ∷ ns) is are =
    let p = parts m ns are.0 are.1 in
    record {
      front = n ∷ p.front;
      last = p.last;
      front_are = (is, p.front_are);
      last_is = p.last_is;
      same = ap (λ l. n ++ 44 ∷ l) p.same ∙ sym (append_assoc n (44 ∷ with_commas p.front) (p.last ++ 93 ∷ []));
    }

with_commas_is : (n : List ℕ) (ns : List (List ℕ)) → n ++ behind_l 44 ns ≡ with_commas (n ∷ ns)
with_commas_is n [] = refl
with_commas_is n (m ∷ ns) = ap (λ l. n ++ 44 ∷ l) (with_commas_is m ns)

items_begun : (xs : List ℕ) (i : ℕ) → Begun false xs i → Looked xs (suc i)
items_begun xs i b =
    let inside = b.inside in
    let number = digits_are_number b.digits b.all (b.some refl) (b.alone refl) in
    let here : drop 0 xs ≡ (b.digits ++ behind_l b.close b.numbers) ++ drop (suc i) xs = sym (take-append-drop (suc i) xs) ∙ ap (λ l. l ++ drop (suc i) xs) b.stands in
    let at : suc i - 1 ≡ i = omega arith in
    let byte : get_or xs (suc i - 1) 0 ≡ b.close = ap (λ k. get_or xs k 0) at ∙ b.byte in
    let p = parts b.digits b.numbers number b.are in
    record {
      items = λ other. record {
        numbers = b.digits ∷ b.numbers;
        are = (number, b.are);
        stands = here ∙ ap (λ l. l ++ drop (suc i) xs) (ap (λ c. b.digits ++ behind_l c b.numbers) (comma b.closes (λ e. other (byte ∙ e))) ∙ with_commas_is b.digits b.numbers);
      };
      last = λ some is. record {
        numbers = p.front;
        last = p.last;
        are = p.front_are;
        is = p.last_is;
        stands = here ∙ ap (λ l. l ++ drop (suc i) xs) (ap (λ c. b.digits ++ behind_l c b.numbers) (sym byte ∙ is) ∙ p.same);
      };
      inside = omega (arith, inside);
    }
  where
    comma : {c : ℕ} → (c ≡ 44) ⊎ (c ≡ 93) → (c ≡ 93 → ⊥) → c ≡ 44
    comma (inl is) other = is
    comma (inr is) other = absurd (other is)

looked_by : (xs : List ℕ) (n : ℕ) → n ≡ mask_l (whole_l false xs) → n < 2 ^ 64 → Looked xs (last_end n)
looked_by xs zero is below =
    let none : last_end 0 ≡ 0 = let all = leading_of_zero 64 in omega (arith, all) in
    subst (Looked xs) (sym none) (record { items = λ other. record { numbers = []; are = tt; stands = refl }; last = λ some is. absurd (omega (arith, some)); inside = omega arith })
looked_by xs (suc n) is below =
    let t = leading_top 64 (suc n) (omega arith) below in
    let counted = t.1 in
    let end : last_end (suc n) ≡ suc t.0 = omega (arith, counted) in
    let last = top_bit (whole_l false xs) t.0 (subst (λ m. 2 ^ t.0 ≤ m) is t.2) (subst (λ m. m < 2 ^ suc t.0) is t.3) in
    subst (Looked xs) (sym end) (items_begun xs t.0 (begun false xs t.0 last))

length-fits_l : (d : Bool) (xs : List ℕ) → length (fits_l d xs) ≡ length xs
length-fits_l d [] = refl
length-fits_l d (x ∷ xs) = ap suc (length-fits_l (is_ascii_digit x) xs)

length-ends_l : (d : Bool) (xs : List ℕ) → length (ends_l d xs) ≡ length xs
length-ends_l d [] = refl
length-ends_l d (x ∷ xs) = ap suc (length-ends_l (is_ascii_digit x) xs)

mask_below : (ms : List Bool) → length ms ≡ 16 → mask_l ms < 2 ^ 16
mask_below ms long = subst (λ n. mask_l ms < 2 ^ n) long (mask_l-lt ms)

-- the masks that one look makes of 16 bytes
pub looked : (xs : List ℕ) (digits commas brackets zeros : ℕ) → length xs ≡ 16 → digits ≡ digit_mask xs → commas ≡ byte_mask 44 xs → brackets ≡ byte_mask 93 xs → zeros ≡ byte_mask 48 xs
    → let behind = digits * 2 % 2 ^ 64 in
    let fit = bit_or (bit_and commas behind) (bit_xor digits (bit_and (bit_xor zeros (bit_and zeros behind)) (digits / 2))) in
    (fit < 2 ^ 16) × Looked xs (last_end (bit_and (bit_or (bit_and commas behind) (bit_and brackets behind)) (bit_xor fit (fit + 1))))
looked xs digits commas brackets zeros long is_d is_c is_b is_z =
    let behind = digits * 2 % 2 ^ 64 in
    let leading = bit_and (bit_xor zeros (bit_and zeros behind)) (digits / 2) in
    let fit = bit_or (bit_and commas behind) (bit_xor digits leading) in
    let ends = bit_or (bit_and commas behind) (bit_and brackets behind) in
    let digits_few : digit_mask xs < 2 ^ 16 = mask_below (map is_ascii_digit xs) (length-map xs is_ascii_digit ∙ long) in
    let behind_is : behind ≡ bit false (digit_mask xs) = omega (arith, is_d, digits_few) in
    let commas_are : bit_and commas behind ≡ mask_l (places_l 44 false xs) = ap₂ bit_and is_c behind_is ∙ places-mask 44 false xs in
    let brackets_are : bit_and brackets behind ≡ mask_l (places_l 93 false xs) = ap₂ bit_and is_b behind_is ∙ places-mask 93 false xs in
    let leading_are : leading ≡ mask_l (leads_l false xs) =
    ap₂ bit_and (ap₂ (λ z b. bit_xor z (bit_and z b)) is_z behind_is) (ap (λ n. n / 2) is_d) ∙ leads-mask false xs in
    let fit_are : fit ≡ mask_l (fits_l false xs) = ap₂ bit_or commas_are (ap₂ bit_xor is_d leading_are) ∙ fits-mask false xs in
    let ends_are : ends ≡ mask_l (ends_l false xs) = ap₂ bit_or commas_are brackets_are ∙ ends-mask false xs in
    let whole_are : bit_and ends (bit_xor fit (fit + 1)) ≡ mask_l (whole_l false xs) = ap₂ bit_and ends_are (ap (λ n. bit_xor n (n + 1)) fit_are) ∙ whole-mask false xs in
    let fit_few = mask_below (fits_l false xs) (length-fits_l false xs ∙ long) in
    let ends_few = mask_below (ends_l false xs) (length-ends_l false xs ∙ long) in
    let at_most = and_le_l ends (bit_xor fit (fit + 1)) in (
      subst (λ n. n < 2 ^ 16) (sym fit_are) fit_few,
      looked_by xs (bit_and ends (bit_xor fit (fit + 1))) whole_are (omega (arith, at_most, ends_are, ends_few)),
    )

-- ---- one look behind another

pub no_items : (text : List ℕ) (from : ℕ) → HasNumberItems text from from
no_items text from = record { numbers = []; are = tt; stands = refl }

with_commas-append : (ns ms : List (List ℕ)) → with_commas (ns ++ ms) ≡ with_commas ns ++ with_commas ms
with_commas-append [] ms = refl
with_commas-append (n ∷ ns) ms = ap (λ l. n ++ 44 ∷ l) (with_commas-append ns ms) ∙ sym (append_assoc n (44 ∷ with_commas ns) (with_commas ms))

both_are : (ns ms : List (List ℕ)) → AllByRecursion IsNumber ns → AllByRecursion IsNumber ms → AllByRecursion IsNumber (ns ++ ms)
both_are [] ms first second = second
both_are (n ∷ ns) ms first second = (first.0, both_are ns ms first.1 second)

pub items_behind : (text : List ℕ) (from mid end : ℕ) → HasNumberItems text from mid → HasNumberItems text mid end → HasNumberItems text from end
items_behind text from mid end a b = record {
  numbers = a.numbers ++ b.numbers;
  are = both_are a.numbers b.numbers a.are b.are;
  stands = stands_behind text (with_commas a.numbers) (with_commas b.numbers) from mid end a.stands b.stands ∙ ap (λ l. l ++ drop end text) (sym (with_commas-append a.numbers b.numbers));
}

pub last_behind : (text : List ℕ) (from mid end : ℕ) → HasNumberItems text from mid → HasLastNumbers text mid end → HasLastNumbers text from end
last_behind text from mid end a b =
    let close = b.last ++ 93 ∷ [] in
    record {
      numbers = a.numbers ++ b.numbers;
      last = b.last;
      are = both_are a.numbers b.numbers a.are b.are;
      is = b.is;
      stands = stands_behind text (with_commas a.numbers) (with_commas b.numbers ++ close) from mid end a.stands b.stands
          ∙ ap (λ l. l ++ drop end text) (sym (append_assoc (with_commas a.numbers) (with_commas b.numbers) close) ∙ ap (λ l. l ++ close) (sym (with_commas-append a.numbers b.numbers)));
    }

-- what is seen in some bytes stands in the text
stands_of_look : (text part : List ℕ) (at n end : ℕ) → at + n ≤ length text → end ≤ n → Stands (chunk at n text) 0 part end → Stands text at part (at + end)
stands_of_look text part at n end within inside seen =
    let some = chunk at n text in
    let others = drop (at + n) text in
    let size = length-chunk at n text within in
    let behind : drop (at + end) text ≡ drop end some ++ others = sym (drop-drop end at text) ∙ ap (drop end) (chunk-drop at n text) ∙ drop-append-le end some others (omega (arith, size, inside)) in
    chunk-drop at n text ∙ ap (λ l. l ++ others) seen ∙ append_assoc part (drop end some) others ∙ ap (λ l. part ++ l) (sym behind)

pub items_of_look : (text : List ℕ) (at n end : ℕ) → at + n ≤ length text → end ≤ n → HasNumberItems (chunk at n text) 0 end → HasNumberItems text at (at + end)
items_of_look text at n end within inside seen = record { numbers = seen.numbers; are = seen.are; stands = stands_of_look text (with_commas seen.numbers) at n end within inside seen.stands }

pub last_of_look : (text : List ℕ) (at n end : ℕ) → at + n ≤ length text → end ≤ n → HasLastNumbers (chunk at n text) 0 end → HasLastNumbers text at (at + end)
last_of_look text at n end within inside seen = record {
  numbers = seen.numbers;
  last = seen.last;
  are = seen.are;
  is = seen.is;
  stands = stands_of_look text (with_commas seen.numbers ++ (seen.last ++ 93 ∷ [])) at n end within inside seen.stands;
}

pub byte_of_look : (text : List ℕ) (at n end : ℕ) → 0 < end → end ≤ n → get_or (chunk at n text) (end - 1) 0 ≡ get_or text (at + end - 1) 0
byte_of_look text at n end some inside =
    let place : at + (end - 1) ≡ at + end - 1 = omega (arith, some) in
    get_or-chunk at n text (end - 1) 0 (omega (arith, some, inside)) ∙ ap (λ k. get_or text k 0) place

-- ---- one item

pub one_item : (text : List ℕ) (from end : ℕ) → from < end → IsNumber (take (end - from) (drop from text)) → get_or text end 0 ≡ 44 → HasNumberItems text from (end + 1)
one_item text from end below is comma =
    let number = take (end - from) (drop from text) in
    record { numbers = number ∷ []; are = (is, tt); stands = stands_byte text number from end 43 (part_stands text from end (omega (arith, below))) comma }

pub one_last : (text : List ℕ) (from end : ℕ) → from < end → IsNumber (take (end - from) (drop from text)) → get_or text end 0 ≡ 93 → HasLastNumbers text from (end + 1)
one_last text from end below is bracket =
    let number = take (end - from) (drop from text) in
    record { numbers = []; last = number; are = tt; is = is; stands = stands_byte text number from end 92 (part_stands text from end (omega (arith, below))) bracket }
