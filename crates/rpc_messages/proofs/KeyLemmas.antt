-- Keys: the decimal of a number is read as that number, and what is read as a key is written so.
use Rattle.std.proofs.Common.{◌≡◌, ℕ, zero, suc, ◌+◌, ◌<◌, ◌≤◌, ◌^◌, ◌==◌, ◌&&◌, List, [], ◌∷◌, ◌++◌, length, get_or, take, drop, Bool, true, false, cond, nat_le, ◌⊎◌, inl, inr, Option, Some, None, Result, Ok, unwrap_or, decimal, refl, sym, ap, subst, ◌∙◌, arith}
use Rattle.std.proofs.lemmas.Bool.{cases_lt}
use Rattle.std.proofs.lemmas.Bool.Decides.{nat_tests}
use Rattle.std.proofs.lemmas.Fmt.{decimal_is_IsNumeral, decimal_nonempty, parse-decimal}
use Rattle.std.proofs.lemmas.Option.{option_and_then_some}
use Rattle.std.proofs.lemmas.Grind.{common_steps}
use Rattle.std.proofs.lemmas.List.{take_at, drop_at, drop_all, append_assoc, get_or_append_left, get_or_at, length_push}
use Rattle.std.proofs.lemmas.List.Sums.{position_or_len_is, split_at_first, passes_at_first}
use Rattle.std.proofs.lemmas.Slice.Eq.{bytes_eq-Decides}
use Rattle.std.specs.List.{before_first, after_first, position_or_len}
use Rattle.std.specs.Str.{bytes_eq}
use Rattle.std.specs.Str.Parse.{AllDigits, ParsesUnsigned, digits_value}
use Rattle.rpc_messages.specs.declared.key.TheConstants.{MOST_NUMBERS, MOST_TURNS}
use Rattle.rpc_messages.specs.Key.{dot, key_text, decimal_number, key_of, IsKeyOf}

-- ---- one number

nat_le_true : (m n : ℕ) → m ≤ n → nat_le m n ≡ true
nat_le_true m n h = grind (arith, nat_tests)

pub decimal_number-decimal : (most n : ℕ) → n ≤ most → n < 2 ^ 64 → decimal_number most (decimal n) ≡ Some n
decimal_number-decimal most n h fits =
    let value : digits_value 10 (decimal n) ≡ n = (decimal_is_IsNumeral n fits).1 in
    let same : bytes_eq (decimal n) (decimal n) ≡ true = (bytes_eq-Decides (decimal n) (decimal n)).1 refl in
    rw (value, nat_le_true n most h, same)

-- a text that is read is the decimal of what is read
pub decimal_number-is : (most n : ℕ) (s : List ℕ) → decimal_number most s ≡ Some n → (s ≡ decimal n) × (n ≤ most)
decimal_number-is most n s = by_tests _ _ refl refl
  where
    by_tests : (small same : Bool) → nat_le (digits_value 10 s) most ≡ small → bytes_eq (decimal (digits_value 10 s)) s ≡ same
        → cond (small && same) (Some (digits_value 10 s)) None ≡ Some n → (s ≡ decimal n) × (n ≤ most)
    by_tests true true is_small is_same read =
        let value : digits_value 10 s ≡ n = cc in
        let whole : decimal (digits_value 10 s) ≡ s = (bytes_eq-Decides _ s).0 is_same in
        let bound : digits_value 10 s ≤ most = grind (arith, nat_tests) in
        (sym whole ∙ ap decimal value, omega arith)
    by_tests true false is_small is_same read = cc
    by_tests false same is_small is_same read = cc

pub decimal_number-none : (most : ℕ) (s : List ℕ) → ((n : ℕ) → s ≡ decimal n → n ≤ most → ⊥) → decimal_number most s ≡ None
decimal_number-none most s other = by_result _ refl
  where
    by_result : (o : Option ℕ) → decimal_number most s ≡ o → decimal_number most s ≡ None
    by_result None read = read
    by_result (Some n) read = absurd (other n (decimal_number-is most n s read).0 (decimal_number-is most n s read).1)

-- where `parse` reads no number that the text is the decimal of
pub decimal_number-unread : {E : Type 0} (most : ℕ) (s : List ℕ) (r : Result ℕ E) → most < 2 ^ 32 → ParsesUnsigned 32 10 s r
    → ((n : ℕ) → r ≡ Ok n → s ≡ decimal n → n ≤ most → ⊥) → decimal_number most s ≡ None
decimal_number-unread most s r fits parses other = decimal_number-none most s (λ n is small. other n (parse-decimal 32 n s r (omega arith) (omega arith) is parses) is small)

-- ---- two numbers with a dot between

no_dot : (ds : List ℕ) → AllDigits 10 ds → (k : ℕ) → k < length ds → (get_or ds k 0 == dot) ≡ false
no_dot [] h k lt = absurd (omega arith)
no_dot (c ∷ cs) h zero lt = by_test _ refl
  where
    by_test : (b : Bool) → (c == dot) ≡ b → (c == dot) ≡ false
    by_test false is = is
    by_test true is =
        let here : c ≡ dot = grind (arith, nat_tests) in
        absurd (omega (arith, subst (λ d. AllDigits 10 (d ∷ cs)) here h))
no_dot (c ∷ cs) h (suc k) lt = no_dot cs h.1 k (omega arith)

no_dot_decimal : (n : ℕ) → n < 2 ^ 64 → (k : ℕ) → k < length (decimal n) → (get_or (decimal n) k 0 == dot) ≡ false
no_dot_decimal n fits = no_dot (decimal n) (decimal_is_IsNumeral n fits).0.1

dot_at : (n : ℕ) (rest : List ℕ) → n < 2 ^ 64 → position_or_len (λ b. b == dot) (decimal n ++ dot ∷ rest) ≡ length (decimal n)
dot_at n rest fits =
    position_or_len_is (λ b. b == dot) (decimal n ++ dot ∷ rest) (length (decimal n)) 0 (grind (arith, common_steps))
    (λ k lt. rw get_or_append_left (no_dot_decimal n fits k lt)) (λ _. rw (get_or_at (decimal n) dot rest 0 (length (decimal n)) refl) refl)

before_dot : (n : ℕ) (rest : List ℕ) → n < 2 ^ 64 → before_first (λ b. b == dot) (decimal n ++ dot ∷ rest) ≡ decimal n
before_dot n rest fits = ap (λ k. take k (decimal n ++ dot ∷ rest)) (dot_at n rest fits) ∙ take_at (decimal n) (dot ∷ rest) (length (decimal n)) refl

after_dot : (n : ℕ) (rest : List ℕ) → n < 2 ^ 64 → after_first (λ b. b == dot) (decimal n ++ dot ∷ rest) ≡ rest
after_dot n rest fits =
    ap (λ k. drop (k + 1) (decimal n ++ dot ∷ rest)) (dot_at n rest fits)
    ∙ ap (drop (length (decimal n) + 1)) (sym (append_assoc (decimal n) (dot ∷ []) rest)) ∙ drop_at (decimal n ++ dot ∷ []) rest (length (decimal n) + 1) (length_push (decimal n) dot)

pub key_of-key_text : (n t : ℕ) → n ≤ MOST_NUMBERS → 1 ≤ t → t ≤ MOST_TURNS → key_of (key_text n t) ≡ Some (n, t)
key_of-key_text n t number_in_range from_one turn_in_range =
    let no_zero : (t == 0) ≡ false = grind (arith, nat_tests) in
    rw (before_dot n (decimal t) (omega arith), after_dot n (decimal t) (omega arith), decimal_number-decimal MOST_NUMBERS n number_in_range (omega arith), decimal_number-decimal MOST_TURNS t turn_in_range (omega arith), no_zero)

-- ---- what is read as a key

after_none : (text : List ℕ) → length text ≤ position_or_len (λ b. b == dot) text → after_first (λ b. b == dot) text ≡ []
after_none text h = drop_all (position_or_len (λ b. b == dot) text + 1) text (omega arith)

split_at_dot : (text : List ℕ) → position_or_len (λ b. b == dot) text < length text → text ≡ before_first (λ b. b == dot) text ++ dot ∷ after_first (λ b. b == dot) text
split_at_dot text h =
    let here : get_or text (position_or_len (λ b. b == dot) text) 0 ≡ dot = let p = passes_at_first (λ b. b == dot) text 0 h in grind (arith, nat_tests, p) in
    split_at_first (λ b. b == dot) text 0 h ∙ ap (λ b. before_first (λ x. x == dot) text ++ b ∷ after_first (λ x. x == dot) text) here

from_parts : (text : List ℕ) (n t : ℕ) → decimal_number MOST_NUMBERS (before_first (λ b. b == dot) text) ≡ Some n → decimal_number MOST_TURNS (after_first (λ b. b == dot) text) ≡ Some t → 1 ≤ t → IsKeyOf text n t
from_parts text n t read_number read_turn from_one =
    let number = decimal_number-is MOST_NUMBERS n _ read_number in
    let turn = decimal_number-is MOST_TURNS t _ read_turn in
    let inside : position_or_len (λ b. b == dot) text < length text = by_place (cases_lt (position_or_len (λ b. b == dot) text) (length text)) turn.0 turn.1 in
    record {
      written = split_at_dot text inside ∙ ap (λ s. s ++ dot ∷ after_first (λ b. b == dot) text) number.0 ∙ ap (λ s. decimal n ++ dot ∷ s) turn.0;
      number_in_range = number.1;
      turn_from_one = from_one;
      turn_in_range = turn.1;
    }
  where
    by_place : (position_or_len (λ b. b == dot) text < length text) ⊎ (length text ≤ position_or_len (λ b. b == dot) text) → after_first (λ b. b == dot) text ≡ decimal t → t ≤ MOST_TURNS → position_or_len (λ b. b == dot) text < length text
    by_place (inl lt) is small = lt
    by_place (inr past) is small = absurd (omega (arith, decimal_nonempty t (omega arith), ap length (sym is ∙ after_none text past)))

pub IsKeyOf-from_key_of : (text : List ℕ) (n t : ℕ) → key_of text ≡ Some (n, t) → IsKeyOf text n t
IsKeyOf-from_key_of text n t read =
    option_and_then_some _ (decimal_number MOST_NUMBERS (before_first (λ b. b == dot) text)) (n, t) read (λ m read_number rest.
    option_and_then_some _ (decimal_number MOST_TURNS (after_first (λ b. b == dot) text)) (n, t) rest (λ u read_turn last. by_zero m u read_number read_turn (u == 0) refl last))
  where
    by_zero : (m u : ℕ) → decimal_number MOST_NUMBERS (before_first (λ b. b == dot) text) ≡ Some m → decimal_number MOST_TURNS (after_first (λ b. b == dot) text) ≡ Some u
        → (b : Bool) → (u == 0) ≡ b → cond {A = Option (ℕ × ℕ)} b None (Some (m, u)) ≡ Some (n, t) → IsKeyOf text n t
    by_zero m u read_number read_turn true is last = cc
    by_zero m u read_number read_turn false is last =
        let first : m ≡ n = ap (λ (o : Option (ℕ × ℕ)). (unwrap_or o (0, 0)).0) last in
        let second : u ≡ t = ap (λ (o : Option (ℕ × ℕ)). (unwrap_or o (0, 0)).1) last in
        let from_one : 1 ≤ t = grind (arith, nat_tests) in
        from_parts text n t (read_number ∙ ap Some first) (read_turn ∙ ap Some second) from_one

pub key_of-IsKeyOf : (text : List ℕ) (n t : ℕ) → IsKeyOf text n t → key_of text ≡ Some (n, t)
key_of-IsKeyOf text n t is = ap key_of is.written ∙ key_of-key_text n t is.number_in_range is.turn_from_one is.turn_in_range
