-- A JSON text has no line feed.
use Rattle.std.proofs.Common.{◌≡◌, ◌≢◌, ℕ, zero, suc, ◌+◌, ◌<◌, List, [], ◌∷◌, ◌++◌, take, drop, Bool, true, false, cond, not, ◌&&◌, ◌||◌, ◌==◌, Option, Some, None, inl, inr, refl, sym, ap, ◌∙◌, subst, arith, append_assoc, append-nil, take-append-drop, eqb-true}
use Rattle.std.specs.Prelude.{codes, option_and_then, ⊤}
use Rattle.std.specs.List.{prefix_len}
use Rattle.std.specs.Char.{is_ascii_digit}
use Rattle.std.proofs.lemmas.Bool.{cases_lt, cases_eq, and_parts}
use Rattle.json.specs.Json.{Json, null, boolean, number, string, array, object, Items, no_items, item, Members, no_members, member}
use Rattle.json.specs.Print.{print_from, escape_byte, escape, quoted, token_text, separator, IsNumber}
use Rattle.json.specs.Token.{Token}
use Rattle.json.specs.Tree.{json_tokens, items_tokens, members_tokens, HasNumbers, ItemsHaveNumbers, MembersHaveNumbers}
use Rattle.json.specs.Word.{head, after_digits, after_minus, after_sign, after_whole, after_fraction, after_exponent, after_number}
use Rattle.json.proofs.Printed.Strings.{escape_byte_plain}
use Rattle.json_texts.specs.Texts.{json_text}
use Rattle.connection_messages.specs.ReadBack.{IsLine}

pub line_append : (a b : List ℕ) → IsLine a → IsLine b → IsLine (a ++ b)
line_append [] b p q = q
line_append (x ∷ a) b p q = (p.0, line_append a b p.1 q)

-- ---- numbers

-- the rest of a text behind a part without line feeds
record Behind (text rest : List ℕ) : Type 0 where
  part : List ℕ
  is : text ≡ part ++ rest
  line : IsLine part

stays : (t : List ℕ) → Behind t t
stays t = record { part = []; is = refl; line = tt }

then_on : (t u v : List ℕ) → Behind t u → Behind u v → Behind t v
then_on t u v a b = record { part = a.part ++ b.part; is = a.is ∙ ap (λ r. a.part ++ r) b.is ∙ sym (append_assoc a.part b.part v); line = line_append a.part b.part a.line b.line }

one : (t : List ℕ) (x : ℕ) → (head t == x) ≡ true → (x ≡ 10 → ⊥) → (x ≡ 32 → ⊥) → Behind t (drop 1 t)
one [] x is other blank = absurd (blank (sym (eqb-true 32 x is)))
one (y ∷ t) x is other blank = record { part = y ∷ []; is = refl; line = (λ e. other (sym (eqb-true y x is) ∙ e), tt) }

digit_line : (x : ℕ) → is_ascii_digit x ≡ true → x ≢ 10
digit_line x is e = let f : is_ascii_digit 10 ≡ true = ap is_ascii_digit (sym e) ∙ is in cc

one_more : (x : ℕ) (t : List ℕ) (b : Bool) → is_ascii_digit x ≡ b → IsLine (take (prefix_len is_ascii_digit t) t) → IsLine (take (cond b (1 + prefix_len is_ascii_digit t) 0) (x ∷ t))
one_more x t true is others =
    subst (λ n. IsLine (take n (x ∷ t))) (let same : suc (prefix_len is_ascii_digit t) ≡ 1 + prefix_len is_ascii_digit t = omega arith in same) (digit_line x is, others)
one_more x t false is others = tt

run_line : (t : List ℕ) → IsLine (take (prefix_len is_ascii_digit t) t)
run_line [] = tt
run_line (x ∷ t) = one_more x t (is_ascii_digit x) refl (run_line t)

digits : (t rest : List ℕ) → after_digits t ≡ Some rest → Behind t rest
digits t rest is = by_test (prefix_len is_ascii_digit t == 0) is
  where
    by_test : (b : Bool) → cond b None (Some (drop (prefix_len is_ascii_digit t) t)) ≡ Some rest → Behind t rest
    by_test true e = cc
    by_test false e =
        let n = prefix_len is_ascii_digit t in
        let same : drop n t ≡ rest = cc in
        record { part = take n t; is = sym (take-append-drop n t) ∙ ap (λ r. take n t ++ r) same; line = run_line t }

minus : (t : List ℕ) → Behind t (after_minus t)
minus t = by_test (head t == 45) refl
  where
    by_test : (b : Bool) → (head t == 45) ≡ b → Behind t (cond b (drop 1 t) t)
    by_test true is = one t 45 is (λ e. omega (arith, e)) (λ e. omega (arith, e))
    by_test false is = stays t

sign : (t : List ℕ) → Behind t (after_sign t)
sign t = by_tests (head t == 45) (head t == 43) refl refl
  where
    by_tests : (a b : Bool) → (head t == 45) ≡ a → (head t == 43) ≡ b → Behind t (cond (a || b) (drop 1 t) t)
    by_tests true b is plus = one t 45 is (λ e. omega (arith, e)) (λ e. omega (arith, e))
    by_tests false true is plus = one t 43 plus (λ e. omega (arith, e)) (λ e. omega (arith, e))
    by_tests false false is plus = stays t

whole : (t rest : List ℕ) → after_whole t ≡ Some rest → Behind t rest
whole t rest is = by_test (head t == 48) refl is
  where
    by_test : (b : Bool) → (head t == 48) ≡ b → cond b (Some (drop 1 t)) (after_digits t) ≡ Some rest → Behind t rest
    by_test true zero_first e =
        let same : drop 1 t ≡ rest = cc in
        subst (Behind t) same (one t 48 zero_first (λ f. omega (arith, f)) (λ f. omega (arith, f)))
    by_test false other e = digits t rest e

fraction : (t rest : List ℕ) → after_fraction t ≡ Some rest → Behind t rest
fraction t rest is = by_test (head t == 46) refl is
  where
    by_test : (b : Bool) → (head t == 46) ≡ b → cond b (after_digits (drop 1 t)) (Some t) ≡ Some rest → Behind t rest
    by_test true dot e = then_on t (drop 1 t) rest (one t 46 dot (λ f. omega (arith, f)) (λ f. omega (arith, f))) (digits (drop 1 t) rest e)
    by_test false other e = let same : t ≡ rest = cc in subst (Behind t) same (stays t)

exponent : (t rest : List ℕ) → after_exponent t ≡ Some rest → Behind t rest
exponent t rest is = by_tests (head t == 101) (head t == 69) refl refl is
  where
    signed : Behind t (drop 1 t) → after_digits (after_sign (drop 1 t)) ≡ Some rest → Behind t rest
    signed letter e =
        then_on t (drop 1 t) rest letter (then_on (drop 1 t) (after_sign (drop 1 t)) rest (sign (drop 1 t)) (digits (after_sign (drop 1 t)) rest e))

    by_tests : (a b : Bool) → (head t == 101) ≡ a → (head t == 69) ≡ b → cond (a || b) (after_digits (after_sign (drop 1 t))) (Some t) ≡ Some rest → Behind t rest
    by_tests true b small great e = signed (one t 101 small (λ f. omega (arith, f)) (λ f. omega (arith, f))) e
    by_tests false true small great e = signed (one t 69 great (λ f. omega (arith, f)) (λ f. omega (arith, f))) e
    by_tests false false small great e = let same : t ≡ rest = cc in subst (Behind t) same (stays t)

pub number_line : (s : List ℕ) → IsNumber s → IsLine s
unfolding after_number
number_line s is = by_whole (after_whole (after_minus s)) refl is
  where
    ended : Behind s [] → IsLine s
    ended b = subst IsLine (sym (b.is ∙ append-nil b.part)) b.line

    by_fraction : (t : List ℕ) → Behind s t → (o : Option (List ℕ)) → after_fraction t ≡ o → option_and_then after_exponent o ≡ Some [] → IsLine s
    by_fraction t so_far None read e = cc
    by_fraction t so_far (Some u) read e = ended (then_on s t [] so_far (then_on t u [] (fraction t u read) (exponent u [] e)))

    by_whole : (o : Option (List ℕ)) → after_whole (after_minus s) ≡ o → option_and_then after_exponent (option_and_then after_fraction o) ≡ Some [] → IsLine s
    by_whole None read e = cc
    by_whole (Some t) read e = by_fraction t (then_on s (after_minus s) t (minus s) (whole (after_minus s) t read)) (after_fraction t) refl e

-- ---- strings

abbrev has_lines : List ℕ → Bool
has_lines [] = true
has_lines (x ∷ xs) = not (x == 10) && has_lines xs

line_of : (s : List ℕ) → has_lines s ≡ true → IsLine s
line_of [] e = tt
line_of (x ∷ s) e =
    let p = and_parts (not (x == 10)) (has_lines s) e in
    (λ same. let f : not (10 == 10) ≡ true = ap (λ y. not (y == 10)) (sym same) ∙ p.0 in cc, line_of s p.1)

abbrev escapes_below : ℕ → Bool
escapes_below zero = true
escapes_below (suc n) = has_lines (escape_byte n) && escapes_below n

escape_below : (n : ℕ) → escapes_below n ≡ true → (x : ℕ) → x < n → has_lines (escape_byte x) ≡ true
escape_below zero e x h = absurd (omega arith)
escape_below (suc n) e x h =
    let p = and_parts _ _ e in
    elim (cases_eq x n) [ inl same ↦ rw same p.0 | inr other ↦ escape_below n p.1 x (omega arith) ]

all_lines : escapes_below 128 ≡ true
unfolding escape_byte
all_lines = refl

escaped_line : (x : ℕ) → IsLine (escape_byte x)
escaped_line x = elim (cases_lt x 128) [
  | inl small ↦ line_of (escape_byte x) (escape_below 128 all_lines x small)
  | inr great ↦ subst IsLine (sym (escape_byte_plain x (λ e. omega (arith, great, e)) (λ e. omega (arith, great, e)) (omega (arith, great)))) (λ e. omega (arith, great, e), tt)
]

escape_line : (s : List ℕ) → IsLine (escape s)
escape_line [] = tt
escape_line (x ∷ s) = line_append (escape_byte x) (escape s) (escaped_line x) (escape_line s)

pub quoted_line : (s : List ℕ) → IsLine (quoted s)
quoted_line s = (λ e. omega (arith, e), line_append (escape s) (34 ∷ []) (escape_line s) (λ e. omega (arith, e), tt))

-- ---- values

abbrev AreLines : List Token → Type 0
AreLines [] = ⊤
AreLines (t ∷ ts) = IsLine (token_text t) × AreLines ts

separator_line : (after : Bool) (t : Token) → IsLine (separator after t)
separator_line after t = by_test _
  where
    by_test : (b : Bool) → IsLine (cond b (44 ∷ []) [])
    by_test true = (λ e. omega (arith, e), tt)
    by_test false = tt

printed_line : (after : Bool) (ts : List Token) → AreLines ts → IsLine (print_from after ts)
unfolding print_from
printed_line after [] h = tt
printed_line after (t ∷ ts) h =
    line_append (separator after t) (token_text t ++ print_from _ ts) (separator_line after t) (line_append (token_text t) (print_from _ ts) h.0 (printed_line _ ts h.1))

lines_append : (ts us : List Token) → AreLines ts → AreLines us → AreLines (ts ++ us)
lines_append [] us p q = q
lines_append (t ∷ ts) us p q = (p.0, lines_append ts us p.1 q)

mutual
  value_lines : (j : Json) → HasNumbers j → AreLines (json_tokens j)
  value_lines null h = (line_of (codes "null") refl, tt)
  value_lines (boolean true) h = (line_of (codes "true") refl, tt)
  value_lines (boolean false) h = (line_of (codes "false") refl, tt)
  value_lines (number s) h = (number_line s h, tt)
  value_lines (string s) h = (quoted_line s, tt)
  value_lines (array js) h = (line_of (91 ∷ []) refl, items_lines js h)
  value_lines (object ms) h = (line_of (123 ∷ []) refl, members_lines ms h)

  items_lines : (js : Items) → ItemsHaveNumbers js → AreLines (items_tokens js)
  items_lines no_items h = (line_of (93 ∷ []) refl, tt)
  items_lines (item j js) h = lines_append (json_tokens j) (items_tokens js) (value_lines j h.0) (items_lines js h.1)

  members_lines : (ms : Members) → MembersHaveNumbers ms → AreLines (members_tokens ms)
  members_lines no_members h = (line_of (125 ∷ []) refl, tt)
  members_lines (member k j ms) h =
      (line_append (quoted k) (58 ∷ []) (quoted_line k) (line_of (58 ∷ []) refl), lines_append (json_tokens j) (members_tokens ms) (value_lines j h.0) (members_lines ms h.1))

pub json_line : (j : Json) → HasNumbers j → IsLine (json_text j)
unfolding json_text
json_line j h = printed_line false (json_tokens j) (value_lines j h)
