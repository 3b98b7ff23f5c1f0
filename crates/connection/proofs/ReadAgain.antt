-- The text of a value that was read can be said again, unless it nests too deep.
use Rattle.std.proofs.Common.{◌≡◌, ◌⊎◌, inl, inr, ℕ, suc, ◌+◌, ◌<◌, ◌≤◌, nat_le, Bool, true, false, cond, ◌||◌, ◌==◌, List, [], ◌∷◌, ◌++◌, take, drop, Option, Some, None, option_and_then, IsUtf8, refl, sym, ap, subst, ◌∙◌, arith, append_assoc, append-nil, take-append-drop}
use Rattle.std.proofs.lemmas.Bool.{eqb-true}
use Rattle.std.proofs.lemmas.Bool.Decides.{nat_tests}
use Rattle.std.proofs.lemmas.Grind.{common_steps}
use Rattle.std.proofs.lemmas.Str.{IsUtf8-append, IsUtf8-nil}
use Rattle.std.specs.Prelude.{⊤}
use Rattle.std.specs.List.{prefix_len}
use Rattle.std.specs.Char.{is_ascii_digit}
use Rattle.json.specs.Json as json
use Rattle.json.specs.Json.{Json, array, object, Items, no_items, item, Members, no_members, member}
use Rattle.json.specs.Print.{IsNumber, ends, separator, token_text, print_from}
use Rattle.json.specs.Token.{Token, null}
use Rattle.json.specs.Tree.{json_tokens, items_tokens, members_tokens, depth, HasNumbers, ItemsHaveNumbers, MembersHaveNumbers}
use Rattle.json.specs.Word.{head, after_digits, after_minus, after_sign, after_whole, after_fraction, after_exponent, after_number}
use Rattle.json.proofs.Printed.Utf8.{IsUtf8-are_ascii, IsUtf8-quoted, IsUtf8-key, IsUtf8-boolean, IsUtf8-separator}
use Rattle.json_texts.specs.declared.json_text.TheConstants.{MOST_DEPTH_OUT}
use Rattle.json_texts.specs.Texts.{json_text}
use Rattle.json_texts.proofs.ReadBack.{is_json_text}
use Rattle.connection_messages.specs.Params.{is_structured}
use Rattle.connection_messages.specs.ReadBack.{AreParams}
use Rattle.connection.specs.Rules.{IsDeep}
use Rattle.connection.proofs.ReadUtf8.{one_byte}
use Rattle.connection.proofs.ReadValues.{HasTexts, ItemsHaveTexts, MembersHaveTexts}

-- ---- numbers are ASCII

-- What is left of a text, where what was passed is UTF-8.
record Passes (t r : List ℕ) : Type 0 where
  front : List ℕ
  is : t ≡ front ++ r
  utf8 : IsUtf8 front

abbrev Leaves : List ℕ → Option (List ℕ) → Type 0
Leaves t None = ⊤
Leaves t (Some r) = Passes t r

stays : (t : List ℕ) → Passes t t
stays t = record { front = []; is = refl; utf8 = IsUtf8-nil }

further : (t u : List ℕ) (o : Option (List ℕ)) → Passes t u → Leaves u o → Leaves t o
further t u None first next = tt
further t u (Some r) first next = record {
  front = first.front ++ next.front;
  is = first.is ∙ ap (λ xs. first.front ++ xs) next.is ∙ sym (append_assoc first.front next.front r);
  utf8 = IsUtf8-append first.front next.front first.utf8 next.utf8;
}

one_passes : (t : List ℕ) → head t < 128 → Passes t (drop 1 t)
one_passes [] small = stays []
one_passes (x ∷ xs) small = record { front = x ∷ []; is = refl; utf8 = one_byte x small }

is_small : (x c : ℕ) → c < 128 → (x == c) ≡ true → x < 128
is_small x c small e = let same = eqb-true x c e in omega (arith, same, small)

either : (t : List ℕ) (b : Bool) (x y : Option (List ℕ)) → (b ≡ true → Leaves t x) → Leaves t y → Leaves t (cond b x y)
either t true x y p q = p refl
either t false x y p q = q

optional : (t : List ℕ) (b : Bool) → (b ≡ true → head t < 128) → Passes t (cond b (drop 1 t) t)
optional t true small = one_passes t (small refl)
optional t false small = stays t

either_small : (x c d : ℕ) → c < 128 → d < 128 → ((x == c) || (x == d)) ≡ true → x < 128
either_small x c d p q e = grind (arith, nat_tests)

digit_small : (x : ℕ) → is_ascii_digit x ≡ true → x < 128
digit_small x e = grind (arith, common_steps)

digits_utf8 : (t : List ℕ) → IsUtf8 (take (prefix_len is_ascii_digit t) t)
digits_utf8 [] = IsUtf8-nil
digits_utf8 (x ∷ xs) = go (is_ascii_digit x) refl (digits_utf8 xs)
  where
    go : (b : Bool) → is_ascii_digit x ≡ b → IsUtf8 (take (prefix_len is_ascii_digit xs) xs) → IsUtf8 (take (cond b (1 + prefix_len is_ascii_digit xs) 0) (x ∷ xs))
    go true e rest =
        let next : 1 + prefix_len is_ascii_digit xs ≡ suc (prefix_len is_ascii_digit xs) = omega arith in
        subst (λ n. IsUtf8 (take n (x ∷ xs))) (sym next) (IsUtf8-append (x ∷ []) (take (prefix_len is_ascii_digit xs) xs) (one_byte x (digit_small x e)) rest)
    go false e rest = IsUtf8-nil

digits : (t : List ℕ) → Leaves t (after_digits t)
digits t =
    either t (prefix_len is_ascii_digit t == 0) None (Some (drop (prefix_len is_ascii_digit t) t)) (λ e. tt)
    (record { front = take (prefix_len is_ascii_digit t) t; is = sym (take-append-drop (prefix_len is_ascii_digit t) t); utf8 = digits_utf8 t })

then : (t : List ℕ) (f : List ℕ → Option (List ℕ)) → ((u : List ℕ) → Leaves u (f u)) → (o : Option (List ℕ)) → Leaves t o → Leaves t (option_and_then f o)
then t f g None h = tt
then t f g (Some r) h = further t r (f r) h (g r)

fraction : (t : List ℕ) → Leaves t (after_fraction t)
fraction t = either t (head t == 46) (after_digits (drop 1 t)) (Some t) (λ e. further t (drop 1 t) (after_digits (drop 1 t)) (one_passes t (is_small (head t) 46 (omega arith) e)) (digits (drop 1 t))) (stays t)

sign : (t : List ℕ) → Passes t (after_sign t)
sign t = optional t ((head t == 45) || (head t == 43)) (λ e. either_small (head t) 45 43 (omega arith) (omega arith) e)

exponent : (t : List ℕ) → Leaves t (after_exponent t)
exponent t =
    let u : List ℕ = drop 1 t in
    either t ((head t == 101) || (head t == 69)) (after_digits (after_sign (drop 1 t))) (Some t)
    (λ e. further t (drop 1 t) (after_digits (after_sign (drop 1 t))) (one_passes t (either_small (head t) 101 69 (omega arith) (omega arith) e))
    (further (drop 1 t) (after_sign (drop 1 t)) (after_digits (after_sign (drop 1 t))) (sign (drop 1 t)) (digits (after_sign (drop 1 t))))) (stays t)

whole : (t : List ℕ) → Leaves t (after_whole t)
whole t = either t (head t == 48) (Some (drop 1 t)) (after_digits t) (λ e. one_passes t (is_small (head t) 48 (omega arith) e)) (digits t)

number_leaves : (t : List ℕ) → Leaves t (after_number t)
unfolding after_number
number_leaves t =
    then t after_exponent exponent (option_and_then after_fraction (after_whole (after_minus t)))
    (then t after_fraction fraction (after_whole (after_minus t))
    (further t (after_minus t) (after_whole (after_minus t)) (optional t (head t == 45) (λ e. is_small (head t) 45 (omega arith) e)) (whole (after_minus t))))

number_utf8 : (s : List ℕ) → IsNumber s → IsUtf8 s
number_utf8 s is = let passes : Passes s [] = subst (Leaves s) is (number_leaves s) in subst IsUtf8 (sym (passes.is ∙ append-nil passes.front)) passes.utf8

-- ---- the text of a value

abbrev IsShown : Token → Type 0
IsShown t = IsUtf8 (token_text t)

abbrev AreShown : List Token → Type 0
AreShown [] = ⊤
AreShown (t ∷ ts) = IsShown t × AreShown ts

shown-append : (ts us : List Token) → AreShown ts → AreShown us → AreShown (ts ++ us)
shown-append [] us first second = second
shown-append (t ∷ ts) us first second = (first.0, shown-append ts us first.1 second)

ascii : (x : ℕ) → x < 128 → IsUtf8 (x ∷ [])
ascii x small = one_byte x small

mutual
  tokens_shown : (j : Json) → HasTexts j → HasNumbers j → AreShown (json_tokens j)
  tokens_shown json.null texts numbers = (IsUtf8-are_ascii (token_text null) refl, tt)
  tokens_shown (json.boolean b) texts numbers = (IsUtf8-boolean b, tt)
  tokens_shown (json.number s) texts numbers = (number_utf8 s numbers, tt)
  tokens_shown (json.string s) texts numbers = (IsUtf8-quoted s texts, tt)
  tokens_shown (array js) texts numbers = (ascii 91 (omega arith), items_shown js texts numbers)
  tokens_shown (object ms) texts numbers = (ascii 123 (omega arith), members_shown ms texts numbers)

  items_shown : (js : Items) → ItemsHaveTexts js → ItemsHaveNumbers js → AreShown (items_tokens js)
  items_shown no_items texts numbers = (ascii 93 (omega arith), tt)
  items_shown (item j js) texts numbers = shown-append (json_tokens j) (items_tokens js) (tokens_shown j texts.0 numbers.0) (items_shown js texts.1 numbers.1)

  members_shown : (ms : Members) → MembersHaveTexts ms → MembersHaveNumbers ms → AreShown (members_tokens ms)
  members_shown no_members texts numbers = (ascii 125 (omega arith), tt)
  members_shown (member k j ms) texts numbers =
      (IsUtf8-key k texts.0, shown-append (json_tokens j) (members_tokens ms) (tokens_shown j texts.1 numbers.0) (members_shown ms texts.2 numbers.1))

printed : (after_value : Bool) (ts : List Token) → AreShown ts → IsUtf8 (print_from after_value ts)
unfolding print_from
printed after_value [] shown = IsUtf8-nil
printed after_value (t ∷ ts) shown =
    IsUtf8-append (separator after_value t) (token_text t ++ print_from (ends t) ts) (IsUtf8-separator after_value t) (IsUtf8-append (token_text t) (print_from (ends t) ts) shown.0 (printed (ends t) ts shown.1))

text_utf8 : (j : Json) → HasTexts j → HasNumbers j → IsUtf8 (json_text j)
unfolding json_text
text_utf8 j texts numbers = printed false (json_tokens j) (tokens_shown j texts numbers)

-- ---- said again

-- They are such as a host can say, or they nest too deep.
abbrev pub AreAgain : Option (List ℕ) → Type 0
AreAgain None = ⊤
AreAgain (Some params) = AreParams (Some params) ⊎ IsDeep params

again_if : (j : Json) (b : Bool) → nat_le (depth j) MOST_DEPTH_OUT ≡ b → HasTexts j → HasNumbers j → is_structured (json_text j) ≡ true → AreAgain (Some (json_text j))
again_if j true few texts numbers structured =
    let shallow : depth j ≤ MOST_DEPTH_OUT = grind (arith, nat_tests) in
    inl (is_json_text j numbers shallow (text_utf8 j texts numbers), structured)
again_if j false deep texts numbers structured =
    let more : MOST_DEPTH_OUT < depth j = grind (arith, nat_tests) in
    inr (j, refl, more)

pub again : (j : Json) → HasTexts j → HasNumbers j → is_structured (json_text j) ≡ true → AreAgain (Some (json_text j))
again j texts numbers structured = again_if j (nat_le (depth j) MOST_DEPTH_OUT) refl texts numbers structured

pub array_structured : (js : Items) → is_structured (json_text (array js)) ≡ true
unfolding json_text print_from
array_structured js = refl

pub object_structured : (ms : Members) → is_structured (json_text (object ms)) ≡ true
unfolding json_text print_from
object_structured ms = refl
