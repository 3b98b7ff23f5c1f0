-- The lexemes of a value have its tokens, and where single lexemes stand.
use Rattle.std.proofs.Common.{◌≡◌, ℕ, zero, suc, ◌+◌, ◌<◌, ◌≤◌, true, false, cond, ◌==◌, ◌||◌, ◌⊎◌, inl, inr, List, [], ◌∷◌, ◌++◌, length, drop, get_or, Some, refl, sym, ap, ◌∙◌, subst, arith, append_assoc, drop-drop, lt_of_not-le}
use Rattle.std.specs.List.{prefix_len}
use Rattle.std.proofs.lemmas.Bool.{cases_Bool, ne_eqb, true≢false, eqb-true, or_cases}
use Rattle.std.proofs.lemmas.List.{drop_more, drop_all, get_or_past}
use Rattle.json.specs.Json as json
use Rattle.json.specs.Json.{value, if_last}
use Rattle.json.specs.Lex.{Lexeme, token, colon, lex, between, operator_lexeme, Place, fresh, after_value, after_comma, after_key, may_begin, begins_colon, place_token, if_allowed, punctuate, tokens}
use Rattle.json.specs.Token.{Token, begin_object, begin_array, key, string, number, boolean, null}
use Rattle.json.specs.Tree.{json_tokens, items_tokens, members_tokens}
use Rattle.json.specs.Word.{is_operator, is_space, ends_word}
use Rattle.json.proofs.Printed.Trees.{value-json_tokens}
use Rattle.serde_json.specs.Data.{Data}
use Rattle.serde_json.specs.Read.{of_json, max_depth, read}
use Rattle.std.specs.Prelude.{option_and_then}
use Rattle.value_reading.specs.Lexed.{Lexed, EndsWord, HasBlanks, value_lexemes, items_lexemes, members_lexemes, after_item, after_member, IsRead, is_space_byte}

-- ---- the tokens of a value's lexemes

punctuate-token : (p : Place) (t : Token) (ls : List Lexeme) → punctuate p (token t ∷ ls) ≡ place_token p t (begins_colon ls) (λ next. punctuate next ls)
unfolding punctuate
punctuate-token fresh t ls = refl
punctuate-token after_value t ls = refl
punctuate-token after_comma t ls = refl
punctuate-token after_key t ls = refl

no_colon_item : (js : json.Items) (rest : List Lexeme) → begins_colon (after_item js (items_lexemes js) ++ rest) ≡ false
no_colon_item json.no_items rest = refl
no_colon_item (json.item j js) rest = refl

no_colon_member : (ms : json.Members) (rest : List Lexeme) → begins_colon (after_member ms (members_lexemes ms) ++ rest) ≡ false
no_colon_member json.no_members rest = refl
no_colon_member (json.member k j ms) rest = refl

item_tokens : (j : json.Json) (js : json.Items) (p : Place) (rest : List Lexeme)
    → punctuate p (value_lexemes j ++ (after_item js (items_lexemes js) ++ rest)) ≡ json_tokens j ++ punctuate after_value (after_item js (items_lexemes js) ++ rest)
    → punctuate after_value (after_item js (items_lexemes js) ++ rest) ≡ items_tokens js ++ punctuate after_value rest
    → punctuate p (items_lexemes (json.item j js) ++ rest) ≡ items_tokens (json.item j js) ++ punctuate after_value rest
item_tokens j js p rest one more =
    ap (punctuate p) (append_assoc (value_lexemes j) (after_item js (items_lexemes js)) rest) ∙ one
    ∙ ap (λ l. json_tokens j ++ l) more ∙ sym (append_assoc (json_tokens j) (items_tokens js) (punctuate after_value rest))

member_tokens : (k : List ℕ) (j : json.Json) (ms : json.Members) (p : Place) (rest : List Lexeme) → may_begin p ≡ true
    → punctuate fresh (value_lexemes j ++ (after_member ms (members_lexemes ms) ++ rest)) ≡ json_tokens j ++ punctuate after_value (after_member ms (members_lexemes ms) ++ rest)
    → punctuate after_value (after_member ms (members_lexemes ms) ++ rest) ≡ members_tokens ms ++ punctuate after_value rest
    → punctuate p (members_lexemes (json.member k j ms) ++ rest) ≡ members_tokens (json.member k j ms) ++ punctuate after_value rest
unfolding punctuate
member_tokens k j ms p rest may one more =
    let ls = (value_lexemes j ++ after_member ms (members_lexemes ms)) ++ rest in
    punctuate-token p (string k) (colon ∷ ls) ∙ ap (λ b. if_allowed b (key k) (λ next. punctuate next (colon ∷ ls)) after_key) may
    ∙ ap (λ l. key k ∷ l)
    (ap (punctuate fresh) (append_assoc (value_lexemes j) (after_member ms (members_lexemes ms)) rest) ∙ one
    ∙ ap (λ l. json_tokens j ++ l) more ∙ sym (append_assoc (json_tokens j) (members_tokens ms) (punctuate after_value rest)))

mutual
  unfolding punctuate

  value_tokens : (j : json.Json) (p : Place) (rest : List Lexeme) → may_begin p ≡ true → begins_colon rest ≡ false → punctuate p (value_lexemes j ++ rest) ≡ json_tokens j ++ punctuate after_value rest
  value_tokens json.null p rest may none = punctuate-token p null rest ∙ ap (λ b. if_allowed b null (λ next. punctuate next rest) after_value) may
  value_tokens (json.boolean b) p rest may none = punctuate-token p (boolean b) rest ∙ ap (λ a. if_allowed a (boolean b) (λ next. punctuate next rest) after_value) may
  value_tokens (json.number s) p rest may none = punctuate-token p (number s) rest ∙ ap (λ b. if_allowed b (number s) (λ next. punctuate next rest) after_value) may
  value_tokens (json.string s) p rest may none =
      punctuate-token p (string s) rest ∙ ap (λ c. place_token p (string s) c (λ next. punctuate next rest)) none
      ∙ ap (λ b. if_allowed b (string s) (λ next. punctuate next rest) after_value) may
  value_tokens (json.array js) p rest may none =
      punctuate-token p begin_array (items_lexemes js ++ rest) ∙ ap (λ b. if_allowed b begin_array (λ next. punctuate next (items_lexemes js ++ rest)) fresh) may
      ∙ ap (λ l. begin_array ∷ l) (array_tokens js rest)
  value_tokens (json.object ms) p rest may none =
      punctuate-token p begin_object (members_lexemes ms ++ rest) ∙ ap (λ b. if_allowed b begin_object (λ next. punctuate next (members_lexemes ms ++ rest)) fresh) may
      ∙ ap (λ l. begin_object ∷ l) (object_tokens ms rest)

  array_tokens : (js : json.Items) (rest : List Lexeme) → punctuate fresh (items_lexemes js ++ rest) ≡ items_tokens js ++ punctuate after_value rest
  array_tokens json.no_items rest = refl
  array_tokens (json.item j js) rest =
      item_tokens j js fresh rest (value_tokens j fresh (after_item js (items_lexemes js) ++ rest) refl (no_colon_item js rest)) (more_items_tokens js rest)

  more_items_tokens : (js : json.Items) (rest : List Lexeme) → punctuate after_value (after_item js (items_lexemes js) ++ rest) ≡ items_tokens js ++ punctuate after_value rest
  more_items_tokens json.no_items rest = refl
  more_items_tokens (json.item j js) rest =
      item_tokens j js after_comma rest (value_tokens j after_comma (after_item js (items_lexemes js) ++ rest) refl (no_colon_item js rest)) (more_items_tokens js rest)

  object_tokens : (ms : json.Members) (rest : List Lexeme) → punctuate fresh (members_lexemes ms ++ rest) ≡ members_tokens ms ++ punctuate after_value rest
  object_tokens json.no_members rest = refl
  object_tokens (json.member k j ms) rest =
      member_tokens k j ms fresh rest refl (value_tokens j fresh (after_member ms (members_lexemes ms) ++ rest) refl (no_colon_member ms rest)) (more_members_tokens ms rest)

  more_members_tokens : (ms : json.Members) (rest : List Lexeme) → punctuate after_value (after_member ms (members_lexemes ms) ++ rest) ≡ members_tokens ms ++ punctuate after_value rest
  more_members_tokens json.no_members rest = refl
  more_members_tokens (json.member k j ms) rest =
      member_tokens k j ms after_comma rest refl (value_tokens j fresh (after_member ms (members_lexemes ms) ++ rest) refl (no_colon_member ms rest)) (more_members_tokens ms rest)

lex-nil : lex between [] ≡ []
unfolding lex
lex-nil = refl

punctuate-nil : punctuate after_value [] ≡ []
unfolding punctuate
punctuate-nil = refl

-- what is read of a text behind whose value nothing stands
pub text_read : (text : List ℕ) (end last : ℕ) (d : Data) → IsRead max_depth text 0 end d → HasBlanks text end last → length text ≤ last → read text ≡ Some d
text_read text end last d r blanks whole =
    let none : drop last text ≡ [] = drop_all last text whole in
    let ends : EndsWord text end = blanks.ends (ap ends_word none) in
    let behind : lex between (drop end text) ≡ [] = blanks.lexed ∙ ap (lex between) none ∙ lex-nil in
    let all : tokens text ≡ json_tokens r.value ++ [] =
    ap (punctuate fresh) (r.lexed ends ∙ ap (λ l. value_lexemes r.value ++ l) behind) ∙ value_tokens r.value fresh [] refl refl
    ∙ ap (λ l. json_tokens r.value ++ l) punctuate-nil in
    let found : value max_depth (tokens text) ≡ Some (r.value, []) = ap (value max_depth) all ∙ value-json_tokens r.value max_depth [] r.nests in
    ap (λ o. option_and_then of_json (option_and_then (λ p. if_last p.0 p.1) o)) found ∙ r.is

-- ---- bytes

lex-operator : (x : ℕ) (xs : List ℕ) → is_operator x ≡ true → lex between (x ∷ xs) ≡ operator_lexeme x ∷ lex between xs
unfolding lex
lex-operator x xs is = rw (ne_eqb x 34 (λ e. true≢false (sym is ∙ ap is_operator e)), ne_eqb x 92 (λ e. true≢false (sym is ∙ ap is_operator e)), is)

space_cases : (x : ℕ) → is_space x ≡ true → (x ≡ 32) ⊎ ((x ≡ 9) ⊎ ((x ≡ 10) ⊎ (x ≡ 13)))
space_cases x is = elim (or_cases ((x == 32) || (x == 9) || (x == 10)) (x == 13) is) [
  | inr e ↦ inr (inr (inr (eqb-true x 13 e)))
  | inl h ↦ elim (or_cases ((x == 32) || (x == 9)) (x == 10) h) [
    | inr e ↦ inr (inr (inl (eqb-true x 10 e)))
    | inl k ↦ elim (or_cases (x == 32) (x == 9) k) [
      | inl e ↦ inl (eqb-true x 32 e)
      | inr e ↦ inr (inl (eqb-true x 9 e))
    ]
  ]
]

by_space : (P : ℕ → Type 0) (x : ℕ) → P 32 → P 9 → P 10 → P 13 → is_space x ≡ true → P x
by_space P x a b c d is = elim (space_cases x is) [
  | inl e ↦ subst P (sym e) a
  | inr h ↦ elim h [
    | inl e ↦ subst P (sym e) b
    | inr k ↦ elim k [
      | inl e ↦ subst P (sym e) c
      | inr e ↦ subst P (sym e) d
    ]
  ]
]

lex-space : (x : ℕ) (xs : List ℕ) → is_space x ≡ true → lex between (x ∷ xs) ≡ lex between xs
unfolding lex
lex-space x xs is = by_space (λ y. lex between (y ∷ xs) ≡ lex between xs) x refl refl refl refl is

space_ends : (x : ℕ) (xs : List ℕ) → is_space x ≡ true → ends_word (x ∷ xs) ≡ true
space_ends x xs is = by_space (λ y. ends_word (y ∷ xs) ≡ true) x refl refl refl refl is

pub no_blanks : (text : List ℕ) (at : ℕ) → HasBlanks text at at
no_blanks text at = record { order = omega arith; lexed = refl; ends = λ e. e }

pub more_blanks : (text : List ℕ) (from at : ℕ) → HasBlanks text from at → at < length text → is_space (get_or text at 0) ≡ true → HasBlanks text from (at + 1)
more_blanks text from at h within is = record {
  order = (let before = h.order in omega (arith, before));
  lexed = h.lexed ∙ ap (lex between) (drop_more text at 0 within) ∙ lex-space (get_or text at 0) (drop (at + 1) text) is;
  ends = λ e. h.ends (ap ends_word (drop_more text at 0 within) ∙ space_ends (get_or text at 0) (drop (at + 1) text) is);
}

lex_spaces : (xs : List ℕ) (n : ℕ) → n ≤ prefix_len is_space_byte xs → lex between xs ≡ lex between (drop n xs)
lex_spaces xs zero few = refl
lex_spaces [] (suc n) few = refl
lex_spaces (x ∷ xs) (suc n) few = elim (cases_Bool (x == 32)) [
  | inl is ↦
      let more : prefix_len is_space_byte (x ∷ xs) ≡ 1 + prefix_len is_space_byte xs = ap (λ b. cond b (1 + prefix_len is_space_byte xs) 0) is in
      lex-space x xs (ap (λ b. b || (x == 9) || (x == 10) || (x == 13)) is) ∙ lex_spaces xs n (omega (arith, few, more))
  | inr is ↦
      let none : prefix_len is_space_byte (x ∷ xs) ≡ 0 = ap (λ b. cond b (1 + prefix_len is_space_byte xs) 0) is in
      absurd (omega (arith, few, none))
]

spaces_end : (xs : List ℕ) (n : ℕ) → n ≤ prefix_len is_space_byte xs → ends_word (drop n xs) ≡ true → ends_word xs ≡ true
spaces_end xs zero few e = e
spaces_end [] (suc n) few e = refl
spaces_end (x ∷ xs) (suc n) few e = elim (cases_Bool (x == 32)) [
  | inl is ↦ space_ends x xs (ap (λ b. b || (x == 9) || (x == 10) || (x == 13)) is)
  | inr is ↦
      let none : prefix_len is_space_byte (x ∷ xs) ≡ 0 = ap (λ b. cond b (1 + prefix_len is_space_byte xs) 0) is in
      absurd (omega (arith, few, none))
]

-- a row of spaces
pub row_blanks : (text : List ℕ) (at n : ℕ) → n ≤ prefix_len is_space_byte (drop at text) → HasBlanks text at (at + n)
row_blanks text at n few = record {
  order = omega arith;
  lexed = lex_spaces (drop at text) n few ∙ ap (lex between) (drop-drop n at text);
  ends = λ e. spaces_end (drop at text) n few (ap ends_word (drop-drop n at text) ∙ e);
}

pub blanks_behind : (text : List ℕ) (from mid end : ℕ) → HasBlanks text from mid → HasBlanks text mid end → HasBlanks text from end
blanks_behind text from mid end first second = record {
  order = (let a = first.order in let b = second.order in omega (arith, a, b));
  lexed = first.lexed ∙ second.lexed;
  ends = λ e. first.ends (second.ends e);
}

operator_within : (text : List ℕ) (at x : ℕ) → get_or text at 0 ≡ x → is_operator x ≡ true → at < length text
operator_within text at x is operator = lt_of_not-le (λ past. true≢false (sym operator ∙ ap is_operator (sym is ∙ get_or_past text at 0 past)))

-- an operator behind blanks
pub operator_behind : (text : List ℕ) (from at x : ℕ) → HasBlanks text from at → get_or text at 0 ≡ x → is_operator x ≡ true → Lexed text from (operator_lexeme x ∷ []) (at + 1)
operator_behind text from at x h is operator =
    h.lexed ∙ ap (lex between) (drop_more text at 0 (operator_within text at x is operator) ∙ ap (λ y. y ∷ drop (at + 1) text) is) ∙ lex-operator x (drop (at + 1) text) operator
