-- Strings, a part behind another.
use Rattle.std.proofs.Common.{◌≡◌, ℕ, suc, ◌+◌, ◌-◌, ◌<◌, ◌≤◌, ◌*◌, ◌⊎◌, inl, inr, Bool, true, false, cond, ◌==◌, ◌&&◌, ◌||◌, List, [], ◌∷◌, ◌++◌, length, take, drop, get_or, Option, Some, None, option_and_then, refl, sym, ap, ap₂, ◌∙◌, subst, arith, append_assoc, append-nil, drop-drop}
use Rattle.std.proofs.lemmas.Bool.{ne_eqb, true≢false, and_parts, or_parts, not-true}
use Rattle.std.proofs.lemmas.List.{drop_more}
use Rattle.std.proofs.lemmas.Str.{encode_ascii}
use Rattle.std.specs.List.{prefix_len}
use Rattle.std.specs.Char.{is_digit, digit_value, encode_utf8}
use Rattle.json.specs.Lex.{Lexeme, token, Mode, lex, lex_byte, between, in_string, operator, space, other, string_token}
use Rattle.json.specs.Run.{is_plain}
use Rattle.json.specs.Text.{content, plain, after_backslash, after_u, after_high, prepend, code_unit, short_escape, is_high_surrogate, is_low_surrogate, surrogate_pair}
use Rattle.json.specs.Token.{string}
use Rattle.json.specs.Word.{is_operator, is_space}
use Rattle.json_texts.proofs.Lexed.{nothing_yet, plain_more}
use Rattle.json_texts.proofs.Placed.{byte_stands}
use Rattle.value_reading.specs.Lexed.{Lexed, HasBlanks, Opens, HasBytes, HasUnit, HasRest}

-- ---- parts

prepend-prepend : (a b : List ℕ) (r : Option (List ℕ)) → prepend a (prepend b r) ≡ prepend (a ++ b) r
prepend-prepend a b None = refl
prepend-prepend a b (Some s) = ap Some (sym (append_assoc a b s))

prepend-nil : (r : Option (List ℕ)) → prepend [] r ≡ r
prepend-nil None = refl
prepend-nil (Some s) = refl

content_byte : (p : Bool) (x n : ℕ) (xs : List ℕ) → p ≡ is_plain x → content plain xs ≡ prepend (take n xs) (content plain (drop n xs))
    → content plain (x ∷ xs) ≡ prepend (take (cond p (1 + n) 0) (x ∷ xs)) (content plain (drop (cond p (1 + n) 0) (x ∷ xs)))
unfolding content
content_byte false x n xs e ih = sym (prepend-nil _)
content_byte true x n xs e ih =
    let next : suc n ≡ 1 + n = omega arith in
    let none = or_parts ((x == 34) || (x == 92)) _ (not-true _ (sym e)) in
    let tests = or_parts (x == 34) _ none.0 in
    (λ i. cond (tests.0 i) (Some []) (cond (tests.1 i) (content after_backslash xs) (cond (none.1 i) None (prepend (x ∷ []) (ih i)))))
    ∙ prepend-prepend (x ∷ []) (take n xs) _ ∙ ap (λ k. prepend (take k (x ∷ xs)) (content plain (drop k (x ∷ xs)))) next

content-run : (xs : List ℕ) → content plain xs ≡ prepend (take (prefix_len is_plain xs) xs) (content plain (drop (prefix_len is_plain xs) xs))
content-run [] = sym (prepend-nil _)
content-run (x ∷ xs) = content_byte (is_plain x) x (prefix_len is_plain xs) xs refl (content-run xs)

lex-opened : (xs : List ℕ) → lex between (34 ∷ xs) ≡ token (string_token (content plain xs)) ∷ lex in_string xs
unfolding lex
lex-opened xs = refl

-- the first quote behind blanks
pub quote_opens : (text : List ℕ) (from at : ℕ) → HasBlanks text from at → get_or text at 0 ≡ 34 → Opens text from (at + 1)
quote_opens text from at h quote = h.lexed ∙ ap (lex between) (byte_stands text at 33 quote) ∙ lex-opened (drop (at + 1) text)

pub string_lexed : (text s : List ℕ) (from at end : ℕ) → Opens text from at → HasRest text at s end → Lexed text from (token (string s) ∷ []) end
string_lexed text s from at end opens rest = opens ∙ ap₂ (λ o ls. token (string_token o) ∷ ls) rest.content rest.lexed

pub no_bytes : (text : List ℕ) (at : ℕ) → HasBytes text at [] at
no_bytes text at = record { content = sym (prepend-nil _); lexed = refl }

pub more_bytes : (text a b : List ℕ) (from mid end : ℕ) → HasBytes text from a mid → HasBytes text mid b end → HasBytes text from (a ++ b) end
more_bytes text a b from mid end first second = record {
  content = first.content ∙ ap (prepend a) second.content ∙ prepend-prepend a b _;
  lexed = first.lexed ∙ second.lexed;
}

pub run_bytes : (text : List ℕ) (from stop : ℕ) → stop ≡ from + prefix_len is_plain (drop from text) → HasBytes text from (take (stop - from) (drop from text)) stop
run_bytes text from stop is = record {
  content = (let n : prefix_len is_plain (drop from text) ≡ stop - from = omega (arith, is) in
      content-run (drop from text) ∙ ap (λ l. prepend (take (prefix_len is_plain (drop from text)) (drop from text)) (content plain l)) (drop-drop _ from text ∙ ap (λ k. drop k text) (sym is))
      ∙ ap (λ k. prepend (take k (drop from text)) (content plain (drop stop text))) n);
  lexed = (plain_more text from from stop (nothing_yet text from) is).lexed;
}

content-quote : (xs : List ℕ) → content plain (34 ∷ xs) ≡ Some []
unfolding content
content-quote xs = refl

lex-quote : (xs : List ℕ) → lex in_string (34 ∷ xs) ≡ lex between xs
unfolding lex
lex-quote xs = refl

pub rest_over : (text s : List ℕ) (from at : ℕ) → HasBytes text from s at → get_or text at 0 ≡ 34 → HasRest text from s (at + 1)
rest_over text s from at h quote = record {
  content = h.content ∙ ap (prepend s) (ap (content plain) (byte_stands text at 33 quote) ∙ content-quote (drop (at + 1) text)) ∙ ap Some (append-nil s);
  lexed = h.lexed ∙ ap (lex in_string) (byte_stands text at 33 quote) ∙ lex-quote (drop (at + 1) text);
}

pub rest_behind : (text a b : List ℕ) (from mid end : ℕ) → HasBytes text from a mid → HasRest text mid b end → HasRest text from (a ++ b) end
rest_behind text a b from mid end first rest = record { content = first.content ∙ ap (prepend a) rest.content; lexed = first.lexed ∙ rest.lexed }

pub plain_lexed : (text s : List ℕ) (from at end : ℕ) → Opens text from at → end ≡ at + prefix_len is_plain (drop at text) → get_or text end 0 ≡ 34 → s ≡ take (end - at) (drop at text)
    → Lexed text from (token (string s) ∷ []) (end + 1)
plain_lexed text s from at end opens found quote slice =
    string_lexed text s from at (end + 1) opens (rest_over text s at end (subst (λ b. HasBytes text at b end) (sym slice) (run_bytes text at end found)) quote)

-- ---- escapes

lex-backslash : (x : ℕ) (xs : List ℕ) → lex in_string (92 ∷ x ∷ xs) ≡ lex in_string xs
unfolding lex
lex-backslash x xs = refl

two_bytes : (text : List ℕ) (at : ℕ) → get_or text at 0 ≡ 92 → at + 1 < length text → drop at text ≡ 92 ∷ get_or text (at + 1) 0 ∷ drop (at + 2) text
two_bytes text at backslash within =
    let after : at + 1 + 1 ≡ at + 2 = omega arith in
    byte_stands text at 91 backslash ∙ ap (λ l. 92 ∷ l) (drop_more text (at + 1) 0 within ∙ ap (λ n. get_or text (at + 1) 0 ∷ drop n text) after)

escape_lexed : (text : List ℕ) (at : ℕ) → get_or text at 0 ≡ 92 → at + 1 < length text → lex in_string (drop at text) ≡ lex in_string (drop (at + 2) text)
escape_lexed text at backslash within = ap (lex in_string) (two_bytes text at backslash within) ∙ lex-backslash (get_or text (at + 1) 0) (drop (at + 2) text)

-- a letter behind a backslash
pub short_bytes : (text : List ℕ) (at c : ℕ) → get_or text at 0 ≡ 92 → at + 1 < length text → (get_or text (at + 1) 0 ≡ 117 → ⊥) → short_escape (get_or text (at + 1) 0) ≡ Some c → c < 128
    → HasBytes text at (encode_utf8 c) (at + 2)
unfolding encode_utf8 content
short_bytes text at c backslash within digits is small =
    let letter = get_or text (at + 1) 0 in
    let rest = drop (at + 2) text in
    record {
      content = ap (content plain) (two_bytes text at backslash within)
          ∙ (λ i. cond (ne_eqb letter 117 digits i) (content after_u rest) (option_and_then (λ d. prepend (d ∷ []) (content plain rest)) (is i)))
          ∙ ap (λ s. prepend s (content plain rest)) (sym (encode_ascii c small));
      lexed = escape_lexed text at backslash within;
    }

stays_inside : (o s : Bool) (x : ℕ) (r : List ℕ) (k : Mode → List Lexeme) → lex_byte in_string (cond o operator (cond s space other)) x r k ≡ k in_string
stays_inside true s x r k = refl
stays_inside false true x r k = refl
stays_inside false false x r k = refl

hex_inside : (x : ℕ) (xs : List ℕ) → is_digit x 16 ≡ true → lex in_string (x ∷ xs) ≡ lex in_string xs
unfolding lex
hex_inside x xs is =
    rw (ne_eqb x 34 (λ e. true≢false (sym is ∙ ap (λ y. is_digit y 16) e)), ne_eqb x 92 (λ e. true≢false (sym is ∙ ap (λ y. is_digit y 16) e)))
    (stays_inside (is_operator x) (is_space x) x xs (λ m. lex m xs))

if_some : (b : Bool) (u v : ℕ) → cond b (Some u) None ≡ Some v → b ≡ true
if_some true u v e = refl
if_some false u v e = absurd (let f : None ≡ Some v = e in cc)

four_inside : (a b c d u : ℕ) (xs : List ℕ) → code_unit a b c d ≡ Some u → lex in_string (a ∷ b ∷ c ∷ d ∷ xs) ≡ lex in_string xs
unfolding code_unit
four_inside a b c d u xs is =
    let all = if_some (is_digit a 16 && is_digit b 16 && is_digit c 16 && is_digit d 16) (digit_value a * 4096 + digit_value b * 256 + digit_value c * 16 + digit_value d) u is in
    let p = and_parts _ _ all in
    let q = and_parts _ _ p.0 in
    let r = and_parts _ _ q.0 in
    hex_inside a (b ∷ c ∷ d ∷ xs) r.0 ∙ hex_inside b (c ∷ d ∷ xs) r.1 ∙ hex_inside c (d ∷ xs) q.1 ∙ hex_inside d xs p.1

four_bytes : (d : List ℕ) (i : ℕ) → i + 4 ≤ length d → drop i d ≡ get_or d i 0 ∷ get_or d (i + 1) 0 ∷ get_or d (i + 2) 0 ∷ get_or d (i + 3) 0 ∷ drop (i + 4) d
four_bytes d i h =
    let more : (j k : ℕ) → k ≡ j + 1 → j < length d → drop j d ≡ get_or d j 0 ∷ drop k d = λ j k e l. drop_more d j 0 l ∙ ap (λ n. get_or d j 0 ∷ drop n d) (sym e) in
    more i (i + 1) refl (omega arith) ∙ ap (λ l. get_or d i 0 ∷ l) (more (i + 1) (i + 2) (omega arith) (omega arith) ∙ ap (λ l. get_or d (i + 1) 0 ∷ l)
    (more (i + 2) (i + 3) (omega arith) (omega arith) ∙ ap (λ l. get_or d (i + 2) 0 ∷ l) (more (i + 3) (i + 4) (omega arith) (omega arith))))

digits_lexed : (text : List ℕ) (at u : ℕ) → get_or text at 0 ≡ 92 → at + 6 ≤ length text → HasUnit text (at + 2) u → lex in_string (drop at text) ≡ lex in_string (drop (at + 6) text)
digits_lexed text at u backslash within is =
    let six : at + 2 + 4 ≡ at + 6 = omega arith in
    escape_lexed text at backslash (omega (arith, within)) ∙ ap (lex in_string) (four_bytes text (at + 2) (omega (arith, within)))
    ∙ four_inside _ _ _ _ u (drop (at + 2 + 4) text) is ∙ ap (λ n. lex in_string (drop n text)) six

digits_content : (text : List ℕ) (at u : ℕ) → get_or text at 0 ≡ 92 → get_or text (at + 1) 0 ≡ 117 → at + 6 ≤ length text → HasUnit text (at + 2) u
    → content plain (drop at text) ≡ cond (is_high_surrogate u) (content (after_high u) (drop (at + 6) text)) (cond (is_low_surrogate u) None (prepend (encode_utf8 u) (content plain (drop (at + 6) text))))
unfolding content
digits_content text at u backslash letter within is =
    let six : at + 2 + 4 ≡ at + 6 = omega arith in
    let F : ℕ → Option ℕ → Option (List ℕ) = λ n o. option_and_then (λ v. cond (is_high_surrogate v) (content (after_high v) (drop n text)) (cond (is_low_surrogate v) None (prepend (encode_utf8 v) (content plain (drop n text))))) o in
    ap (content plain) (two_bytes text at backslash (omega (arith, within)) ∙ ap (λ y. 92 ∷ y ∷ drop (at + 2) text) letter)
    ∙ ap (λ l. content plain (92 ∷ 117 ∷ l)) (four_bytes text (at + 2) (omega (arith, within))) ∙ ap (F (at + 2 + 4)) is ∙ ap (λ n. F n (Some u)) six

no_surrogate : (u : ℕ) → (u < 55296) ⊎ (57344 ≤ u) → (is_high_surrogate u ≡ false) × (is_low_surrogate u ≡ false)
no_surrogate u (inl low) = (grind arith, grind arith)
no_surrogate u (inr high) = (grind arith, grind arith)

pub digits_bytes : (text : List ℕ) (at u : ℕ) → get_or text at 0 ≡ 92 → get_or text (at + 1) 0 ≡ 117 → at + 6 ≤ length text → HasUnit text (at + 2) u → (u < 55296) ⊎ (57344 ≤ u)
    → HasBytes text at (encode_utf8 u) (at + 6)
digits_bytes text at u backslash letter within is whole =
    let none = no_surrogate u whole in
    record {
      content = digits_content text at u backslash letter within is
          ∙ ap₂ (λ h l. cond h (content (after_high u) (drop (at + 6) text)) (cond l None (prepend (encode_utf8 u) (content plain (drop (at + 6) text))))) none.0 none.1;
      lexed = digits_lexed text at u backslash within is;
    }

-- two such that are a pair
pub pair_bytes : (text : List ℕ) (at high low : ℕ) → get_or text at 0 ≡ 92 → get_or text (at + 1) 0 ≡ 117 → HasUnit text (at + 2) high → 55296 ≤ high → high < 56320
    → get_or text (at + 6) 0 ≡ 92 → get_or text (at + 7) 0 ≡ 117 → HasUnit text (at + 8) low → 56320 ≤ low → low < 57344 → at + 12 ≤ length text
    → HasBytes text at (encode_utf8 (surrogate_pair high low)) (at + 12)
unfolding content
pair_bytes text at high low backslash letter first above below again more second over under within =
    let seven : at + 6 + 1 ≡ at + 7 = omega arith in
    let eight : at + 6 + 2 ≡ at + 8 = omega arith in
    let twelve : at + 6 + 6 ≡ at + 12 = omega arith in
    let last : at + 6 + 2 + 4 ≡ at + 12 = omega arith in
    let is_high : is_high_surrogate high ≡ true = grind arith in
    let is_low : is_low_surrogate low ≡ true = grind arith in
    let unit : HasUnit text (at + 6 + 2) low = subst (λ n. HasUnit text n low) (sym eight) second in
    let letter_again : get_or text (at + 6 + 1) 0 ≡ 117 = ap (λ n. get_or text n 0) seven ∙ more in
    let G : ℕ → Option ℕ → Option (List ℕ) = λ n o. option_and_then (λ l. cond (is_low_surrogate l) (prepend (encode_utf8 (surrogate_pair high l)) (content plain (drop n text))) None) o in
    record {
      content = digits_content text at high backslash letter (omega (arith, within)) first
          ∙ ap (λ h. cond h (content (after_high high) (drop (at + 6) text)) (cond (is_low_surrogate high) None (prepend (encode_utf8 high) (content plain (drop (at + 6) text))))) is_high
          ∙ ap (content (after_high high)) (two_bytes text (at + 6) again (omega (arith, within)) ∙ ap (λ y. 92 ∷ y ∷ drop (at + 6 + 2) text) letter_again)
          ∙ ap (λ l. content (after_high high) (92 ∷ 117 ∷ l)) (four_bytes text (at + 6 + 2) (omega (arith, within)))
          ∙ ap (G (at + 6 + 2 + 4)) unit ∙ ap (λ l. cond l (prepend (encode_utf8 (surrogate_pair high low)) (content plain (drop (at + 6 + 2 + 4) text))) None) is_low
          ∙ ap (λ n. prepend (encode_utf8 (surrogate_pair high low)) (content plain (drop n text))) last;
      lexed = digits_lexed text at high backslash (omega (arith, within)) first
          ∙ digits_lexed text (at + 6) low again (omega (arith, within)) unit ∙ ap (λ n. lex in_string (drop n text)) twelve;
    }
