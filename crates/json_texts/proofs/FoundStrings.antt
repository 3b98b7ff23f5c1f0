-- Strings without an escape of four digits are found to their quotes.
use Rattle.std.proofs.Common.{◌≡◌, ℕ, suc, ◌+◌, ◌-◌, ◌<◌, ◌≤◌, ◌⊎◌, inl, inr, List, [], ◌∷◌, ◌++◌, length, drop, get_or, cond, Bool, true, false, ◌||◌, ◌==◌, Option, Some, None, is_some, unwrap_or, refl, sym, ap, ◌∙◌, subst, arith, append_assoc, length-append, length-drop, drop-drop, get_or-drop}
use Rattle.std.proofs.lemmas.Bool.{cases_eq, cases_Bool, eqb-false, not-true, or_parts, ltb-false, false≢true}
use Rattle.std.proofs.lemmas.List.{drop_all, drop_at}
use Rattle.std.specs.List.{prefix_len}
use Rattle.json.specs.Print.{escape, escape_byte, quoted}
use Rattle.json.specs.Run.{is_plain}
use Rattle.json.proofs.Printed.Strings.{escape_byte_plain}
use Rattle.json_texts.specs.Standing.{is_escape_letter}
use Rattle.json_texts.specs.Found.{is_short, IsShort, Finds, FindsQuote, FindsString, FindsName}

-- ---- parts of a text

pub part_behind : (text part rest : List ℕ) (from : ℕ) → drop from text ≡ part ++ rest → drop (from + length part) text ≡ rest
part_behind text part rest from stands = sym (drop-drop (length part) from text) ∙ ap (drop (length part)) stands ∙ drop_at part rest (length part) refl

pub first_is : (text rest : List ℕ) (from x : ℕ) → drop from text ≡ x ∷ rest → get_or text from 0 ≡ x
first_is text rest from x stands =
    let same : from + 0 ≡ from = omega arith in
    ap (λ n. get_or text n 0) (sym same) ∙ sym (get_or-drop from text 0 0) ∙ ap (λ l. get_or l 0 0) stands

pub some_within : (text rest : List ℕ) (from x : ℕ) → drop from text ≡ x ∷ rest → from < length text
some_within text rest from x stands = let size : length text - from ≡ suc (length rest) = sym (length-drop from text) ∙ ap length stands in omega (arith, size)

-- ---- bytes

abbrev HasLetter : ℕ → Type 0
HasLetter x = (letter : ℕ) × (escape_byte x ≡ 92 ∷ letter ∷ []) × (is_escape_letter letter ≡ true)

letter_of : (x : ℕ) → is_short x ≡ true → is_plain x ≡ false → HasLetter x
unfolding escape_byte
letter_of x short stop = go (cases_eq x 34) (cases_eq x 92) (cases_eq x 8) (cases_eq x 9) (cases_eq x 10) (cases_eq x 12) (cases_eq x 13)
  where
    go : (x ≡ 34) ⊎ (x ≡ 34 → ⊥) → (x ≡ 92) ⊎ (x ≡ 92 → ⊥) → (x ≡ 8) ⊎ (x ≡ 8 → ⊥) → (x ≡ 9) ⊎ (x ≡ 9 → ⊥) → (x ≡ 10) ⊎ (x ≡ 10 → ⊥) → (x ≡ 12) ⊎ (x ≡ 12 → ⊥)
        → (x ≡ 13) ⊎ (x ≡ 13 → ⊥) → HasLetter x
    go (inl e) b c d f g h = subst HasLetter (sym e) (34, refl, refl)
    go (inr a) (inl e) c d f g h = subst HasLetter (sym e) (92, refl, refl)
    go (inr a) (inr b) (inl e) d f g h = subst HasLetter (sym e) (98, refl, refl)
    go (inr a) (inr b) (inr c) (inl e) f g h = subst HasLetter (sym e) (116, refl, refl)
    go (inr a) (inr b) (inr c) (inr d) (inl e) g h = subst HasLetter (sym e) (110, refl, refl)
    go (inr a) (inr b) (inr c) (inr d) (inr f) (inl e) h = subst HasLetter (sym e) (102, refl, refl)
    go (inr a) (inr b) (inr c) (inr d) (inr f) (inr g) (inl e) = subst HasLetter (sym e) (114, refl, refl)
    go (inr a) (inr b) (inr c) (inr d) (inr f) (inr g) (inr h) = absurd (grind (arith, short, stop))

plain_byte : (x : ℕ) → is_plain x ≡ true → escape_byte x ≡ x ∷ []
plain_byte x plain =
    let none = or_parts ((x == 34) || (x == 92)) _ (not-true _ plain) in
    let tests = or_parts (x == 34) _ none.0 in
    escape_byte_plain x (eqb-false x 34 tests.0) (eqb-false x 92 tests.1) (ltb-false x 32 none.1)

-- ---- a run of plain bytes

-- what is left of a string behind its first plain bytes
record Left (s rest : List ℕ) (n : ℕ) : Type 0 where
  after : List ℕ
  short : IsShort after
  stands : drop n (escape s ++ 34 ∷ rest) ≡ escape after ++ 34 ∷ rest
  size : length (escape s) ≡ n + length (escape after)
  stops : is_plain (get_or after 0 34) ≡ false

short_rest : (x : ℕ) (s : List ℕ) → IsShort (x ∷ s) → IsShort s
short_rest x s short = λ k d below. short (suc k) d (omega (arith, below))

short_first : (x : ℕ) (s : List ℕ) → IsShort (x ∷ s) → is_short x ≡ true
short_first x s short = short 0 0 (omega arith)

-- of the run's length, where one more plain byte stands before it
one_more : (x n : ℕ) (s rest : List ℕ) → (b : Bool) → is_plain x ≡ b → escape_byte x ≡ x ∷ [] → b ≡ true → Left s rest n → Left (x ∷ s) rest (cond b (1 + n) 0)
one_more x n s rest false is byte sure l = absurd (false≢true sure)
one_more x n s rest true is byte sure l =
    let next : suc n ≡ 1 + n = omega arith in
    let size : length (escape (x ∷ s)) ≡ suc (length (escape s)) = ap (λ (b : List ℕ). length (b ++ escape s)) byte in
    let size_left : length (escape s) ≡ n + length (escape l.after) = l.size in
    record {
      after = l.after;
      short = l.short;
      stands = ap (λ k. drop k (escape (x ∷ s) ++ 34 ∷ rest)) (sym next) ∙ ap (λ (b : List ℕ). drop (suc n) ((b ++ escape s) ++ 34 ∷ rest)) byte ∙ l.stands;
      size = omega (arith, size, size_left);
      stops = l.stops;
    }

left : (s rest : List ℕ) → IsShort s → Left s rest (prefix_len is_plain (escape s ++ 34 ∷ rest))
left [] rest short = record { after = []; short = short; stands = refl; size = refl; stops = refl }
left (x ∷ s) rest short = go (cases_Bool (is_plain x)) (left s rest (short_rest x s short))
  where
    go : (is_plain x ≡ true) ⊎ (is_plain x ≡ false) → Left s rest (prefix_len is_plain (escape s ++ 34 ∷ rest)) → Left (x ∷ s) rest (prefix_len is_plain (escape (x ∷ s) ++ 34 ∷ rest))
    go (inl plain) l =
        let byte = plain_byte x plain in
        subst (λ n. Left (x ∷ s) rest n) (ap (λ (b : List ℕ). prefix_len is_plain ((b ++ escape s) ++ 34 ∷ rest)) (sym byte)) (one_more x _ s rest (is_plain x) refl byte plain l)
    go (inr stop) l =
        let letter = letter_of x (short_first x s short) stop in
        let none : prefix_len is_plain (escape (x ∷ s) ++ 34 ∷ rest) ≡ 0 = ap (λ (b : List ℕ). prefix_len is_plain ((b ++ escape s) ++ 34 ∷ rest)) letter.1 in
        subst (λ n. Left (x ∷ s) rest n) (sym none) (record { after = x ∷ s; short = short; stands = refl; size = omega arith; stops = stop })

-- a string that begins with no plain byte
abbrev FindsStop : List ℕ → ℕ → Option ℕ → Type 0
FindsStop text stop found = (s rest : List ℕ) → IsShort s → is_plain (get_or s 0 34) ≡ false → Finds text stop found (escape s) (34 ∷ rest)

-- past a run of plain bytes
pub run_found : (text : List ℕ) (at stop : ℕ) (found : Option ℕ) → stop ≡ at + prefix_len is_plain (drop at text) → FindsStop text stop found → FindsQuote text at found
unfolding FindsQuote
run_found text at stop found is finds s rest short stands =
    let l = left s rest short in
    let n = prefix_len is_plain (escape s ++ 34 ∷ rest) in
    let place : stop ≡ at + n = is ∙ ap (λ t. at + prefix_len is_plain t) stands in
    let behind : drop stop text ≡ escape l.after ++ 34 ∷ rest = ap (λ k. drop k text) place ∙ sym (drop-drop n at text) ∙ ap (drop n) stands ∙ l.stands in
    let size : length (escape s) ≡ n + length (escape l.after) = l.size in
    let whole : stop + length (escape l.after) ≡ at + length (escape s) = omega (arith, size, place) in
    finds l.after rest l.short l.stops behind ∙ ap Some whole

-- what stands there where a string begins with no plain byte
begins : (x : ℕ) (s rest : List ℕ) (letter : ℕ) → escape_byte x ≡ 92 ∷ letter ∷ [] → escape (x ∷ s) ++ 34 ∷ rest ≡ 92 ∷ letter ∷ (escape s ++ 34 ∷ rest)
begins x s rest letter byte = ap (λ (b : List ℕ). (b ++ escape s) ++ 34 ∷ rest) byte

pub quote_found : (text : List ℕ) (stop : ℕ) → get_or text stop 0 ≡ 34 → FindsStop text stop (Some stop)
quote_found text stop is [] rest short stops stands = let none : stop ≡ stop + 0 = omega arith in ap Some none
quote_found text stop is (x ∷ s) rest short stops stands =
    let letter = letter_of x (short_first x s short) stops in
    let other = first_is text _ stop 92 (stands ∙ begins x s rest letter.0 letter.1) in
    absurd (omega (arith, is, other))

pub none_found : (text : List ℕ) (stop : ℕ) (found : Option ℕ) → (get_or text stop 0 ≡ 34 → ⊥) → (get_or text stop 0 ≡ 92 → ⊥) → FindsStop text stop found
none_found text stop found quote backslash [] rest short stops stands = absurd (quote (first_is text rest stop 34 stands))
none_found text stop found quote backslash (x ∷ s) rest short stops stands =
    let letter = letter_of x (short_first x s short) stops in
    absurd (backslash (first_is text _ stop 92 (stands ∙ begins x s rest letter.0 letter.1)))

pub long_found : (text : List ℕ) (stop : ℕ) (found : Option ℕ) → get_or text stop 0 ≡ 92 → is_escape_letter (get_or text (stop + 1) 0) ≡ false → FindsStop text stop found
long_found text stop found is none [] rest short stops stands = absurd (let other = first_is text rest stop 34 stands in omega (arith, is, other))
long_found text stop found is none (x ∷ s) rest short stops stands =
    let letter = letter_of x (short_first x s short) stops in
    let behind = part_behind text (92 ∷ []) (letter.0 ∷ (escape s ++ 34 ∷ rest)) stop (stands ∙ begins x s rest letter.0 letter.1) in
    absurd (false≢true (sym none ∙ ap is_escape_letter (first_is text _ (stop + 1) letter.0 behind) ∙ letter.2))

pub escape_found : (text : List ℕ) (stop : ℕ) (found : Option ℕ) → get_or text stop 0 ≡ 92 → FindsQuote text (stop + 2) found → FindsStop text stop found
unfolding FindsQuote
escape_found text stop found is finds [] rest short stops stands = absurd (let other = first_is text rest stop 34 stands in omega (arith, is, other))
escape_found text stop found is finds (x ∷ s) rest short stops stands =
    let letter = letter_of x (short_first x s short) stops in
    let behind = part_behind text (92 ∷ letter.0 ∷ []) (escape s ++ 34 ∷ rest) stop (stands ∙ begins x s rest letter.0 letter.1) in
    let size : length (escape (x ∷ s)) ≡ suc (suc (length (escape s))) = ap (λ (b : List ℕ). length (b ++ escape s)) letter.1 in
    let whole : stop + 2 + length (escape s) ≡ stop + length (escape (x ∷ s)) = omega (arith, size) in
    finds s rest (short_rest x s short) behind ∙ ap Some whole

pub past_found : (text : List ℕ) (at : ℕ) (found : Option ℕ) → length text ≤ at → FindsQuote text at found
unfolding FindsQuote
past_found text at found past s rest short stands =
    let none : drop at text ≡ [] = drop_all at text past in
    let size : 0 ≡ length (escape s) + suc (length rest) = ap length (sym none ∙ stands) ∙ length-append (escape s) (34 ∷ rest) in
    absurd (omega (arith, size))

-- ---- with the quotes

pub string_found : (text : List ℕ) (from end : ℕ) → FindsQuote text from (Some end) → FindsString text from (Some (end + 1))
unfolding FindsQuote FindsString
string_found text from end finds s rest short stands =
    let e = finds s rest short (stands ∙ append_assoc (escape s) (34 ∷ []) rest) in
    let place : end ≡ from + length (escape s) = ap (λ o. unwrap_or o 0) e in
    let size : length (escape s ++ 34 ∷ []) ≡ length (escape s) + 1 = length-append (escape s) (34 ∷ []) in
    let whole : end + 1 ≡ from + length (escape s ++ 34 ∷ []) = omega (arith, place, size) in
    ap Some whole

-- where no quote is found
pub no_string_found : (text : List ℕ) (from : ℕ) (found : Option ℕ) → FindsQuote text from None → FindsString text from found
unfolding FindsQuote FindsString
no_string_found text from found finds s rest short stands =
    let e = finds s rest short (stands ∙ append_assoc (escape s) (34 ∷ []) rest) in
    absurd (false≢true (ap is_some e))

-- where something else is found than a quote
pub other_string_found : (text : List ℕ) (from end : ℕ) (found : Option ℕ) → FindsQuote text from (Some end) → (get_or text end 0 ≡ 34 → ⊥) → FindsString text from found
unfolding FindsQuote FindsString
other_string_found text from end found finds other s rest short stands =
    let stood = stands ∙ append_assoc (escape s) (34 ∷ []) rest in
    let place : end ≡ from + length (escape s) = ap (λ o. unwrap_or o 0) (finds s rest short stood) in
    absurd (other (ap (λ n. get_or text n 0) place ∙ first_is text rest (from + length (escape s)) 34 (part_behind text (escape s) (34 ∷ rest) from stood)))

quoted_stands : (name rest : List ℕ) → (quoted name ++ 58 ∷ []) ++ rest ≡ 34 ∷ ((escape name ++ 34 ∷ []) ++ 58 ∷ rest)
quoted_stands name rest = ap (λ l. 34 ∷ l) (append_assoc (escape name ++ 34 ∷ []) (58 ∷ []) rest)

pub name_found : (text : List ℕ) (from end : ℕ) → FindsString text (from + 1) (Some end) → FindsName text from (Some (end + 1))
unfolding FindsString FindsName
name_found text from end finds name rest short stands =
    let inside = part_behind text (34 ∷ []) _ from (stands ∙ quoted_stands name rest) in
    let place : end ≡ from + 1 + length (escape name ++ 34 ∷ []) = ap (λ o. unwrap_or o 0) (finds name (58 ∷ rest) short inside) in
    let size : length (quoted name ++ 58 ∷ []) ≡ suc (length (escape name ++ 34 ∷ [])) + 1 = length-append (quoted name) (58 ∷ []) in
    let whole : end + 1 ≡ from + length (quoted name ++ 58 ∷ []) = omega (arith, place, size) in
    ap Some whole

-- where there is no quote
pub unquoted_name_found : (text : List ℕ) (from : ℕ) (found : Option ℕ) → (get_or text from 0 ≡ 34 → ⊥) → FindsName text from found
unfolding FindsName
unquoted_name_found text from found other name rest short stands = absurd (other (first_is text _ from 34 (stands ∙ quoted_stands name rest)))

-- where there is no string
pub no_name_found : (text : List ℕ) (from : ℕ) (found : Option ℕ) → FindsString text (from + 1) None → FindsName text from found
unfolding FindsString FindsName
no_name_found text from found finds name rest short stands =
    let inside = part_behind text (34 ∷ []) _ from (stands ∙ quoted_stands name rest) in
    absurd (false≢true (ap is_some (finds name (58 ∷ rest) short inside)))

-- where something else than a colon is behind it
pub other_name_found : (text : List ℕ) (from end : ℕ) (found : Option ℕ) → FindsString text (from + 1) (Some end) → (get_or text end 0 ≡ 58 → ⊥) → FindsName text from found
unfolding FindsString FindsName
other_name_found text from end found finds other name rest short stands =
    let inside = part_behind text (34 ∷ []) _ from (stands ∙ quoted_stands name rest) in
    let place : end ≡ from + 1 + length (escape name ++ 34 ∷ []) = ap (λ o. unwrap_or o 0) (finds name (58 ∷ rest) short inside) in
    absurd (other (ap (λ n. get_or text n 0) place ∙ first_is text rest (from + 1 + length (escape name ++ 34 ∷ [])) 58 (part_behind text (escape name ++ 34 ∷ []) (58 ∷ rest) (from + 1) inside)))
