-- Texts that are read as the same lexemes, a part at a time.
use Rattle.std.proofs.Common.{◌≡◌, ℕ, suc, ◌+◌, ◌-◌, ◌*◌, ◌<◌, ◌≤◌, ◌⊎◌, inl, inr, Bool, true, false, cond, ◌==◌, ◌||◌, ◌&&◌, List, [], ◌∷◌, ◌++◌, length, take, drop, get_or, Option, Some, None, option_and_then, refl, sym, ap, ap₂, ◌∙◌, subst, arith, append_assoc, append-nil, eqb-true, drop-drop}
use Rattle.std.proofs.lemmas.Bool.{ne_eqb, cases_lt, or_cases, or_parts, not-true, false≢true, true≢false, and_parts}
use Rattle.std.proofs.lemmas.List.{drop_more, drop_all}
use Rattle.std.proofs.lemmas.Str.{encode_ascii, inside_one}
use Rattle.std.specs.List.{prefix_len}
use Rattle.std.specs.Char.{is_digit, digit_value, encode_utf8}
use Rattle.std.proofs.Math.Seq.{take-add}
use lib.Utf8.{encode}
use Rattle.json.specs.Token.{boolean, null, bad, number, string}
use Rattle.json.specs.Text.{content, plain, after_backslash, after_high, prepend, code_unit, short_escape, is_high_surrogate, is_low_surrogate}
use Rattle.json.specs.Word.{is_operator, is_space, ends_word, word}
use Rattle.json.specs.Lex.{Lexeme, token, Mode, lex, lex_byte, between, in_string, operator, space, other, operator_lexeme, string_token, punctuate, fresh, tokens}
use Rattle.json.specs.Print.{escape, escape_byte, quoted}
use Rattle.json.specs.Run.{is_plain}
use Rattle.json.proofs.Printed.Numbers.{lex-number, in_word-ended}
use Rattle.json.proofs.Printed.Strings.{content-escape, lex-escape, escape_byte_plain}
use Rattle.json_texts.specs.Standing.{Stands, HasNumber, is_escape_letter}
use Rattle.json_texts.specs.Compacting.{HasShortest, HasCompactPart, HasLongEscape, HasCompactString, HasWord, ReadsSame, With}
use Rattle.json_texts.proofs.Placed.{byte_within, byte_stands, letter_within, plain_bytes, plain_stands, or_seven, escape-more, escape-append, part_is}

-- ---- in a string

stays_inside : (o s : Bool) (x : ℕ) (r : List ℕ) (k : Mode → List Lexeme) → lex_byte in_string (cond o operator (cond s space other)) x r k ≡ k in_string
stays_inside true s x r k = refl
stays_inside false true x r k = refl
stays_inside false false x r k = refl

in_string_byte : (x : ℕ) (xs : List ℕ) → (x == 34) ≡ false → (x == 92) ≡ false → lex in_string (x ∷ xs) ≡ lex in_string xs
unfolding lex
in_string_byte x xs q b = rw (q, b) (stays_inside (is_operator x) (is_space x) x xs (λ m. lex m xs))

run_byte : (p : Bool) (x n : ℕ) (xs : List ℕ) → p ≡ is_plain x → lex in_string xs ≡ lex in_string (drop n xs)
    → lex in_string (x ∷ xs) ≡ lex in_string (drop (cond p (1 + n) 0) (x ∷ xs))
run_byte false x n xs e ih = refl
run_byte true x n xs e ih =
    let next : suc n ≡ 1 + n = omega arith in
    let none = or_parts ((x == 34) || (x == 92)) _ (not-true _ (sym e)) in
    let tests = or_parts (x == 34) _ none.0 in
    in_string_byte x xs tests.0 tests.1 ∙ ih ∙ ap (λ k. lex in_string (drop k (x ∷ xs))) next

lex-run : (xs : List ℕ) → lex in_string xs ≡ lex in_string (drop (prefix_len is_plain xs) xs)
lex-run [] = refl
lex-run (x ∷ xs) = run_byte (is_plain x) x (prefix_len is_plain xs) xs refl (lex-run xs)

lex-backslash : (x : ℕ) (xs : List ℕ) → lex in_string (92 ∷ x ∷ xs) ≡ lex in_string xs
unfolding lex
lex-backslash x xs = refl

lex-quote : (xs : List ℕ) → lex in_string (34 ∷ xs) ≡ lex between xs
unfolding lex
lex-quote xs = refl

prepend-prepend : (a b : List ℕ) (r : Option (List ℕ)) → prepend a (prepend b r) ≡ prepend (a ++ b) r
prepend-prepend a b None = refl
prepend-prepend a b (Some s) = ap Some (sym (append_assoc a b s))

prepend-nil : (r : Option (List ℕ)) → prepend [] r ≡ r
prepend-nil None = refl
prepend-nil (Some s) = refl

content_byte : (p : Bool) (x n : ℕ) (xs : List ℕ) → p ≡ is_plain x → content plain xs ≡ prepend (take n xs) (content plain (drop n xs))
    → content plain (x ∷ xs) ≡ prepend (take (cond p (1 + n) 0) (x ∷ xs)) (content plain (drop (cond p (1 + n) 0) (x ∷ xs)))
unfolding content
content_byte false x n xs e ih = sym (prepend-nil _)
content_byte true x n xs e ih =
    let next : suc n ≡ 1 + n = omega arith in
    let none = or_parts ((x == 34) || (x == 92)) _ (not-true _ (sym e)) in
    let tests = or_parts (x == 34) _ none.0 in
    (λ i. cond (tests.0 i) (Some []) (cond (tests.1 i) (content after_backslash xs) (cond (none.1 i) None (prepend (x ∷ []) (ih i)))))
    ∙ prepend-prepend (x ∷ []) (take n xs) _ ∙ ap (λ k. prepend (take k (x ∷ xs)) (content plain (drop k (x ∷ xs)))) next

content-run : (xs : List ℕ) → content plain xs ≡ prepend (take (prefix_len is_plain xs) xs) (content plain (drop (prefix_len is_plain xs) xs))
content-run [] = sym (prepend-nil _)
content-run (x ∷ xs) = content_byte (is_plain x) x (prefix_len is_plain xs) xs refl (content-run xs)

content-quote : (xs : List ℕ) → content plain (34 ∷ xs) ≡ Some []
unfolding content
content-quote xs = refl

-- ---- a part of a string that is in its shortest form

pub nothing_yet : (text : List ℕ) (from : ℕ) → HasShortest text from from
nothing_yet text from = record { bytes = []; stands = refl; content = sym (prepend-nil _); lexed = refl }

pub plain_more : (text : List ℕ) (from at stop : ℕ) → HasShortest text from at → stop ≡ at + prefix_len is_plain (drop at text) → HasShortest text from stop
plain_more text from at stop h is =
    let n = prefix_len is_plain (drop at text) in
    let behind : drop n (drop at text) ≡ drop stop text = drop-drop n at text ∙ ap (λ k. drop k text) (sym is) in
    record {
      bytes = h.bytes ++ plain_bytes text at;
      stands = plain_stands text h.bytes from at stop h.stands is;
      content = h.content ∙ ap (prepend h.bytes) (content-run (drop at text) ∙ ap (λ l. prepend (plain_bytes text at) (content plain l)) behind) ∙ prepend-prepend h.bytes (plain_bytes text at) _;
      lexed = h.lexed ∙ lex-run (drop at text) ∙ ap (lex in_string) behind;
    }

two_bytes : (text : List ℕ) (at : ℕ) → get_or text at 0 ≡ 92 → at + 1 < length text → drop at text ≡ 92 ∷ get_or text (at + 1) 0 ∷ drop (at + 2) text
two_bytes text at backslash within =
    let after : at + 1 + 1 ≡ at + 2 = omega arith in
    byte_stands text at 91 backslash ∙ ap (λ l. 92 ∷ l) (drop_more text (at + 1) 0 within ∙ ap (λ n. get_or text (at + 1) 0 ∷ drop n text) after)

-- the byte whose shortest escape the letter ends, which readers find
abbrev HasShort : ℕ → Type 0
HasShort letter = (x : ℕ) × (escape_byte x ≡ 92 ∷ letter ∷ []) × ((r : List ℕ) → content plain (92 ∷ letter ∷ r) ≡ prepend (x ∷ []) (content plain r))

short_byte : (letter : ℕ) → is_escape_letter letter ≡ true → HasShort letter
unfolding escape_byte content short_escape
short_byte letter is = by_letter (or_seven _ _ _ _ _ _ _ is)
  where
    by_letter : ((letter == 34) ≡ true) ⊎ (((letter == 92) ≡ true) ⊎ (((letter == 98) ≡ true) ⊎ (((letter == 102) ≡ true) ⊎ (((letter == 110) ≡ true) ⊎ (((letter == 114) ≡ true) ⊎ ((letter == 116) ≡ true))))))
        → HasShort letter
    by_letter (inl e) = subst HasShort (sym (eqb-true letter 34 e)) (34, refl, λ r. refl)
    by_letter (inr (inl e)) = subst HasShort (sym (eqb-true letter 92 e)) (92, refl, λ r. refl)
    by_letter (inr (inr (inl e))) = subst HasShort (sym (eqb-true letter 98 e)) (8, refl, λ r. refl)
    by_letter (inr (inr (inr (inl e)))) = subst HasShort (sym (eqb-true letter 102 e)) (12, refl, λ r. refl)
    by_letter (inr (inr (inr (inr (inl e))))) = subst HasShort (sym (eqb-true letter 110 e)) (10, refl, λ r. refl)
    by_letter (inr (inr (inr (inr (inr (inl e)))))) = subst HasShort (sym (eqb-true letter 114 e)) (13, refl, λ r. refl)
    by_letter (inr (inr (inr (inr (inr (inr e)))))) = subst HasShort (sym (eqb-true letter 116 e)) (9, refl, λ r. refl)

pub escape_more : (text : List ℕ) (from at : ℕ) → HasShortest text from at → get_or text at 0 ≡ 92 → is_escape_letter (get_or text (at + 1) 0) ≡ true → HasShortest text from (at + 2)
escape_more text from at h backslash letter =
    let y = get_or text (at + 1) 0 in
    let x = short_byte y letter in
    let rest = drop (at + 2) text in
    let two : drop at text ≡ 92 ∷ y ∷ rest = two_bytes text at backslash (letter_within text (at + 1) letter) in
    record {
      bytes = h.bytes ++ x.0 ∷ [];
      stands = h.stands ∙ ap (λ l. escape h.bytes ++ l) two ∙ sym (append_assoc (escape h.bytes) (92 ∷ y ∷ []) rest)
          ∙ ap (λ l. (escape h.bytes ++ l) ++ rest) (sym x.1) ∙ ap (λ l. l ++ rest) (sym (escape-more h.bytes x.0));
      content = h.content ∙ ap (prepend h.bytes) (ap (content plain) two ∙ x.2 rest) ∙ prepend-prepend h.bytes (x.0 ∷ []) (content plain rest);
      lexed = h.lexed ∙ ap (lex in_string) two ∙ lex-backslash y rest;
    }

-- ---- longer escapes

escape_high : (xs : List ℕ) → ((k : ℕ) → k < length xs → 128 ≤ get_or xs k 0) → escape xs ≡ xs
escape_high [] h = refl
escape_high (x ∷ xs) h =
    let high : 128 ≤ x = h 0 (omega arith) in
    ap₂ (λ (a b : List ℕ). a ++ b) (escape_byte_plain x (λ e. omega arith) (λ e. omega arith) (omega arith)) (escape_high xs (λ k below. h (suc k) (omega arith)))

-- a character that is no control byte, no quote and no backslash is its own escape
own_escape : (c : ℕ) → 32 ≤ c → (c ≡ 34 → ⊥) → (c ≡ 92 → ⊥) → escape (encode c) ≡ encode c
own_escape c above q b = elim (cases_lt c 128) [
  | inl small ↦ ap escape (encode_ascii c small) ∙ append-nil (escape_byte c) ∙ escape_byte_plain c q b above ∙ sym (encode_ascii c small)
  | inr big ↦
      let high : (k : ℕ) → k < length (encode c) → 128 ≤ get_or (encode c) k 0 = λ k below. elim (cases_lt (get_or (encode c) k 0) 128) [
        | inl low ↦ absurd (let same = inside_one c [] (encode c) k (sym (append-nil _)) below low in omega (arith, same, low, big))
        | inr h ↦ h
      ] in
      escape_high (encode c) high
]

itself_is : (c : ℕ) → 32 ≤ c → (c ≡ 34 → ⊥) → (c ≡ 92 → ⊥) → escape (encode_utf8 c) ≡ encode_utf8 c
unfolding encode_utf8
itself_is c above q b = own_escape c above q b

pub slash_escape : (text : List ℕ) (at : ℕ) → get_or text at 0 ≡ 92 → get_or text (at + 1) 0 ≡ 47 → HasLongEscape text at 47 (at + 2)
unfolding encode_utf8 content short_escape
slash_escape text at backslash slash =
    let rest = drop (at + 2) text in
    let two : drop at text ≡ 92 ∷ 47 ∷ rest = two_bytes text at backslash (byte_within text (at + 1) 46 slash) ∙ ap (λ y. 92 ∷ y ∷ rest) slash in
    record {
      content = ap (content plain) two ∙ ap (λ s. prepend s (content plain rest)) (sym (encode_ascii 47 (omega arith)));
      lexed = ap (lex in_string) two ∙ lex-backslash 47 rest;
      itself = itself_is 47 (omega arith) (λ e. omega arith) (λ e. omega arith);
    }

hex_inside : (x : ℕ) (xs : List ℕ) → is_digit x 16 ≡ true → lex in_string (x ∷ xs) ≡ lex in_string xs
hex_inside x xs is =
    in_string_byte x xs (ne_eqb x 34 (λ e. true≢false (sym is ∙ ap (λ y. is_digit y 16) e))) (ne_eqb x 92 (λ e. true≢false (sym is ∙ ap (λ y. is_digit y 16) e)))

if_some : (b : Bool) (u v : ℕ) → cond b (Some u) None ≡ Some v → b ≡ true
if_some true u v e = refl
if_some false u v e = absurd (let f : None ≡ Some v = e in cc)

four_inside : (a b c d u : ℕ) (xs : List ℕ) → code_unit a b c d ≡ Some u → lex in_string (a ∷ b ∷ c ∷ d ∷ xs) ≡ lex in_string xs
unfolding code_unit
four_inside a b c d u xs is =
    let all = if_some (is_digit a 16 && is_digit b 16 && is_digit c 16 && is_digit d 16) (digit_value a * 4096 + digit_value b * 256 + digit_value c * 16 + digit_value d) u is in
    let p = and_parts _ _ all in
    let q = and_parts _ _ p.0 in
    let r = and_parts _ _ q.0 in
    hex_inside a (b ∷ c ∷ d ∷ xs) r.0 ∙ hex_inside b (c ∷ d ∷ xs) r.1 ∙ hex_inside c (d ∷ xs) q.1 ∙ hex_inside d xs p.1

four_bytes : (d : List ℕ) (i : ℕ) → i + 4 ≤ length d → drop i d ≡ get_or d i 0 ∷ get_or d (i + 1) 0 ∷ get_or d (i + 2) 0 ∷ get_or d (i + 3) 0 ∷ drop (i + 4) d
four_bytes d i h =
    let more : (j k : ℕ) → k ≡ j + 1 → j < length d → drop j d ≡ get_or d j 0 ∷ drop k d = λ j k e l. drop_more d j 0 l ∙ ap (λ n. get_or d j 0 ∷ drop n d) (sym e) in
    more i (i + 1) refl (omega arith) ∙ ap (λ l. get_or d i 0 ∷ l) (more (i + 1) (i + 2) (omega arith) (omega arith) ∙ ap (λ l. get_or d (i + 1) 0 ∷ l)
    (more (i + 2) (i + 3) (omega arith) (omega arith) ∙ ap (λ l. get_or d (i + 2) 0 ∷ l) (more (i + 3) (i + 4) (omega arith) (omega arith))))

no_surrogate : (u : ℕ) → (u < 55296) ⊎ (57344 ≤ u) → (is_high_surrogate u ≡ false) × (is_low_surrogate u ≡ false)
no_surrogate u (inl low) = (grind arith, grind arith)
no_surrogate u (inr high) = (grind arith, grind arith)

pub digits_escape : (text : List ℕ) (at u : ℕ) → get_or text at 0 ≡ 92 → get_or text (at + 1) 0 ≡ 117 → at + 6 ≤ length text
    → code_unit (get_or text (at + 2) 0) (get_or text (at + 2 + 1) 0) (get_or text (at + 2 + 2) 0) (get_or text (at + 2 + 3) 0) ≡ Some u
    → (u < 55296) ⊎ (57344 ≤ u) → 32 ≤ u → (u ≡ 34 → ⊥) → (u ≡ 92 → ⊥) → HasLongEscape text at u (at + 6)
unfolding content
digits_escape text at u backslash letter within is whole above q b =
    let rest = drop (at + 6) text in
    let six : at + 2 + 4 ≡ at + 6 = omega arith in
    let two : drop at text ≡ 92 ∷ 117 ∷ drop (at + 2) text = two_bytes text at backslash (omega (arith, within)) ∙ ap (λ y. 92 ∷ y ∷ drop (at + 2) text) letter in
    let none = no_surrogate u whole in
    let bytes = four_bytes text (at + 2) (omega (arith, within)) in
    let behind = drop (at + 2 + 4) text in
    let F : Option ℕ → Option (List ℕ) = λ o. option_and_then (λ v. cond (is_high_surrogate v) (content (after_high v) behind) (cond (is_low_surrogate v) None (prepend (encode_utf8 v) (content plain behind)))) o in
    let four : content plain (92 ∷ 117 ∷ drop (at + 2) text) ≡ prepend (encode_utf8 u) (content plain rest) =
    ap (λ l. content plain (92 ∷ 117 ∷ l)) bytes ∙ ap F is
    ∙ ap₂ (λ h l. cond h (content (after_high u) behind) (cond l None (prepend (encode_utf8 u) (content plain behind)))) none.0 none.1
    ∙ ap (λ n. prepend (encode_utf8 u) (content plain (drop n text))) six in
    record {
      content = ap (content plain) two ∙ four;
      lexed = ap (lex in_string) two ∙ lex-backslash 117 (drop (at + 2) text) ∙ ap (lex in_string) bytes
          ∙ four_inside _ _ _ _ u (drop (at + 2 + 4) text) is ∙ ap (λ n. lex in_string (drop n text)) six;
      itself = itself_is u above q b;
    }

-- ---- parts of a text, one behind another

part_more : (text : List ℕ) (from mid end : ℕ) → from ≤ mid → mid ≤ end → take (end - from) (drop from text) ≡ take (mid - from) (drop from text) ++ take (end - mid) (drop mid text)
part_more text from mid end first second =
    let whole : end - from ≡ (mid - from) + (end - mid) = omega arith in
    let place : from + (mid - from) ≡ mid = omega arith in
    ap (λ n. take n (drop from text)) whole ∙ take-add (mid - from) (end - mid) (drop from text)
    ∙ ap (λ l. take (mid - from) (drop from text) ++ take (end - mid) l) (drop-drop (mid - from) from text ∙ ap (λ n. drop n text) place)

no_part : (text : List ℕ) (at : ℕ) → take (at - at) (drop at text) ≡ []
no_part text at = let none : at - at ≡ 0 = omega arith in ap (λ n. take n (drop at text)) none

one_part : (text : List ℕ) (at c : ℕ) → get_or text at 0 ≡ suc c → take (at + 1 - at) (drop at text) ≡ suc c ∷ []
one_part text at c is = let one : at + 1 - at ≡ 1 = omega arith in ap (λ n. take n (drop at text)) one ∙ ap (take 1) (byte_stands text at c is)

-- ---- what was written, and bytes behind it

pub with_more : (out text : List ℕ) (from mid end : ℕ) → from ≤ mid → mid ≤ end → With out text from end ≡ With (With out text from mid) text mid end
with_more out text from mid end first second =
    ap (λ l. out ++ l) (part_more text from mid end first second) ∙ sym (append_assoc out (take (mid - from) (drop from text)) (take (end - mid) (drop mid text)))

pub with_none : (out text : List ℕ) (at : ℕ) → With out text at at ≡ out
with_none out text at = ap (λ l. out ++ l) (no_part text at) ∙ append-nil out

pub with_one : (out text : List ℕ) (from at c : ℕ) → from ≤ at → get_or text at 0 ≡ suc c → With out text from (at + 1) ≡ With out text from at ++ suc c ∷ []
with_one out text from at c below is = with_more out text from at (at + 1) below (omega arith) ∙ ap (λ l. With out text from at ++ l) (one_part text at c is)

pub with_part : (out text part : List ℕ) (from at end : ℕ) → from ≤ at → at ≤ end → end ≤ length text → Stands text at part end → With out text from end ≡ With out text from at ++ part
with_part out text part from at end below above within stands =
    with_more out text from at end below above ∙ ap (λ l. With out text from at ++ l) (part_is text part at end stands above within)

-- ---- a string, as far as it was read

pub begin_string : (text before : List ℕ) (from : ℕ) → HasCompactPart text from before before from
begin_string text before from = record { bytes = []; content = sym (prepend-nil _); lexed = refl; written = sym (append-nil before) }

part_of_string : (text before out : List ℕ) (from kept at stop : ℕ) → kept ≤ at → at ≤ stop → stop ≤ length text → HasCompactPart text from before (With out text kept at) at → HasShortest text at stop
    → HasCompactPart text from before (With out text kept stop) stop
part_of_string text before out from kept at stop below above within s h = record {
  bytes = s.bytes ++ h.bytes;
  content = s.content ∙ ap (prepend s.bytes) h.content ∙ prepend-prepend s.bytes h.bytes _;
  lexed = s.lexed ∙ h.lexed;
  written = with_part out text (escape h.bytes) kept at stop below above within h.stands ∙ ap (λ l. l ++ escape h.bytes) s.written
      ∙ append_assoc before (escape s.bytes) (escape h.bytes) ∙ ap (λ l. before ++ l) (sym (escape-append s.bytes h.bytes));
}

pub end_string : (text before out : List ℕ) (from kept at stop : ℕ) → kept ≤ at → at ≤ stop → stop < length text → HasCompactPart text from before (With out text kept at) at → HasShortest text at stop
    → get_or text stop 0 ≡ 34 → HasCompactString text from before (With out text kept (stop + 1)) (stop + 1)
end_string text before out from kept at stop below above within before_part h quote =
    let s = part_of_string text before out from kept at stop below above (omega (arith, within)) before_part h in
    record {
      bytes = s.bytes;
      content = s.content ∙ ap (prepend s.bytes) (ap (content plain) (byte_stands text stop 33 quote) ∙ content-quote (drop (stop + 1) text)) ∙ ap Some (append-nil s.bytes);
      lexed = s.lexed ∙ ap (lex in_string) (byte_stands text stop 33 quote) ∙ lex-quote (drop (stop + 1) text);
      written = with_one out text kept stop 33 (omega (arith, below, above)) quote ∙ ap (λ l. l ++ 34 ∷ []) s.written ∙ append_assoc before (escape s.bytes) (34 ∷ []);
    }

-- what follows, where nothing is kept before it
pub more_string : (text before out new : List ℕ) (from kept at stop end : ℕ) → kept ≤ at → at ≤ stop → stop < length text → HasCompactPart text from before (With out text kept at) at
    → HasShortest text at stop → HasCompactPart text stop (With out text kept stop) new end → HasCompactPart text from before (With new text end end) end
more_string text before out new from kept at stop end below above within before_part h p =
    let s = part_of_string text before out from kept at stop below above (omega (arith, within)) before_part h in
    record {
      bytes = s.bytes ++ p.bytes;
      content = s.content ∙ ap (prepend s.bytes) p.content ∙ prepend-prepend s.bytes p.bytes _;
      lexed = s.lexed ∙ p.lexed;
      written = with_none new text end ∙ p.written ∙ ap (λ l. l ++ escape p.bytes) s.written ∙ append_assoc before (escape s.bytes) (escape p.bytes)
          ∙ ap (λ l. before ++ l) (sym (escape-append s.bytes p.bytes));
    }

pub more_escapes : (text before now new : List ℕ) (from at character end : ℕ) → HasCompactPart text from before now at → HasLongEscape text at character end
    → new ≡ now ++ encode_utf8 character → HasCompactPart text from before new end
more_escapes text before now new from at character end s e is =
    let c = encode_utf8 character in
    record {
      bytes = s.bytes ++ c;
      content = s.content ∙ ap (prepend s.bytes) e.content ∙ prepend-prepend s.bytes c _;
      lexed = s.lexed ∙ e.lexed;
      written = is ∙ ap (λ l. l ++ c) s.written ∙ append_assoc before (escape s.bytes) c ∙ ap (λ l. before ++ l) (ap (λ l. escape s.bytes ++ l) (sym e.itself) ∙ sym (escape-append s.bytes c));
    }

-- ---- words

pub number_word : (text : List ℕ) (from end : ℕ) → HasNumber text from end → HasWord text from end
number_word text from end n = record { word = n.number; lexeme = token (number n.number); stands = n.stands; reads = λ rest ended. lex-number n.number rest n.is ended }

pub true_word : (text : List ℕ) (from end : ℕ) → Stands text from (116 ∷ 114 ∷ 117 ∷ 101 ∷ []) end → HasWord text from end
unfolding lex word
true_word text from end stands = record {
  word = 116 ∷ 114 ∷ 117 ∷ 101 ∷ [];
  lexeme = token (boolean true);
  stands = stands;
  reads = λ rest ended. ap₂ (λ b l. token (cond b (boolean true) bad) ∷ l) ended (in_word-ended rest ended);
}

pub false_word : (text : List ℕ) (from end : ℕ) → Stands text from (102 ∷ 97 ∷ 108 ∷ 115 ∷ 101 ∷ []) end → HasWord text from end
unfolding lex word
false_word text from end stands = record {
  word = 102 ∷ 97 ∷ 108 ∷ 115 ∷ 101 ∷ [];
  lexeme = token (boolean false);
  stands = stands;
  reads = λ rest ended. ap₂ (λ b l. token (cond b (boolean false) bad) ∷ l) ended (in_word-ended rest ended);
}

pub null_word : (text : List ℕ) (from end : ℕ) → Stands text from (110 ∷ 117 ∷ 108 ∷ 108 ∷ []) end → HasWord text from end
unfolding lex word
null_word text from end stands = record {
  word = 110 ∷ 117 ∷ 108 ∷ 108 ∷ [];
  lexeme = token null;
  stands = stands;
  reads = λ rest ended. ap₂ (λ b l. token (cond b null bad) ∷ l) ended (in_word-ended rest ended);
}

-- ---- the whole text, as far as it was read

no_bytes : (out : List ℕ) → length out ≡ 0 → out ≡ []
no_bytes [] e = refl
no_bytes (x ∷ xs) e = absurd (omega (arith, e))

pub begin_text : (text out : List ℕ) → length out ≡ 0 → ReadsSame text (With out text 0 0) 0 false
begin_text text out none = record { lexemes = []; behind = refl; reads = λ rest ended. ap (λ l. lex between (l ++ rest)) (with_none out text 0 ∙ no_bytes out none) }

-- one more lexeme
one_more : (text w v : List ℕ) (at end : ℕ) (f g : Bool) (lexeme : Lexeme) → (r : ReadsSame text w at f) → lex between (drop at text) ≡ lexeme ∷ lex between (drop end text)
    → ((rest : List ℕ) → (g ≡ true → ends_word rest ≡ true) → lex between (v ++ rest) ≡ r.lexemes ++ (lexeme ∷ lex between rest)) → ReadsSame text v end g
one_more text w v at end f g lexeme r step written = record {
  lexemes = r.lexemes ++ lexeme ∷ [];
  behind = r.behind ∙ ap (λ l. r.lexemes ++ l) step ∙ sym (append_assoc r.lexemes (lexeme ∷ []) (lex between (drop end text)));
  reads = λ rest ended. written rest ended ∙ sym (append_assoc r.lexemes (lexeme ∷ []) (lex between rest));
}

space_cases : (x : ℕ) → is_space x ≡ true → (x ≡ 32) ⊎ ((x ≡ 9) ⊎ ((x ≡ 10) ⊎ (x ≡ 13)))
space_cases x is = elim (or_cases ((x == 32) || (x == 9) || (x == 10)) (x == 13) is) [
  | inr e ↦ inr (inr (inr (eqb-true x 13 e)))
  | inl h ↦ elim (or_cases ((x == 32) || (x == 9)) (x == 10) h) [
    | inr e ↦ inr (inr (inl (eqb-true x 10 e)))
    | inl k ↦ elim (or_cases (x == 32) (x == 9) k) [
      | inl e ↦ inl (eqb-true x 32 e)
      | inr e ↦ inr (inl (eqb-true x 9 e))
    ]
  ]
]

space_is_no_operator : (x : ℕ) → is_space x ≡ true → is_operator x ≡ false
space_is_no_operator x is = elim (space_cases x is) [
  | inl e ↦ ap is_operator e
  | inr h ↦ elim h [
    | inl e ↦ ap is_operator e
    | inr k ↦ elim k [
      | inl e ↦ ap is_operator e
      | inr e ↦ ap is_operator e
    ]
  ]
]

lex-space : (x : ℕ) (xs : List ℕ) → is_space x ≡ true → lex between (x ∷ xs) ≡ lex between xs
unfolding lex
lex-space x xs is =
    rw (
      ne_eqb x 34 (λ e. true≢false (sym is ∙ ap is_space e)),
      ne_eqb x 92 (λ e. true≢false (sym is ∙ ap is_space e)),
      space_is_no_operator x is,
      is,
    )

lex-operator : (x : ℕ) (xs : List ℕ) → is_operator x ≡ true → lex between (x ∷ xs) ≡ operator_lexeme x ∷ lex between xs
unfolding lex
lex-operator x xs is = rw (ne_eqb x 34 (λ e. true≢false (sym is ∙ ap is_operator e)), ne_eqb x 92 (λ e. true≢false (sym is ∙ ap is_operator e)), is)

operator_ends : (x : ℕ) (rest : List ℕ) → is_operator x ≡ true → ends_word (x ∷ rest) ≡ true
operator_ends x rest is = ap (λ b. b || is_space x) is

pub past_blank : (text out new : List ℕ) (kept at : ℕ) (f : Bool) → at < length text → is_space (get_or text at 0) ≡ true → ReadsSame text (With out text kept at) at f → new ≡ With out text kept at
    → ReadsSame text (With new text (at + 1) (at + 1)) (at + 1) f
past_blank text out new kept at f within is r same = record {
  lexemes = r.lexemes;
  behind = r.behind ∙ ap (λ l. r.lexemes ++ l) (ap (lex between) (drop_more text at 0 within) ∙ lex-space (get_or text at 0) (drop (at + 1) text) is);
  reads = λ rest ended. ap (λ l. lex between (l ++ rest)) (with_none new text (at + 1) ∙ same) ∙ r.reads rest ended;
}

pub past_operator : (text out : List ℕ) (kept at : ℕ) (f : Bool) → kept ≤ at → at < length text → is_operator (get_or text at 0) ≡ true → ReadsSame text (With out text kept at) at f
    → ReadsSame text (With out text kept (at + 1)) (at + 1) false
past_operator text out kept at f below within is r =
    let x = get_or text at 0 in
    let w = With out text kept at in
    let one : at + 1 - at ≡ 1 = omega arith in
    let part : With out text kept (at + 1) ≡ w ++ x ∷ [] =
    with_more out text kept at (at + 1) below (omega arith) ∙ ap (λ l. w ++ l) (ap (λ n. take n (drop at text)) one ∙ ap (take 1) (drop_more text at 0 within)) in
    one_more text w (With out text kept (at + 1)) at (at + 1) f false (operator_lexeme x) r
    (ap (lex between) (drop_more text at 0 within) ∙ lex-operator x (drop (at + 1) text) is)
    (λ rest ended. ap (λ l. lex between (l ++ rest)) part ∙ ap (lex between) (append_assoc w (x ∷ []) rest) ∙ r.reads (x ∷ rest) (λ e. operator_ends x rest is)
    ∙ ap (λ l. r.lexemes ++ l) (lex-operator x rest is))

lex-opened : (xs : List ℕ) → lex between (34 ∷ xs) ≡ token (string_token (content plain xs)) ∷ lex in_string xs
unfolding lex
lex-opened xs = refl

pub past_string : (text out new : List ℕ) (kept at end : ℕ) → kept ≤ at → get_or text at 0 ≡ 34 → ReadsSame text (With out text kept at) at false
    → HasCompactString text (at + 1) (With out text kept (at + 1)) new end → ReadsSame text new end false
past_string text out new kept at end below quote r s =
    let w = With out text kept at in
    let lexeme = token (string s.bytes) in
    let part : new ≡ w ++ quoted s.bytes =
    s.written ∙ ap (λ l. l ++ (escape s.bytes ++ 34 ∷ [])) (with_one out text kept at 33 below quote) ∙ append_assoc w (34 ∷ []) (escape s.bytes ++ 34 ∷ []) in
    let reread : (rest : List ℕ) → lex between (quoted s.bytes ++ rest) ≡ lexeme ∷ lex between rest =
    λ rest. ap (λ l. lex between (34 ∷ l)) (append_assoc (escape s.bytes) (34 ∷ []) rest) ∙ lex-opened (escape s.bytes ++ 34 ∷ rest)
    ∙ ap₂ (λ o l. token (string_token o) ∷ l) (content-escape s.bytes rest) (lex-escape s.bytes rest) in
    one_more text w new at end false false lexeme r
    (ap (lex between) (byte_stands text at 33 quote) ∙ lex-opened (drop (at + 1) text) ∙ ap₂ (λ o l. token (string_token o) ∷ l) s.content s.lexed)
    (λ rest ended. ap (λ l. lex between (l ++ rest)) part ∙ ap (lex between) (append_assoc w (quoted s.bytes) rest) ∙ r.reads (quoted s.bytes ++ rest) (λ e. absurd (false≢true e))
    ∙ ap (λ l. r.lexemes ++ l) (reread rest))

pub past_word : (text out : List ℕ) (kept at end : ℕ) → kept ≤ at → at ≤ end → end ≤ length text → ReadsSame text (With out text kept at) at false → HasWord text at end
    → ends_word (drop end text) ≡ true → ReadsSame text (With out text kept end) end true
past_word text out kept at end below above within r word ended =
    let w = With out text kept at in
    let part : With out text kept end ≡ w ++ word.word = with_part out text word.word kept at end below above within word.stands in
    one_more text w (With out text kept end) at end false true word.lexeme r (ap (lex between) word.stands ∙ word.reads (drop end text) ended)
    (λ rest e. ap (λ l. lex between (l ++ rest)) part ∙ ap (lex between) (append_assoc w word.word rest) ∙ r.reads (word.word ++ rest) (λ z. absurd (false≢true z))
    ∙ ap (λ l. r.lexemes ++ l) (word.reads rest (e refl)))

pub same_tokens : (text out new : List ℕ) (kept at : ℕ) (f : Bool) → length text ≤ at → ReadsSame text (With out text kept at) at f → new ≡ With out text kept at → tokens new ≡ tokens text
same_tokens text out new kept at f whole r same =
    ap (punctuate fresh)
    (ap (lex between) (same ∙ sym (append-nil (With out text kept at))) ∙ r.reads [] (λ e. refl) ∙ sym (r.behind ∙ ap (λ l. r.lexemes ++ lex between l) (drop_all at text whole)))
