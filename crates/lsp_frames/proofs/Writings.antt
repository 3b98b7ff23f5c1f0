-- A written frame is read back.
use Rattle.std.proofs.Common.{◌≡◌, ℕ, ◌+◌, ◌<◌, ◌≤◌, ◌^◌, Bool, true, false, cond, ltb, leb, List, [], ◌∷◌, ◌++◌, length, take, drop, reverse, Some, None, Ok, refl, ap, sym, ◌∙◌, arith, append-nil, append_assoc, length-append, length-take, take-append-drop, drop-drop, position, codes, decimal, lit<}
use Rattle.std.proofs.lemmas.Grind.{common_steps, reverse_onto}
use Rattle.std.proofs.lemmas.List.{reverse-reverse}
use Rattle.std.proofs.lemmas.List.Folds.{list_all-append}
use Rattle.std.proofs.lemmas.Fmt.{decimal_is_IsNumeral, length-decimal-le}
use Rattle.std.specs.List.{list_all}
use Rattle.std.specs.Char.{is_ascii_digit, digit_value}
use Rattle.std.specs.Str.Parse.{AllDigits, digits_value}
use Rattle.lsp_frames.specs.Fields.{is_blank, is_colon, is_value_byte, without_leading_blanks, without_trailing_blanks, without_outer_blanks, field_at, field_of, is_named, length_of, is_long_number}
use Rattle.lsp_frames.specs.Lines.{no_fields, with_length, fields_with, fields_after}
use Rattle.lsp_frames.specs.Frames.{head_text, HasForm, written}
use Rattle.lsp_frames.specs.Heads.{Ends, head_from, head_at}
use Rattle.lsp_frames.specs.declared.line.Fields.{Fields}
use Rattle.lsp_frames.proofs.Choices.{both, all_of}
use Rattle.lsp_frames.proofs.Walks.{walk_head}

-- digits

value_is_digit : (c : ℕ) → digit_value c < 10 → is_ascii_digit c ≡ true
value_is_digit c h = grind (arith, common_steps)

digits_are : (ds : List ℕ) → AllDigits 10 ds → list_all is_ascii_digit ds ≡ true
digits_are [] h = refl
digits_are (d ∷ ds) h = rw (value_is_digit d h.0, digits_are ds h.1)

digit_is_value : (b : ℕ) → is_ascii_digit b ≡ true → is_value_byte b ≡ true
digit_is_value b h = grind (arith, common_steps)

digit_is_no_blank : (b : ℕ) → is_ascii_digit b ≡ true → is_blank b ≡ false
digit_is_no_blank b h = grind (arith, common_steps)

-- digits have no blanks at their ends

none_leading : (ds : List ℕ) → list_all is_ascii_digit ds ≡ true → without_leading_blanks ds ≡ ds
none_leading [] h = refl
none_leading (d ∷ ds) h =
    let parts = both (is_ascii_digit d) (list_all is_ascii_digit ds) h in
    rw (digit_is_no_blank d parts.0)

reversed_digits : (ds : List ℕ) → list_all is_ascii_digit ds ≡ true → list_all is_ascii_digit (reverse ds) ≡ true
reversed_digits [] h = refl
reversed_digits (d ∷ ds) h =
    let parts = both (is_ascii_digit d) (list_all is_ascii_digit ds) h in
    ap (list_all is_ascii_digit) (reverse_onto ds d []) ∙ list_all-append is_ascii_digit (reverse ds) (d ∷ []) ∙ rw (reversed_digits ds parts.1, parts.0)

digits_trimmed : (ds : List ℕ) → list_all is_ascii_digit ds ≡ true → without_outer_blanks (32 ∷ ds) ≡ ds
unfolding without_outer_blanks
digits_trimmed ds h =
    ap without_trailing_blanks (none_leading ds h) ∙ ap reverse (none_leading (reverse ds) (reversed_digits ds h)) ∙ reverse-reverse ds

-- the line that is written

length_is : (ds : List ℕ) (n : ℕ) → list_all is_ascii_digit ds ≡ true → 0 < length ds → length ds ≤ 10 → digits_value 10 ds ≡ n → length_of ds ≡ Some n
unfolding length_of
length_is ds n digits some short value =
    let low : ltb 0 (length ds) ≡ true = grind (arith, common_steps) in
    let high : leb (length ds) 10 ≡ true = grind (arith, common_steps) in
    rw (low, high, digits) (ap Some value)

place_is : (ds : List ℕ) → position is_colon (codes "Content-Length: " ++ ds) ≡ Some 14
place_is ds =
    let low : ltb 14 (length (codes "Content-Length: " ++ ds)) ≡ true = grind (arith, common_steps, length-append (codes "Content-Length: ") ds) in
    ap (λ (t : Bool). cond t (Some 14) None) low

field_is : (ds : List ℕ) → list_all is_ascii_digit ds ≡ true → field_of (codes "Content-Length: " ++ ds) ≡ Some (codes "Content-Length", ds)
unfolding field_of
field_is ds digits =
    let values : list_all is_value_byte ds ≡ true = all_of is_ascii_digit is_value_byte digit_is_value ds digits in
    ap (field_at (codes "Content-Length: " ++ ds)) (place_is ds)
    ∙ ap (λ (t : Bool). cond t (Some (codes "Content-Length", without_outer_blanks (32 ∷ ds))) None) values
    ∙ ap (λ (xs : List ℕ). Some (codes "Content-Length", xs)) (digits_trimmed ds digits)

with_length_is : (limit n : ℕ) (is_long : Bool) → n ≤ limit → with_length limit no_fields is_long (Some n) ≡ Ok (record { content_length = Some n; foreign = false })
with_length_is limit n is_long h =
    let low : ltb limit n ≡ false = grind (arith, common_steps) in
    rw low

pub judged_is : (limit n : ℕ) (ds : List ℕ) → n ≤ limit → list_all is_ascii_digit ds ≡ true → 0 < length ds → length ds ≤ 10 → digits_value 10 ds ≡ n → fields_after limit no_fields (codes "Content-Length: " ++ ds) ≡ Ok (record { content_length = Some n; foreign = false })
unfolding fields_after is_named
judged_is limit n ds h digits some short value =
    ap (fields_with limit no_fields) (field_is ds digits)
    ∙ ap (with_length limit no_fields (is_long_number ds)) (length_is ds n digits some short value)
    ∙ with_length_is limit n (is_long_number ds) h

-- its head, whatever follows

pub head_is : (limit n : ℕ) (ds more : List ℕ) → n ≤ limit → list_all is_ascii_digit ds ≡ true → 0 < length ds → length ds ≤ 10 → digits_value 10 ds ≡ n
    → head_at limit (codes "Content-Length: " ++ (ds ++ (codes "\r\n\r\n" ++ more))) ≡ Ends n false more
unfolding head_at
head_is limit n ds more h digits some short value =
    let line : List ℕ = codes "Content-Length: " ++ ds in
    let fields : Fields = record { content_length = Some n; foreign = false } in
    let text : head_text ((codes "Content-Length: " ++ ds) ∷ []) ≡ (codes "Content-Length: " ++ ds) ++ codes "\r\n\r\n" =
    ap (λ (xs : List ℕ). xs ++ codes "\r\n") (append-nil ((codes "Content-Length: " ++ ds) ++ codes "\r\n")) ∙ append_assoc (codes "Content-Length: " ++ ds) (codes "\r\n") (codes "\r\n") in
    let size : length (codes "Content-Length: " ++ ds) ≡ 16 + length ds = length-append (codes "Content-Length: ") ds in
    let all : length (head_text ((codes "Content-Length: " ++ ds) ∷ [])) ≡ 16 + length ds + 4 =
    ap length text ∙ length-append (codes "Content-Length: " ++ ds) (codes "\r\n\r\n") ∙ ap (λ (m : ℕ). m + 4) size in
    let whole : codes "Content-Length: " ++ (ds ++ (codes "\r\n\r\n" ++ more)) ≡ head_text ((codes "Content-Length: " ++ ds) ∷ []) ++ more =
    sym (append_assoc (codes "Content-Length: ") ds (codes "\r\n\r\n" ++ more)) ∙ sym (append_assoc (codes "Content-Length: " ++ ds) (codes "\r\n\r\n") more)
    ∙ ap (λ (xs : List ℕ). xs ++ more) (sym text) in
    ap (head_from limit no_fields [] 4096) whole
    ∙ walk_head limit n false no_fields ((codes "Content-Length: " ++ ds) ∷ []) 4096 more (fields, judged_is limit n ds h digits some short value, refl) (omega arith)

-- bytes that begin with a usual head: the words, k digits, and CR LF CR LF
pub usual_is : (limit n k : ℕ) (bytes value : List ℕ) → value ≡ drop 16 bytes → bytes ≡ codes "Content-Length: " ++ drop 16 bytes → drop k value ≡ codes "\r\n\r\n" ++ drop 4 (drop k value)
    → n ≤ limit → list_all is_ascii_digit (take k value) ≡ true → 0 < k → k ≤ 8 → k ≤ length value → digits_value 10 (take k value) ≡ n → head_at limit bytes ≡ Ends n false (drop (16 + k + 4) bytes)
usual_is limit n k bytes value is first last h digits some few within number =
    let ds : List ℕ = take k value in
    let more : List ℕ = drop 4 (drop k value) in
    let size : length (take k value) ≡ k = omega (arith, length-take k value) in
    let whole : bytes ≡ codes "Content-Length: " ++ (ds ++ (codes "\r\n\r\n" ++ more)) =
    first ∙ ap (λ (xs : List ℕ). codes "Content-Length: " ++ xs) (sym is ∙ sym (take-append-drop k value) ∙ ap (λ (xs : List ℕ). ds ++ xs) last) in
    let behind : more ≡ drop (16 + k + 4) bytes = ap (λ (xs : List ℕ). drop 4 (drop k xs)) is ∙ ap (drop 4) (drop-drop k 16 bytes) ∙ drop-drop 4 (16 + k) bytes in
    ap (head_at limit) whole ∙ head_is limit n ds more h digits (omega (arith, size)) (omega (arith, size)) number ∙ ap (Ends n false) behind

pub written_form : (limit : ℕ) (content : List ℕ) → length content ≤ limit → limit ≤ 2147483647 → HasForm limit (written content) (record { content = content; foreign = false })
written_form limit content h k =
    let n : ℕ = length content in
    let small : length content < 2 ^ 64 = omega arith in
    let number = decimal_is_IsNumeral (length content) small in
    let digits : list_all is_ascii_digit (decimal (length content)) ≡ true = digits_are (decimal (length content)) number.0.1 in
    let short : length (decimal (length content)) ≤ 10 = length-decimal-le 10 (length content) (lit< tt) (omega arith) small in
    let line : List ℕ = codes "Content-Length: " ++ decimal (length content) in
    let size : length (codes "Content-Length: " ++ decimal (length content)) ≡ 16 + length (decimal (length content)) = length-append (codes "Content-Length: ") (decimal (length content)) in
    let text : head_text ((codes "Content-Length: " ++ decimal (length content)) ∷ []) ≡ (codes "Content-Length: " ++ decimal (length content)) ++ codes "\r\n\r\n" =
    ap (λ (xs : List ℕ). xs ++ codes "\r\n") (append-nil ((codes "Content-Length: " ++ decimal (length content)) ++ codes "\r\n")) ∙ append_assoc (codes "Content-Length: " ++ decimal (length content)) (codes "\r\n") (codes "\r\n") in
    let all : length (head_text ((codes "Content-Length: " ++ decimal (length content)) ∷ [])) ≡ 16 + length (decimal (length content)) + 4 =
    ap length text ∙ length-append (codes "Content-Length: " ++ decimal (length content)) (codes "\r\n\r\n") ∙ ap (λ (m : ℕ). m + 4) size in
    record {
      lines = (codes "Content-Length: " ++ decimal (length content)) ∷ [];
      say = (record { content_length = Some (length content); foreign = false }, judged_is limit (length content) (decimal (length content)) h digits number.0.0 short number.1, refl);
      short = omega arith;
      whole = ap (λ (xs : List ℕ). xs ++ content) (sym text);
    }
