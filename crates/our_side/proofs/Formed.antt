-- An id that is read is a number of JSON, if it is one: where the judge calls it plain, it is in decimal digits.
use Rattle.std.proofs.Common.{◌≡◌, inl, inr, ◌==◌, ◌&&◌, not, ℕ, zero, suc, ◌+◌, ◌<◌, ◌≤◌, ◌^◌, nat_le, Bool, true, false, cond, if◌then◌else◌, List, [], ◌∷◌, length, drop, get_or, position, Option, Some, None, refl, sym, ap, subst, ◌∙◌, arith, decimal, append-nil}
use Rattle.std.proofs.lemmas.Bool.{eqb-true, ltb-true}
use Rattle.std.proofs.lemmas.Bool.Decides.{nat_tests}
use Rattle.std.proofs.lemmas.Fmt.{decimal-digits_value}
use Rattle.std.proofs.lemmas.Grind.{common_steps}
use Rattle.std.proofs.lemmas.Slice.Eq.{bytes_eq-Decides}
use Rattle.std.proofs.lemmas.Str.Parse.{numerals_by_value, tells_digits}
use Rattle.std.specs.Char.{digit_value, is_ascii_digit}
use Rattle.std.specs.List.{prefix_len}
use Rattle.std.specs.Option.{is_none}
use Rattle.std.specs.Prelude.{⊤, codes, option_and_then}
use Rattle.std.specs.Str.{bytes_eq, is_utf8}
use Rattle.std.specs.Str.Parse.{AllDigits, digits_value, starts_with_minus}
use Rattle.json.proofs.Numbered.{value-HasNumbers, ArePrintableOrBad-tokens}
use Rattle.json.specs.Find.{get}
use Rattle.json.specs.Json as json
use Rattle.json.specs.Json.{Json, array, object, Items, no_items, item, value, if_last}
use Rattle.json.specs.Lex.{tokens}
use Rattle.json.specs.Print.{IsNumber}
use Rattle.json.specs.Tree.{HasNumbers, ItemsHaveNumbers}
use Rattle.json.specs.Word.{head, after_digits, after_sign, after_whole, after_fraction, after_exponent, after_number}
use Rattle.json_texts.specs.Texts.{value_of, text_value}
use Rattle.connection_messages.proofs.Enveloped.{member_numbers}
use Rattle.connection_messages.specs.Envelope.{MemberHasNumbers}
use Rattle.conversation_reading.specs.Fronts.{is_json, front_of}
use Rattle.conversation_reading.specs.Numbers.{parts_at, is_mark, is_point, number_of, without_minus}
use Rattle.conversation_reading.specs.Strictly.{written_id, entry_of, entries_of, value_reading, unreadable_with, json_reading, reading_of, limited_reading}
use Rattle.conversation_reading.specs.declared.entry.Entry.{Entry}
use Rattle.conversation_reading.specs.declared.entry.WrittenId.{WrittenId}
use Rattle.conversation_reading.specs.declared.entry.WrittenId.TheVariants.{Null, Text, Number}
use Rattle.conversation_reading.specs.declared.reading.Reading.{Reading}
use Rattle.conversation_reading.specs.declared.reading.Reading.TheVariants.{NotText, NotJson, OverLimits, HalfPair, Single, Array}
use Rattle.conversation_reading.specs.declared.reading.TheConstants.{MOST_DEPTH_IN}
use Rattle.conversation_rules.specs.Amounts.{amount_of, amount_in, amount_with, fits_64_bits, is_plain}
use Rattle.our_side.specs.Asked.{IsWhole}
use Rattle.our_side.proofs.Below.{AllOf, all-drop}
use Rattle.our_side.proofs.Matched.{first_place, next_place}
use Rattle.our_side.proofs.Plain.{after_same}
use Rattle.connection.proofs.ReadIds.{last_is}
use Rattle.our_side.proofs.Limited.{limited_keeps}

-- ---- no byte passes a test

abbrev NoneOfThem : (ℕ → Bool) → List ℕ → Type 0
NoneOfThem test bs = AllOf (λ b. test b ≡ false) bs

none_by : (test : ℕ → Bool) (b : ℕ) (bs : List ℕ) (t : Bool) → test b ≡ t → (o : Option ℕ) → position test bs ≡ o → (position test bs ≡ None → NoneOfThem test bs) → position test (b ∷ bs) ≡ None → NoneOfThem test (b ∷ bs)
none_by test b bs true passes o at later none = absurd (let no : None ≡ Some 0 = sym none ∙ first_place test b bs passes in cc)
none_by test b bs false passes (Some place) at later none = absurd (let no : None ≡ Some (suc place) = sym none ∙ next_place test b bs place passes at in cc)
none_by test b bs false passes None at later none = (passes, later at)

none_of_them : (test : ℕ → Bool) (bs : List ℕ) → position test bs ≡ None → NoneOfThem test bs
none_of_them test [] none = tt
none_of_them test (b ∷ bs) none = none_by test b bs (test b) refl (position test bs) refl (none_of_them test bs) none

-- nor does the first, where the end of a text doesn't
head_fails : (test : ℕ → Bool) → test 32 ≡ false → (bs : List ℕ) → NoneOfThem test bs → test (head bs) ≡ false
head_fails test end [] none = end
head_fails test end (b ∷ bs) none = none.0

-- ---- digits to the end

digit_small : (d : ℕ) → is_ascii_digit d ≡ true → digit_value d < 10
digit_small d is = grind (arith, common_steps)

one_more : (n : ℕ) (d : ℕ) (ds : List ℕ) → drop (1 + n) (d ∷ ds) ≡ drop n ds
one_more n d ds = ap (λ m. drop m (d ∷ ds)) (let same : 1 + n ≡ suc n = omega arith in same)

digits_by : (d : ℕ) (ds : List ℕ) (t : Bool) → is_ascii_digit d ≡ t → (drop (prefix_len is_ascii_digit ds) ds ≡ [] → AllDigits 10 ds) → drop (cond t (1 + prefix_len is_ascii_digit ds) 0) (d ∷ ds) ≡ [] → AllDigits 10 (d ∷ ds)
digits_by d ds true is later end = (digit_small d is, later (sym (one_more (prefix_len is_ascii_digit ds) d ds) ∙ end))
digits_by d ds false is later end = absurd (let no : d ∷ ds ≡ [] = end in cc)

all_digits : (ds : List ℕ) → drop (prefix_len is_ascii_digit ds) ds ≡ [] → AllDigits 10 ds
all_digits [] end = tt
all_digits (d ∷ ds) end = digits_by d ds (is_ascii_digit d) refl (all_digits ds) end

-- ---- what a number without a point and a power is

-- one digit or more; more than one don't begin with 0
record IsDigits (ds : List ℕ) : Type 0 where
  digits : AllDigits 10 ds
  some : 0 < length ds
  first : get_or ds 0 0 ≡ 48 → length ds ≡ 1

zero_digits : (ds : List ℕ) → (head ds == 48) ≡ true → drop 1 ds ≡ [] → IsDigits ds
zero_digits [] is end = absurd (let no : false ≡ true = is in cc)
zero_digits (d ∷ []) is end =
    let same = eqb-true d 48 is in
    record { digits = (subst (λ c. digit_value c < 10) (sym same) (omega arith), tt); some = omega arith; first = λ e. refl }
zero_digits (d ∷ e ∷ ds) is end = absurd (let no : e ∷ ds ≡ [] = end in cc)

not_first : (ds : List ℕ) → (head ds == 48) ≡ false → get_or ds 0 0 ≡ 48 → length ds ≡ 1
not_first [] isnt is = absurd (let no : 0 ≡ 48 = is in omega (arith, no))
not_first (d ∷ ds) isnt is = absurd (let no : true ≡ false = sym (let same : (d == 48) ≡ true = grind (arith, nat_tests) in same) ∙ isnt in cc)

other_digits : (ds : List ℕ) → (head ds == 48) ≡ false → (t : Bool) → (prefix_len is_ascii_digit ds == 0) ≡ t → cond t None (Some (drop (prefix_len is_ascii_digit ds) ds)) ≡ Some [] → IsDigits ds
other_digits ds isnt true none end = absurd (let no : None ≡ Some [] = end in cc)
other_digits [] isnt false none end = absurd (let no : true ≡ false = none in cc)
other_digits (d ∷ ds) isnt false none end =
    let all : drop (prefix_len is_ascii_digit (d ∷ ds)) (d ∷ ds) ≡ [] = cc in
    record { digits = all_digits (d ∷ ds) all; some = omega arith; first = not_first (d ∷ ds) isnt }

-- what follows the whole part, where no point and no mark is
rest_by : (rest : List ℕ) → NoneOfThem is_mark rest → NoneOfThem is_point rest → option_and_then after_exponent (after_fraction rest) ≡ Some [] → rest ≡ []
rest_by rest marks points is =
    let point : after_fraction rest ≡ Some rest = ap (λ b. cond b (after_digits (drop 1 rest)) (Some rest)) (head_fails is_point refl rest points) in
    let mark : after_exponent rest ≡ Some rest = ap (λ b. cond b (after_digits (after_sign (drop 1 rest))) (Some rest)) (head_fails is_mark refl rest marks) in
    let same : Some rest ≡ Some [] = sym mark ∙ sym (ap (option_and_then after_exponent) point) ∙ is in
    cc

-- the whole part and what follows it, of a text whose bytes are neither
module _ (ds : List ℕ) (marks : NoneOfThem is_mark ds) (points : NoneOfThem is_point ds) where
  whole_by : (n : ℕ) → option_and_then after_exponent (option_and_then after_fraction (Some (drop n ds))) ≡ Some [] → drop n ds ≡ []
  whole_by n is = rest_by (drop n ds) (all-drop (λ b. is_mark b ≡ false) n ds marks) (all-drop (λ b. is_point b ≡ false) n ds points) is

  digits_part : (t : Bool) → (head ds == 48) ≡ false → (prefix_len is_ascii_digit ds == 0) ≡ t → option_and_then after_exponent (option_and_then after_fraction (cond t None (Some (drop (prefix_len is_ascii_digit ds) ds)))) ≡ Some [] → IsDigits ds
  digits_part true isnt none is = absurd (let no : None ≡ Some [] = is in cc)
  digits_part false isnt none is = other_digits ds isnt false none (ap (λ r. Some r) (whole_by (prefix_len is_ascii_digit ds) is))

  number_digits : (t : Bool) → (head ds == 48) ≡ t → option_and_then after_exponent (option_and_then after_fraction (cond t (Some (drop 1 ds)) (after_digits ds))) ≡ Some [] → IsDigits ds
  number_digits true is read = zero_digits ds is (whole_by 1 read)
  number_digits false is read = digits_part (prefix_len is_ascii_digit ds == 0) is refl read

-- ---- its decimal

value_of_digits : (ds : List ℕ) → IsDigits ds → number_of ds ≡ digits_value 10 ds
value_of_digits ds it = after_same 0 ds it.digits

decimal_is : (ds : List ℕ) → IsDigits ds → number_of ds < 2 ^ 64 → decimal (number_of ds) ≡ ds
decimal_is ds it small =
    let same = value_of_digits ds it in
    ap decimal same ∙ decimal-digits_value (numerals_by_value _ tells_digits) ds it.digits it.some it.first (omega (arith, small, same))

-- ---- a number that the judge calls plain

record IsPlainNumber (s : List ℕ) : Type 0 where
  marks : position is_mark s ≡ None
  points : position is_point s ≡ None
  not_zero : bytes_eq s (codes "-0") ≡ false
  fits : fits_64_bits (amount_of s) ≡ true

four : (m p : Option ℕ) (z f : Bool) → (is_none m && is_none p && not z && f) ≡ true → (m ≡ None) × (p ≡ None) × (z ≡ false) × (f ≡ true)
four None None false true is = (refl, refl, refl, refl)
four None None false false is = cc
four None None true f is = cc
four None (Some k) z f is = cc
four (Some k) p z f is = cc

plain_number : (s : List ℕ) → is_plain s ≡ true → IsPlainNumber s
plain_number s is =
    let parts = four (position is_mark s) (position is_point s) (bytes_eq s (codes "-0")) (fits_64_bits (amount_of s)) is in
    record { marks = parts.0; points = parts.1; not_zero = parts.2; fits = parts.3 }

amount_is : (s : List ℕ) → IsPlainNumber s → amount_of s ≡ record { minus = starts_with_minus s; digits = number_of (without_minus s); right = 0; left = 0 }
amount_is s it =
    ap (λ o. amount_in (starts_with_minus s) (parts_at s o)) it.marks
    ∙ ap (λ o. amount_with (starts_with_minus s) (parts_at s o) (0, 0)) it.points
    ∙ ap (λ ds. record { minus = starts_with_minus s; digits = number_of ds; right = 0; left = 0 }) (append-nil (without_minus s))

minus_whole : (b : ℕ) (ds : List ℕ) → b ≡ 45 → IsDigits ds → bytes_eq (b ∷ ds) (codes "-0") ≡ false → (n : ℕ) → number_of ds ≡ n → nat_le n (2 ^ 63) ≡ true → IsWhole (b ∷ ds)
minus_whole b ds minus it not_zero zero value fits =
    let zero_text : ds ≡ decimal 0 = sym (decimal_is ds it (omega (arith, value))) ∙ ap decimal value in
    absurd (let no : true ≡ false = sym ((bytes_eq-Decides (b ∷ ds) (codes "-0")).1 (λ i. minus i ∷ (zero_text ∙ decimal_zero) i)) ∙ not_zero in cc)
  where
    decimal_zero : decimal 0 ≡ codes "0"
    decimal_zero = sym (zero_digit (codes "0") refl)
      where
        zero_digit : (cs : List ℕ) → cs ≡ codes "0" → cs ≡ decimal 0
        zero_digit cs is =
            let one : IsDigits (codes "0") = record { digits = (omega arith, tt); some = omega arith; first = λ e. refl } in
            is ∙ sym (decimal_is (codes "0") one (omega arith))
minus_whole b ds minus it not_zero (suc k) value fits =
    let few : suc k ≤ 2 ^ 63 = grind (arith, nat_tests) in
    inr (k, omega (arith, few), (λ i. minus i ∷ (sym (decimal_is ds it (omega (arith, few, value))) ∙ ap decimal value) i))

formed_by : (b : ℕ) (ds : List ℕ) → IsPlainNumber (b ∷ ds) → (t : Bool) → (b == 45) ≡ t
    → option_and_then after_exponent (option_and_then after_fraction (after_whole (cond t ds (b ∷ ds)))) ≡ Some [] → fits_64_bits (record { minus = t; digits = number_of (if t then ds else b ∷ ds); right = 0; left = 0 }) ≡ true → IsWhole (b ∷ ds)
formed_by b ds it true minus read fits =
    let marks = none_of_them is_mark (b ∷ ds) it.marks in
    let points = none_of_them is_point (b ∷ ds) it.points in
    let digits = number_digits ds marks.1 points.1 (head ds == 48) refl read in
    minus_whole b ds (eqb-true b 45 minus) digits it.not_zero (number_of ds) refl fits
formed_by b ds it false minus read fits =
    let digits = number_digits (b ∷ ds) (none_of_them is_mark (b ∷ ds) it.marks) (none_of_them is_point (b ∷ ds) it.points) (head (b ∷ ds) == 48) refl read in
    let small : number_of (b ∷ ds) < 2 ^ 64 = ltb-true (number_of (b ∷ ds)) (2 ^ 64) fits in
    inl (number_of (b ∷ ds), small, sym (decimal_is (b ∷ ds) digits small))

number_formed : (s : List ℕ) → IsNumber s → is_plain s ≡ true → IsWhole s
unfolding after_number
number_formed [] number plain = absurd (let no : None ≡ Some [] = number in cc)
number_formed (b ∷ ds) number plain =
    let it = plain_number (b ∷ ds) plain in
    formed_by b ds it (b == 45) refl number (ap fits_64_bits (sym (amount_is (b ∷ ds) it)) ∙ it.fits)

-- ---- ids

abbrev pub IsFormed : Option WrittenId → Type 0
IsFormed None = ⊤
IsFormed (Some Null) = ⊤
IsFormed (Some (Text text)) = ⊤
IsFormed (Some (Number digits)) = is_plain digits ≡ true → IsWhole digits

abbrev pub AreFormed : List Entry → Type 0
AreFormed [] = ⊤
AreFormed (entry ∷ entries) = IsFormed entry.id × AreFormed entries

pub id_formed : (o : Option Json) → MemberHasNumbers o → IsFormed (option_and_then written_id o)
id_formed None numbers = tt
id_formed (Some json.null) numbers = tt
id_formed (Some (json.boolean b)) numbers = tt
id_formed (Some (json.number s)) numbers = number_formed s numbers
id_formed (Some (json.string s)) numbers = tt
id_formed (Some (array js)) numbers = tt
id_formed (Some (object ms)) numbers = tt

-- ---- all ids of a content

pub has_numbers : (text : List ℕ) (j : Json) → text_value MOST_DEPTH_IN text ≡ Some j → HasNumbers j
has_numbers text j is = value-HasNumbers MOST_DEPTH_IN (tokens text) [] j (ArePrintableOrBad-tokens text) (last_is (value MOST_DEPTH_IN (tokens text)) j is)

pub entry_formed : (j : Json) → HasNumbers j → IsFormed (entry_of j).id
entry_formed j numbers = id_formed (get (codes "id") j) (member_numbers (codes "id") j numbers)

pub entries_formed : (js : Items) → ItemsHaveNumbers js → AreFormed (entries_of js)
entries_formed no_items numbers = tt
entries_formed (item j js) numbers = (entry_formed j numbers.0, entries_formed js numbers.1)

abbrev pub IsFormedReading : Reading → Type 0
IsFormedReading (Single entry) = IsFormed entry.id
IsFormedReading (Array entries) = AreFormed entries
IsFormedReading _ = ⊤

value_formed : (j : Json) → HasNumbers j → IsFormedReading (value_reading j)
value_formed json.null numbers = entry_formed json.null numbers
value_formed (json.boolean b) numbers = entry_formed (json.boolean b) numbers
value_formed (json.number s) numbers = entry_formed (json.number s) numbers
value_formed (json.string s) numbers = entry_formed (json.string s) numbers
value_formed (array js) numbers = entries_formed js numbers
value_formed (object ms) numbers = entry_formed (object ms) numbers

front_formed : (b : Bool) → IsFormedReading (if b then OverLimits else NotJson)
front_formed true = tt
front_formed false = tt

half_formed : (b : Bool) → IsFormedReading (if b then HalfPair else NotJson)
half_formed true = tt
half_formed false = tt

unreadable_formed : (text : List ℕ) (front : Option (List ℕ)) → IsFormedReading (unreadable_with text front)
unreadable_formed text (Some front) = front_formed (is_json front)
unreadable_formed text None = half_formed (is_json text)

json_formed : (text : List ℕ) (o : Option Json) → ((j : Json) → o ≡ Some j → HasNumbers j) → IsFormedReading (json_reading text o)
json_formed text None numbers = unreadable_formed text (front_of text)
json_formed text (Some j) numbers = value_formed j (numbers j refl)

text_formed : (content : List ℕ) → IsFormedReading (reading_of false content)
unfolding value_of
text_formed content = by (is_utf8 content)
  where
    by : (b : Bool) → IsFormedReading (if b then json_reading content (if b then text_value MOST_DEPTH_IN content else None) else NotText)
    by true = json_formed content (text_value MOST_DEPTH_IN content) (has_numbers content)
    by false = tt

content_formed : (foreign : Bool) (content : List ℕ) → IsFormedReading (reading_of foreign content)
content_formed true content = tt
content_formed false content = text_formed content

pub reading_formed : (foreign : Bool) (content : List ℕ) → IsFormedReading (limited_reading foreign content)
reading_formed foreign content = limited_keeps IsFormedReading tt (reading_of foreign content) (content_formed foreign content)
