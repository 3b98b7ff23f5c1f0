-- The parts of a compact value, one behind another.
use Rattle.std.proofs.Common.{◌≡◌, ℕ, zero, suc, ◌+◌, ◌-◌, ◌<◌, ◌≤◌, ◌⊎◌, inl, inr, List, [], ◌∷◌, ◌++◌, length, take, drop, get_or, fold, cond, Bool, true, false, ◌||◌, ◌==◌, ltb, nat_eq, Option, Some, None, IfSome, refl, sym, ap, ◌∙◌, subst, arith, append_assoc, append-nil, length-append, length-drop, length-take, take-append-drop, drop-drop, get_or-take, get_or-drop, lt_of_not-le, eqb-true, ltb-true, ltb-false}
use Rattle.std.proofs.lemmas.Bool.{cases_Bool, eqb-false, not-true, or_parts}
use Rattle.std.proofs.lemmas.Slice.Eq.{bytes_eq-Decides}
use Rattle.std.specs.List.{prefix_len, starts_with}
use Rattle.std.proofs.lemmas.List.{append_cancel_right, drop_all, drop_more, get_or_past, take_at, take-append-le}
use Rattle.std.proofs.Math.Seq.{take-append-add}
use Rattle.json.specs.Token.{Token}
use Rattle.json.specs.Json.{Json, null, boolean, number, string, array, object, Items, no_items, item, Members, no_members, member}
use Rattle.json.specs.Print.{escape, escape_byte, quoted, print, print_from, ends, IsNumber}
use Rattle.json.specs.Word.{after_number}
use Rattle.json.specs.Tree.{json_tokens, items_tokens, members_tokens, depth, items_depth, members_depth, ItemsHaveNumbers, MembersHaveNumbers}
use Rattle.json.proofs.Printed.Strings.{escape_byte_plain}
use Rattle.json.specs.Run.{is_plain}
use Rattle.json.proofs.Printed.Tokens.{print_from-append}
use Rattle.json_texts.specs.Texts.{json_text}
use Rattle.json_texts.specs.Standing.{Stands, HasString, HasName, HasNumber, HasValue, HasItems, HasMembers, is_escape_letter}

-- ---- a byte

pub byte_within : (text : List ℕ) (at c : ℕ) → get_or text at 0 ≡ suc c → at < length text
byte_within text at c is = lt_of_not-le (λ past. let f : suc c ≡ 0 = sym is ∙ get_or_past text at 0 past in omega (arith, f))

pub byte_stands : (text : List ℕ) (at c : ℕ) → get_or text at 0 ≡ suc c → drop at text ≡ suc c ∷ drop (at + 1) text
byte_stands text at c is = drop_more text at 0 (byte_within text at c is) ∙ ap (λ x. x ∷ drop (at + 1) text) is

-- ---- parts

pub stands_behind : (text a b : List ℕ) (from mid end : ℕ) → Stands text from a mid → Stands text mid b end → Stands text from (a ++ b) end
stands_behind text a b from mid end first second = first ∙ ap (λ s. a ++ s) second ∙ sym (append_assoc a b (drop end text))

pub stands_byte : (text a : List ℕ) (from end c : ℕ) → Stands text from a end → get_or text end 0 ≡ suc c → Stands text from (a ++ suc c ∷ []) (end + 1)
stands_byte text a from end c first is = stands_behind text a (suc c ∷ []) from end (end + 1) first (byte_stands text end c is)

-- the bytes from one place to another
pub part_is : (text part : List ℕ) (from end : ℕ) → Stands text from part end → from ≤ end → end ≤ length text → take (end - from) (drop from text) ≡ part
part_is text part from end stands below within =
    let sizes : length text - from ≡ length part + (length text - end) =
    sym (length-drop from text) ∙ ap length stands ∙ length-append part (drop end text) ∙ ap (λ n. length part + n) (length-drop end text) in
    ap (take (end - from)) stands ∙ take_at part (drop end text) (end - from) (omega (arith, sizes))

-- ---- strings

pub or_seven : (a b c d e f g : Bool) → (a || b || c || d || e || f || g) ≡ true → (a ≡ true) ⊎ ((b ≡ true) ⊎ ((c ≡ true) ⊎ ((d ≡ true) ⊎ ((e ≡ true) ⊎ ((f ≡ true) ⊎ (g ≡ true))))))
or_seven true b c d e f g h = inl refl
or_seven false true c d e f g h = inr (inl refl)
or_seven false false true d e f g h = inr (inr (inl refl))
or_seven false false false true e f g h = inr (inr (inr (inl refl)))
or_seven false false false false true f g h = inr (inr (inr (inr (inl refl))))
or_seven false false false false false true g h = inr (inr (inr (inr (inr (inl refl)))))
or_seven false false false false false false g h = inr (inr (inr (inr (inr (inr h)))))

abbrev HasEscape : ℕ → Type 0
HasEscape letter = (x : ℕ) × (escape_byte x ≡ 92 ∷ letter ∷ [])

-- the byte whose escape the letter ends
pub escaped_byte : (letter : ℕ) → is_escape_letter letter ≡ true → HasEscape letter
unfolding escape_byte
escaped_byte letter is = by_letter (or_seven _ _ _ _ _ _ _ is)
  where
    by_letter : ((letter == 34) ≡ true) ⊎ (((letter == 92) ≡ true) ⊎ (((letter == 98) ≡ true) ⊎ (((letter == 102) ≡ true) ⊎ (((letter == 110) ≡ true) ⊎ (((letter == 114) ≡ true) ⊎ ((letter == 116) ≡ true))))))
        → HasEscape letter
    by_letter (inl e) = subst HasEscape (sym (eqb-true letter 34 e)) (34, refl)
    by_letter (inr (inl e)) = subst HasEscape (sym (eqb-true letter 92 e)) (92, refl)
    by_letter (inr (inr (inl e))) = subst HasEscape (sym (eqb-true letter 98 e)) (8, refl)
    by_letter (inr (inr (inr (inl e)))) = subst HasEscape (sym (eqb-true letter 102 e)) (12, refl)
    by_letter (inr (inr (inr (inr (inl e))))) = subst HasEscape (sym (eqb-true letter 110 e)) (10, refl)
    by_letter (inr (inr (inr (inr (inr (inl e)))))) = subst HasEscape (sym (eqb-true letter 114 e)) (13, refl)
    by_letter (inr (inr (inr (inr (inr (inr e)))))) = subst HasEscape (sym (eqb-true letter 116 e)) (9, refl)

pub letter_is_some : (letter : ℕ) → is_escape_letter letter ≡ true → 0 < letter
letter_is_some zero is = absurd (let f : false ≡ true = is in cc)
letter_is_some (suc n) is = omega arith

pub escape-more : (s : List ℕ) (x : ℕ) → escape (s ++ x ∷ []) ≡ escape s ++ escape_byte x
escape-more [] x = append-nil (escape_byte x)
escape-more (y ∷ s) x = ap (λ l. escape_byte y ++ l) (escape-more s x) ∙ sym (append_assoc (escape_byte y) (escape s) (escape_byte x))

pub escape-append : (s t : List ℕ) → escape (s ++ t) ≡ escape s ++ escape t
escape-append [] t = refl
escape-append (y ∷ s) t = ap (λ l. escape_byte y ++ l) (escape-append s t) ∙ sym (append_assoc (escape_byte y) (escape s) (escape t))

run_byte : (p : Bool) (x n : ℕ) (xs : List ℕ) → p ≡ is_plain x → escape xs ≡ take n xs ++ escape (drop n xs)
    → escape (x ∷ xs) ≡ take (cond p (1 + n) 0) (x ∷ xs) ++ escape (drop (cond p (1 + n) 0) (x ∷ xs))
run_byte false x n xs e ih = refl
run_byte true x n xs e ih =
    let next : suc n ≡ 1 + n = omega arith in
    let none = or_parts ((x == 34) || (x == 92)) _ (not-true _ (sym e)) in
    let tests = or_parts (x == 34) _ none.0 in
    (λ i. escape_byte_plain x (eqb-false x 34 tests.0) (eqb-false x 92 tests.1) (ltb-false x 32 none.1) i ++ ih i)
    ∙ ap (λ k. take k (x ∷ xs) ++ escape (drop k (x ∷ xs))) next

escape_run : (xs : List ℕ) → escape xs ≡ take (prefix_len is_plain xs) xs ++ escape (drop (prefix_len is_plain xs) xs)
escape_run [] = refl
escape_run (x ∷ xs) = run_byte (is_plain x) x (prefix_len is_plain xs) xs refl (escape_run xs)

-- the plain bytes at the front are their own escape
plain_front : (xs : List ℕ) → escape (take (prefix_len is_plain xs) xs) ≡ take (prefix_len is_plain xs) xs
plain_front xs =
    let n = prefix_len is_plain xs in
    append_cancel_right (escape (take n xs)) (take n xs) (escape (drop n xs)) (sym (escape-append (take n xs) (drop n xs)) ∙ ap escape (take-append-drop n xs) ∙ escape_run xs)

abbrev pub plain_bytes : List ℕ → ℕ → List ℕ
plain_bytes text at = take (prefix_len is_plain (drop at text)) (drop at text)

pub plain_stands : (text s : List ℕ) (from at stop : ℕ) → drop from text ≡ escape s ++ drop at text → stop ≡ at + prefix_len is_plain (drop at text)
    → drop from text ≡ escape (s ++ plain_bytes text at) ++ drop stop text
plain_stands text s from at stop so_far is =
    let n = prefix_len is_plain (drop at text) in
    let run = plain_bytes text at in
    let parts : drop at text ≡ escape run ++ drop stop text =
    sym (take-append-drop n (drop at text)) ∙ ap (λ l. run ++ l) (drop-drop n at text ∙ ap (λ k. drop k text) (sym is)) ∙ ap (λ l. l ++ drop stop text) (sym (plain_front (drop at text))) in
    so_far ∙ ap (λ l. escape s ++ l) parts ∙ sym (append_assoc (escape s) (escape run) (drop stop text)) ∙ ap (λ l. l ++ drop stop text) (sym (escape-append s run))

-- ---- tokens

fold-append : (c : Bool) (ts us : List Token) → fold (λ _ t. ends t) c (ts ++ us) ≡ fold (λ _ t. ends t) (fold (λ _ t. ends t) c ts) us
fold-append c [] us = refl
fold-append c (t ∷ ts) us = fold-append (ends t) ts us

items_end_value : (js : Items) (c : Bool) → fold (λ _ t. ends t) c (items_tokens js) ≡ true
items_end_value no_items c = refl
items_end_value (item j js) c = fold-append c (json_tokens j) (items_tokens js) ∙ items_end_value js (fold (λ _ t. ends t) c (json_tokens j))

members_end_value : (ms : Members) (c : Bool) → fold (λ _ t. ends t) c (members_tokens ms) ≡ true
members_end_value no_members c = refl
members_end_value (member k j ms) c = fold-append false (json_tokens j) (members_tokens ms) ∙ members_end_value ms (fold (λ _ t. ends t) false (json_tokens j))

value_ends : (j : Json) → fold (λ _ t. ends t) false (json_tokens j) ≡ true
value_ends null = refl
value_ends (boolean b) = refl
value_ends (number s) = refl
value_ends (string s) = refl
value_ends (array js) = items_end_value js false
value_ends (object ms) = members_end_value ms false

pub print-behind : (j : Json) (ts : List Token) → print (json_tokens j ++ ts) ≡ json_text j ++ print_from true ts
unfolding json_text
print-behind j ts = print_from-append false (json_tokens j) ts ∙ ap (λ c. print (json_tokens j) ++ print_from c ts) (value_ends j)

pub comma_first : (j : Json) (ts : List Token) → print_from true (json_tokens j ++ ts) ≡ 44 ∷ print (json_tokens j ++ ts)
unfolding print_from
comma_first null ts = refl
comma_first (boolean b) ts = refl
comma_first (number s) ts = refl
comma_first (string s) ts = refl
comma_first (array js) ts = refl
comma_first (object ms) ts = refl

pub print-last_item : print_from true (items_tokens no_items) ≡ 93 ∷ []
unfolding print_from
print-last_item = refl

pub print-last_member : print_from true (members_tokens no_members) ≡ 125 ∷ []
unfolding print_from
print-last_member = refl

pub key_first : (k : List ℕ) (ts : List Token) → print_from true (Token.key k ∷ ts) ≡ 44 ∷ print_from false (Token.key k ∷ ts)
unfolding print_from
key_first k ts = refl

pub print-key : (k : List ℕ) (ts : List Token) → print_from false (Token.key k ∷ ts) ≡ (quoted k ++ 58 ∷ []) ++ print ts
unfolding print_from
print-key k ts = refl

-- ---- items

-- these items, and the bracket
abbrev pub ItemsStand : ℕ → List ℕ → ℕ → Items → ℕ → Type 0
ItemsStand levels text at js end = ItemsHaveNumbers js × (items_depth js ≤ levels) × Stands text at (print (items_tokens js)) end

abbrev pub MoreItems : ℕ → List ℕ → ℕ → ℕ → Type 0
MoreItems levels text at end = (j : Json) × (js : Items) × ItemsStand levels text at (item j js) end

pub items_of_more : (levels : ℕ) (text : List ℕ) (from end : ℕ) → MoreItems levels text from end → HasItems levels text from end
items_of_more levels text from end more = record { items = item more.0 more.1; numbers = more.2.0; nests = more.2.1; stands = more.2.2 }

pub no_item : (levels : ℕ) (text : List ℕ) (from : ℕ) → get_or text from 0 ≡ 93 → HasItems levels text from (from + 1)
unfolding print_from
no_item levels text from is = record { items = no_items; numbers = tt; nests = omega arith; stands = byte_stands text from 92 is }

pub stand_last_item : (levels : ℕ) (text : List ℕ) (at end : ℕ) (v : HasValue levels text at end) → get_or text end 0 ≡ 93 → ItemsStand levels text at (item v.value no_items) (end + 1)
stand_last_item levels text at end v is =
    let nests = v.nests in
    let printed : print (items_tokens (item v.value no_items)) ≡ json_text v.value ++ 93 ∷ [] =
    print-behind v.value (items_tokens no_items) ∙ ap (λ s. json_text v.value ++ s) print-last_item in
    ((v.numbers, tt), omega (arith, nests), stands_byte text (json_text v.value) at end 92 v.stands is ∙ ap (λ s. s ++ drop (end + 1) text) (sym printed))

pub stand_more_items : (levels : ℕ) (text : List ℕ) (at mid end : ℕ) (v : HasValue levels text at mid) → get_or text mid 0 ≡ 44 → (i : Json) (is : Items) → ItemsStand levels text (mid + 1) (item i is) end
    → ItemsStand levels text at (item v.value (item i is)) end
stand_more_items levels text at mid end v comma i is more =
    let j = v.value in
    let rest = item i is in
    let nests : depth j ≤ levels = v.nests in
    let deeper : items_depth rest ≤ levels = more.1 in
    let printed : print (items_tokens (item j rest)) ≡ (json_text j ++ 44 ∷ []) ++ print (items_tokens rest) =
    print-behind j (items_tokens rest) ∙ ap (λ s. json_text j ++ s) (comma_first i (items_tokens is))
    ∙ sym (append_assoc (json_text j) (44 ∷ []) (print (items_tokens rest))) in (
      (v.numbers, more.0),
      omega (arith, nests, deeper),
      stands_behind text (json_text j ++ 44 ∷ []) (print (items_tokens rest)) at (mid + 1) end (stands_byte text (json_text j) at mid 43 v.stands comma) more.2
          ∙ ap (λ s. s ++ drop end text) (sym printed),
    )

pub last_item : (levels : ℕ) (text : List ℕ) (at end : ℕ) → HasValue levels text at end → get_or text end 0 ≡ 93 → MoreItems levels text at (end + 1)
last_item levels text at end v is = (v.value, no_items, stand_last_item levels text at end v is)

pub more_items : (levels : ℕ) (text : List ℕ) (at mid end : ℕ) → HasValue levels text at mid → get_or text mid 0 ≡ 44 → MoreItems levels text (mid + 1) end → MoreItems levels text at end
more_items levels text at mid end v is more = (v.value, item more.0 more.1, stand_more_items levels text at mid end v is more.0 more.1 more.2)

-- ---- members

-- these members, and the brace
abbrev pub MembersStand : ℕ → List ℕ → ℕ → Members → ℕ → Type 0
MembersStand levels text at ms end = MembersHaveNumbers ms × (members_depth ms ≤ levels) × Stands text at (print (members_tokens ms)) end

abbrev pub MoreMembers : ℕ → List ℕ → ℕ → ℕ → Type 0
MoreMembers levels text at end = (k : List ℕ) × (j : Json) × (ms : Members) × MembersStand levels text at (member k j ms) end

pub members_of_more : (levels : ℕ) (text : List ℕ) (from end : ℕ) → MoreMembers levels text from end → HasMembers levels text from end
members_of_more levels text from end more = record { members = member more.0 more.1 more.2; numbers = more.3.0; nests = more.3.1; stands = more.3.2 }

pub no_member : (levels : ℕ) (text : List ℕ) (from : ℕ) → get_or text from 0 ≡ 125 → HasMembers levels text from (from + 1)
unfolding print_from
no_member levels text from is = record { members = no_members; numbers = tt; nests = omega arith; stands = byte_stands text from 124 is }

pub stand_last : (levels : ℕ) (text : List ℕ) (at mid end : ℕ) (n : HasName text at mid) (v : HasValue levels text mid end) → get_or text end 0 ≡ 125
    → MembersStand levels text at (member n.name v.value no_members) (end + 1)
stand_last levels text at mid end n v is =
    let nests = v.nests in
    let name = quoted n.name ++ 58 ∷ [] in
    let printed : print (members_tokens (member n.name v.value no_members)) ≡ name ++ (json_text v.value ++ 125 ∷ []) =
    print-key n.name (json_tokens v.value ++ members_tokens no_members)
    ∙ ap (λ s. name ++ s) (print-behind v.value (members_tokens no_members) ∙ ap (λ s. json_text v.value ++ s) print-last_member) in (
      (v.numbers, tt),
      omega (arith, nests),
      stands_behind text name (json_text v.value ++ 125 ∷ []) at mid (end + 1) n.stands (stands_byte text (json_text v.value) mid end 124 v.stands is)
          ∙ ap (λ s. s ++ drop (end + 1) text) (sym printed),
    )

pub stand_more : (levels : ℕ) (text : List ℕ) (at mid stop end : ℕ) (n : HasName text at mid) (v : HasValue levels text mid stop) → get_or text stop 0 ≡ 44
    → (k : List ℕ) (i : Json) (ms : Members) → MembersStand levels text (stop + 1) (member k i ms) end → MembersStand levels text at (member n.name v.value (member k i ms)) end
stand_more levels text at mid stop end n v is k i ms more =
    let j = v.value in
    let name = quoted n.name ++ 58 ∷ [] in
    let rest = member k i ms in
    let nests : depth j ≤ levels = v.nests in
    let deeper : members_depth rest ≤ levels = more.1 in
    let printed : print (members_tokens (member n.name j rest)) ≡ name ++ ((json_text j ++ 44 ∷ []) ++ print (members_tokens rest)) =
    print-key n.name (json_tokens j ++ members_tokens rest)
    ∙ ap (λ s. name ++ s)
    (print-behind j (members_tokens rest) ∙ ap (λ s. json_text j ++ s) (key_first k (json_tokens i ++ members_tokens ms))
    ∙ sym (append_assoc (json_text j) (44 ∷ []) (print (members_tokens rest)))) in (
      (v.numbers, more.0),
      omega (arith, nests, deeper),
      stands_behind text name ((json_text j ++ 44 ∷ []) ++ print (members_tokens rest)) at mid end n.stands
          (stands_behind text (json_text j ++ 44 ∷ []) (print (members_tokens rest)) mid (stop + 1) end (stands_byte text (json_text j) mid stop 43 v.stands is) more.2)
          ∙ ap (λ s. s ++ drop end text) (sym printed),
    )

pub last_member : (levels : ℕ) (text : List ℕ) (at mid end : ℕ) → HasName text at mid → HasValue levels text mid end → get_or text end 0 ≡ 125 → MoreMembers levels text at (end + 1)
last_member levels text at mid end n v is = (n.name, v.value, no_members, stand_last levels text at mid end n v is)

pub more_members : (levels : ℕ) (text : List ℕ) (at mid stop end : ℕ) → HasName text at mid → HasValue levels text mid stop → get_or text stop 0 ≡ 44 → MoreMembers levels text (stop + 1) end
    → MoreMembers levels text at end
more_members levels text at mid stop end n v is more =
    (n.name, v.value, member more.0 more.1 more.2, stand_more levels text at mid stop end n v is more.0 more.1 more.2 more.3)

-- ---- values

pub string_value : (levels : ℕ) (text : List ℕ) (from end : ℕ) → get_or text from 0 ≡ 34 → HasString text (from + 1) end → HasValue levels text from end
unfolding json_text print_from
string_value levels text from end is s = record {
  value = string s.content;
  numbers = tt;
  nests = omega arith;
  stands = byte_stands text from 33 is ∙ ap (λ l. 34 ∷ l) s.stands ∙ ap (λ l. 34 ∷ l) (ap (λ l. l ++ drop end text) (sym (append-nil (escape s.content ++ 34 ∷ []))));
}

pub number_value : (levels : ℕ) (text : List ℕ) (from end : ℕ) → HasNumber text from end → HasValue levels text from end
unfolding json_text print_from
number_value levels text from end n = record {
  value = number n.number;
  numbers = n.is;
  nests = omega arith;
  stands = n.stands ∙ ap (λ l. l ++ drop end text) (sym (append-nil n.number));
}

pub true_value : (levels : ℕ) (text : List ℕ) (from end : ℕ) → Stands text from (116 ∷ 114 ∷ 117 ∷ 101 ∷ []) end → HasValue levels text from end
unfolding json_text print_from
true_value levels text from end stands = record { value = boolean true; numbers = tt; nests = omega arith; stands = stands }

pub false_value : (levels : ℕ) (text : List ℕ) (from end : ℕ) → Stands text from (102 ∷ 97 ∷ 108 ∷ 115 ∷ 101 ∷ []) end → HasValue levels text from end
unfolding json_text print_from
false_value levels text from end stands = record { value = boolean false; numbers = tt; nests = omega arith; stands = stands }

pub null_value : (levels : ℕ) (text : List ℕ) (from end : ℕ) → Stands text from (110 ∷ 117 ∷ 108 ∷ 108 ∷ []) end → HasValue levels text from end
unfolding json_text print_from
null_value levels text from end stands = record { value = null; numbers = tt; nests = omega arith; stands = stands }

pub array_value : (levels below : ℕ) (text : List ℕ) (from end : ℕ) → get_or text from 0 ≡ 91 → levels ≡ suc below → HasItems below text (from + 1) end → HasValue levels text from end
unfolding json_text print_from
array_value levels below text from end is above a = record {
  value = array a.items;
  numbers = a.numbers;
  nests = (let nests = a.nests in omega (arith, above, nests));
  stands = byte_stands text from 90 is ∙ ap (λ l. 91 ∷ l) a.stands;
}

pub object_value : (levels below : ℕ) (text : List ℕ) (from end : ℕ) → get_or text from 0 ≡ 123 → levels ≡ suc below → HasMembers below text (from + 1) end → HasValue levels text from end
unfolding json_text print_from
object_value levels below text from end is above o = record {
  value = object o.members;
  numbers = o.numbers;
  nests = (let nests = o.nests in omega (arith, above, nests));
  stands = byte_stands text from 122 is ∙ ap (λ l. 123 ∷ l) o.stands;
}

-- ---- bytes of strings and numbers

pub letter_within : (text : List ℕ) (at : ℕ) → is_escape_letter (get_or text at 0) ≡ true → at < length text
letter_within text at is = lt_of_not-le (λ past. let some = letter_is_some (get_or text at 0) is in omega (arith, some, get_or_past text at 0 past))

pub more_escaped : (text s : List ℕ) (from at : ℕ) → drop from text ≡ escape s ++ drop at text → get_or text at 0 ≡ 92 → (letter : is_escape_letter (get_or text (at + 1) 0) ≡ true)
    → drop from text ≡ escape (s ++ (escaped_byte (get_or text (at + 1) 0) letter).0 ∷ []) ++ drop (at + 2) text
more_escaped text s from at so_far backslash letter =
    let y = get_or text (at + 1) 0 in
    let x = escaped_byte y letter in
    let after : at + 1 + 1 ≡ at + 2 = omega arith in
    so_far ∙ ap (λ l. escape s ++ l)
    (byte_stands text at 91 backslash ∙ ap (λ l. 92 ∷ l) (drop_more text (at + 1) 0 (letter_within text (at + 1) letter) ∙ ap (λ n. y ∷ drop n text) after))
    ∙ sym (append_assoc (escape s) (92 ∷ y ∷ []) (drop (at + 2) text))
    ∙ ap (λ l. (escape s ++ l) ++ drop (at + 2) text) (sym x.1) ∙ ap (λ l. l ++ drop (at + 2) text) (sym (escape-more s x.0))

pub ascii_part : (text : List ℕ) (from at : ℕ) → ((k : ℕ) → from ≤ k → k < at → get_or text k 0 < 128) → (i : ℕ) → get_or (take (at - from) (drop from text)) i 0 < 128
ascii_part text from at ascii i =
    elim (cases_Bool (ltb i (at - from))) [
      | inl below ↦
          let inside : i < at - from = ltb-true i (at - from) below in
          let same : get_or (take (at - from) (drop from text)) i 0 ≡ get_or text (from + i) 0 = get_or-take (at - from) (drop from text) i 0 inside ∙ get_or-drop from text i 0 in
          let small : get_or text (from + i) 0 < 128 = ascii (from + i) (omega arith) (omega (arith, inside)) in
          omega (arith, same, small)
      | inr past ↦
          let outside : at - from ≤ i = ltb-false i (at - from) past in
          let short = length-take (at - from) (drop from text) in
          let none : get_or (take (at - from) (drop from text)) i 0 ≡ 0 = get_or_past (take (at - from) (drop from text)) i 0 (omega (arith, outside, short)) in
          omega (arith, none)
    ]

pub part_stands : (text : List ℕ) (from at : ℕ) → from ≤ at → Stands text from (take (at - from) (drop from text)) at
part_stands text from at below =
    let place : from + (at - from) ≡ at = omega (arith, below) in
    sym (take-append-drop (at - from) (drop from text))
    ∙ ap (λ l. take (at - from) (drop from text) ++ l) (drop-drop (at - from) from text ∙ ap (λ n. drop n text) place)

pub number_is_some : (s : List ℕ) → IsNumber s → 0 < length s
unfolding after_number
number_is_some [] is = absurd (let f : None ≡ Some [] = is in cc)
number_is_some (x ∷ s) is = omega arith

pub starts_with-is : (text word : List ℕ) → starts_with nat_eq text word ≡ true → text ≡ word ++ drop (length word) text
starts_with-is text word is =
    let same : word ≡ take (length word) text = (bytes_eq-Decides word (take (length word) text)).0 is in
    sym (take-append-drop (length word) text) ∙ ap (λ l. l ++ drop (length word) text) (sym same)

pub starts_with-so : (text word : List ℕ) → word ≡ take (length word) text → starts_with nat_eq text word ≡ true
starts_with-so text word same = (bytes_eq-Decides word (take (length word) text)).1 same

pub some_weaker : {X : Type 0} {P Q : X → Type 0} (r : Option X) → ((x : X) → P x → Q x) → IfSome r P → IfSome r Q
some_weaker None f h = h
some_weaker (Some x) f h = f x h

-- ---- whole texts

-- an object, from its brace on
pub object_stands : (levels : ℕ) (text : List ℕ) (from end : ℕ) (ms : Members) → get_or text from 0 ≡ 123 → MembersStand levels text (from + 1) ms end → Stands text from (json_text (object ms)) end
unfolding json_text print_from
object_stands levels text from end ms first m = byte_stands text from 122 first ∙ ap (λ l. 123 ∷ l) m.2

-- an array that is a whole text
pub array_text : (levels : ℕ) (text : List ℕ) (js : Items) (end : ℕ) → get_or text 0 0 ≡ 91 → ItemsStand levels text 1 js end → end ≡ length text → json_text (array js) ≡ text
unfolding json_text print_from
array_text levels text js end first stand whole =
    let none : drop end text ≡ [] = drop_all end text (omega (arith, whole)) in
    sym (byte_stands text 0 90 first ∙ ap (λ l. 91 ∷ l) (stand.2 ∙ ap (λ l. print (items_tokens js) ++ l) none ∙ append-nil (print (items_tokens js))))

pub value_text : (levels : ℕ) (text : List ℕ) (end : ℕ) (v : HasValue levels text 0 end) → end ≡ length text → json_text v.value ≡ text
value_text levels text end v whole =
    let none : drop end text ≡ [] = drop_all end text (omega (arith, whole)) in
    sym (v.stands ∙ ap (λ l. json_text v.value ++ l) none ∙ append-nil (json_text v.value))

-- ---- what is written into room

-- a part of a text, of whose bytes the first count
pub written_front : (bytes room text part behind : List ℕ) (len count from : ℕ) → room ≡ bytes → len ≤ length bytes → count ≤ 16 → part ≡ take 16 (drop from text) → from + 16 ≤ length text
    → take (len + count) (take len room ++ (part ++ behind)) ≡ take len bytes ++ take count (drop from text)
written_front bytes room text part behind len count from same within few is inside =
    let front = take len bytes in
    let size : length front ≡ len = (let all = length-take len bytes in omega (arith, all, within)) in
    let behind_from = length-drop from text in
    let whole = length-take 16 (drop from text) in
    let part_long : count ≤ length part = (let long = ap length is in omega (arith, long, whole, behind_from, few, inside)) in
    let both : take count (take 16 (drop from text)) ≡ take count (drop from text) =
    sym (take-append-le count (take 16 (drop from text)) (drop 16 (drop from text)) (omega (arith, whole, behind_from, few, inside))) ∙ ap (take count) (take-append-drop 16 (drop from text)) in
    ap (λ l. take (len + count) (take len l ++ (part ++ behind))) same ∙ ap (λ n. take (n + count) (front ++ (part ++ behind))) (sym size) ∙ take-append-add front (part ++ behind) count
    ∙ ap (λ l. front ++ l) (take-append-le count part behind part_long ∙ ap (take count) is ∙ both)
