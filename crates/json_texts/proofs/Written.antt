-- Values that were written, one part behind another.
use Rattle.std.proofs.Common.{◌≡◌, ◌⊎◌, inl, inr, Option, Some, None, IfSome, ℕ, suc, ◌+◌, ◌-◌, ◌<◌, ◌≤◌, true, false, List, [], ◌∷◌, ◌++◌, length, take, drop, get_or, refl, sym, ap, ◌∙◌, subst, arith, append_assoc, append-nil, length-append, length-take, length-drop}
use Rattle.std.proofs.lemmas.List.{drop_all, drop-append-le}
use Rattle.std.proofs.Math.Seq.{drop-append_seam}
use Rattle.std.specs.List.{AllByRecursion}
use Rattle.std.specs.Prelude.{Result, Ok, Err, IfOk}
use Rattle.json.specs.Json.{Json, number, string, array, object, Items, no_items, item, Members, no_members, member}
use Rattle.json.specs.Print.{escape, quoted, print, print_from, IsNumber}
use Rattle.json.specs.Tree.{json_tokens, items_tokens, members_tokens, items_depth, members_depth, ItemsHaveNumbers, MembersHaveNumbers}
use Rattle.json.specs.Word.{ends_word}
use Rattle.json.specs.Lex.{tokens}
use Rattle.json_texts.specs.Texts.{json_text, compact_text}
use Rattle.json_texts.proofs.ReadBack.{value_of-same, compact_text-json_text}
use Rattle.std.specs.Str.{IsUtf8, is_utf8}
use Rattle.std.proofs.lemmas.Str.{is_utf8-from_IsUtf8}
use Rattle.std.specs.Prelude.{option_map}
use Rattle.json_texts.specs.Standing.{HasValue}
use Rattle.json_texts.specs.Compacting.{HasCompactString, HasWord, HasWrittenValue, HasWrittenItems, HasWrittenMembers, HasWrittenName, ReadsSame, With}
use Rattle.json_texts.specs.Naturals.{with_commas}
use Rattle.json_texts.specs.Known.{IsKnown}
use Rattle.json_texts.specs.declared.spaced.Known.{Known}
use Rattle.json_texts.proofs.Lexed.{with_one, with_part, past_word}
use Rattle.json_texts.proofs.Placed.{print-behind, comma_first, key_first, print-key, print-last_item, print-last_member, some_weaker}

-- ---- values

pub string_written : (levels : ℕ) (text out new : List ℕ) (kept from end : ℕ) → kept ≤ from → get_or text from 0 ≡ 34 → HasCompactString text (from + 1) (With out text kept (from + 1)) new end
    → HasWrittenValue levels (With out text kept from) new
unfolding json_text print_from
string_written levels text out new kept from end below quote s =
    let w = With out text kept from in
    record {
      value = string s.bytes;
      numbers = tt;
      nests = omega arith;
      written = s.written ∙ ap (λ l. l ++ (escape s.bytes ++ 34 ∷ [])) (with_one out text kept from 33 below quote) ∙ append_assoc w (34 ∷ []) (escape s.bytes ++ 34 ∷ [])
          ∙ ap (λ l. w ++ (34 ∷ l)) (sym (append-nil (escape s.bytes ++ 34 ∷ [])));
    }

pub name_written : (text out new : List ℕ) (kept from end : ℕ) → kept ≤ from → get_or text from 0 ≡ 34 → (s : HasCompactString text (from + 1) (With out text kept (from + 1)) new end)
    → new ≡ With out text kept from ++ quoted s.bytes
name_written text out new kept from end below quote s =
    let w = With out text kept from in
    s.written ∙ ap (λ l. l ++ (escape s.bytes ++ 34 ∷ [])) (with_one out text kept from 33 below quote) ∙ append_assoc w (34 ∷ []) (escape s.bytes ++ 34 ∷ [])

-- one that stands so in the text
pub value_written : (levels : ℕ) (text out : List ℕ) (kept from end : ℕ) → kept ≤ from → from ≤ end → end ≤ length text → HasValue levels text from end
    → HasWrittenValue levels (With out text kept from) (With out text kept end)
value_written levels text out kept from end below above within v = record {
  value = v.value;
  numbers = v.numbers;
  nests = v.nests;
  written = with_part out text (json_text v.value) kept from end below above within v.stands;
}

pub array_written : (levels below : ℕ) (text out new : List ℕ) (kept from : ℕ) → kept ≤ from → get_or text from 0 ≡ 91 → levels ≡ suc below
    → HasWrittenItems below (With out text kept (from + 1)) new → HasWrittenValue levels (With out text kept from) new
unfolding json_text print_from
array_written levels below text out new kept from order bracket above a =
    let w = With out text kept from in
    record {
      value = array a.items;
      numbers = a.numbers;
      nests = (let nests = a.nests in omega (arith, above, nests));
      written = a.written ∙ ap (λ l. l ++ print (items_tokens a.items)) (with_one out text kept from 90 order bracket) ∙ append_assoc w (91 ∷ []) (print (items_tokens a.items));
    }

pub object_written : (levels below : ℕ) (text out new : List ℕ) (kept from : ℕ) → kept ≤ from → get_or text from 0 ≡ 123 → levels ≡ suc below
    → HasWrittenMembers below (With out text kept (from + 1)) new → HasWrittenValue levels (With out text kept from) new
unfolding json_text print_from
object_written levels below text out new kept from order brace above o =
    let w = With out text kept from in
    record {
      value = object o.members;
      numbers = o.numbers;
      nests = (let nests = o.nests in omega (arith, above, nests));
      written = o.written ∙ ap (λ l. l ++ print (members_tokens o.members)) (with_one out text kept from 122 order brace) ∙ append_assoc w (123 ∷ []) (print (members_tokens o.members));
    }

-- ---- items

-- some items, and the bracket
pub record MoreItems (levels : ℕ) (before after : List ℕ) : Type 0 where
  pub first : Json
  pub others : Items
  pub numbers : ItemsHaveNumbers (item first others)
  pub nests : items_depth (item first others) ≤ levels
  pub written : after ≡ before ++ print (items_tokens (item first others))

pub items_of_more : (levels : ℕ) (before after : List ℕ) → MoreItems levels before after → HasWrittenItems levels before after
items_of_more levels before after m = record { items = item m.first m.others; numbers = m.numbers; nests = m.nests; written = m.written }

pub no_item : (levels : ℕ) (text out : List ℕ) (kept at : ℕ) → kept ≤ at → get_or text at 0 ≡ 93 → HasWrittenItems levels (With out text kept at) (With out text kept (at + 1))
unfolding print_from
no_item levels text out kept at below bracket = record { items = no_items; numbers = tt; nests = omega arith; written = with_one out text kept at 92 below bracket }

pub last_item : (levels : ℕ) (before w after : List ℕ) → HasWrittenValue levels before w → after ≡ w ++ 93 ∷ [] → MoreItems levels before after
last_item levels before w after v is =
    let nests = v.nests in
    let text = json_text v.value in
    record {
      first = v.value;
      others = no_items;
      numbers = (v.numbers, tt);
      nests = omega (arith, nests);
      written = is ∙ ap (λ l. l ++ 93 ∷ []) v.written ∙ append_assoc before text (93 ∷ [])
          ∙ ap (λ l. before ++ l) (sym (print-behind v.value (items_tokens no_items) ∙ ap (λ s. text ++ s) print-last_item));
    }

pub more_items : (levels : ℕ) (before w next after : List ℕ) → HasWrittenValue levels before w → next ≡ w ++ 44 ∷ [] → MoreItems levels next after → MoreItems levels before after
more_items levels before w next after v comma m =
    let nests = v.nests in
    let deeper = m.nests in
    let text = json_text v.value in
    let rest = item m.first m.others in
    record {
      first = v.value;
      others = rest;
      numbers = (v.numbers, m.numbers);
      nests = omega (arith, nests, deeper);
      written = m.written ∙ ap (λ l. l ++ print (items_tokens rest)) (comma ∙ ap (λ l. l ++ 44 ∷ []) v.written)
          ∙ append_assoc (before ++ text) (44 ∷ []) (print (items_tokens rest)) ∙ append_assoc before text (44 ∷ print (items_tokens rest))
          ∙ ap (λ l. before ++ l) (sym (print-behind v.value (items_tokens rest) ∙ ap (λ s. text ++ s) (comma_first m.first (items_tokens m.others))));
    }

-- integers, with a comma behind each
pub numbers_before : (levels : ℕ) (numbers : List (List ℕ)) → AllByRecursion IsNumber numbers → (before w after : List ℕ) → w ≡ before ++ with_commas numbers → MoreItems levels w after
    → MoreItems levels before after
unfolding json_text print_from
numbers_before levels [] are before w after is m = subst (λ l. MoreItems levels l after) (is ∙ append-nil before) m
numbers_before levels (n ∷ ns) are before w after is m =
    let value : HasWrittenValue levels before (before ++ n) = record { value = number n; numbers = are.0; nests = omega arith; written = ap (λ l. before ++ l) (sym (append-nil n)) } in
    let next = (before ++ n) ++ 44 ∷ [] in
    let behind : w ≡ next ++ with_commas ns = is ∙ sym (append_assoc before n (44 ∷ with_commas ns)) ∙ sym (append_assoc (before ++ n) (44 ∷ []) (with_commas ns)) in
    more_items levels before (before ++ n) next after value refl (numbers_before levels ns are.1 next w after behind m)

-- ---- members

-- some members, and the brace
pub record MoreMembers (levels : ℕ) (before after : List ℕ) : Type 0 where
  pub name : List ℕ
  pub first : Json
  pub others : Members
  pub numbers : MembersHaveNumbers (member name first others)
  pub nests : members_depth (member name first others) ≤ levels
  pub written : after ≡ before ++ print (members_tokens (member name first others))

pub members_of_more : (levels : ℕ) (before after : List ℕ) → MoreMembers levels before after → HasWrittenMembers levels before after
members_of_more levels before after m = record { members = member m.name m.first m.others; numbers = m.numbers; nests = m.nests; written = m.written }

pub no_member : (levels : ℕ) (text out : List ℕ) (kept at : ℕ) → kept ≤ at → get_or text at 0 ≡ 125 → HasWrittenMembers levels (With out text kept at) (With out text kept (at + 1))
unfolding print_from
no_member levels text out kept at below brace = record { members = no_members; numbers = tt; nests = omega arith; written = with_one out text kept at 124 below brace }

pub last_member : (levels : ℕ) (before named w after : List ℕ) → HasWrittenName before named → HasWrittenValue levels named w → after ≡ w ++ 125 ∷ [] → MoreMembers levels before after
last_member levels before named w after n v is =
    let nests = v.nests in
    let text = json_text v.value in
    let name = quoted n.name ++ 58 ∷ [] in
    record {
      name = n.name;
      first = v.value;
      others = no_members;
      numbers = (v.numbers, tt);
      nests = omega (arith, nests);
      written = is ∙ ap (λ l. l ++ 125 ∷ []) (v.written ∙ ap (λ l. l ++ text) n.written) ∙ append_assoc (before ++ name) text (125 ∷ []) ∙ append_assoc before name (text ++ 125 ∷ [])
          ∙ ap (λ l. before ++ l) (sym (print-key n.name (json_tokens v.value ++ members_tokens no_members)
          ∙ ap (λ s. name ++ s) (print-behind v.value (members_tokens no_members) ∙ ap (λ s. text ++ s) print-last_member)));
    }

pub more_members : (levels : ℕ) (before named w next after : List ℕ) → HasWrittenName before named → HasWrittenValue levels named w → next ≡ w ++ 44 ∷ [] → MoreMembers levels next after
    → MoreMembers levels before after
more_members levels before named w next after n v comma m =
    let nests = v.nests in
    let deeper = m.nests in
    let text = json_text v.value in
    let name = quoted n.name ++ 58 ∷ [] in
    let rest = member m.name m.first m.others in
    record {
      name = n.name;
      first = v.value;
      others = rest;
      numbers = (v.numbers, m.numbers);
      nests = omega (arith, nests, deeper);
      written = m.written ∙ ap (λ l. l ++ print (members_tokens rest)) (comma ∙ ap (λ l. l ++ 44 ∷ []) (v.written ∙ ap (λ l. l ++ text) n.written))
          ∙ append_assoc ((before ++ name) ++ text) (44 ∷ []) (print (members_tokens rest)) ∙ append_assoc (before ++ name) text (44 ∷ print (members_tokens rest))
          ∙ append_assoc before name (text ++ 44 ∷ print (members_tokens rest))
          ∙ ap (λ l. before ++ l) (sym (print-key n.name (json_tokens v.value ++ members_tokens rest)
          ∙ ap (λ s. name ++ s) (print-behind v.value (members_tokens rest) ∙ ap (λ s. text ++ s) (key_first m.name (json_tokens m.first ++ members_tokens m.others)))));
    }

-- ---- where a value stands in what was written

pub with_length : (out text : List ℕ) (from end : ℕ) → from ≤ end → end ≤ length text → length (With out text from end) ≡ length out + (end - from)
with_length out text from end below within =
    let all = length-append out (take (end - from) (drop from text)) in
    let part = length-take (end - from) (drop from text) in
    let behind = length-drop from text in
    omega (arith, all, part, behind, below, within)

pub known_value : (levels : ℕ) (before after : List ℕ) (known : Known) → HasWrittenValue levels before after → known.start ≡ length before → known.end ≡ length after
    → IsKnown levels after known
known_value levels before after known v starts ends = λ _. (
  record {
    value = v.value;
    numbers = v.numbers;
    nests = v.nests;
    stands = ap (λ n. drop n after) starts ∙ ap (drop (length before)) v.written ∙ drop-append_seam before (json_text v.value) ∙ sym (append-nil (json_text v.value))
        ∙ ap (λ l. json_text v.value ++ l) (sym (drop_all known.end after (omega (arith, ends))));
  },
  (let longer = ap length v.written ∙ length-append before (json_text v.value) in omega (arith, starts, ends, longer)),
  omega (arith, ends),
)

-- it stays there as more is written
pub known_stays : (levels : ℕ) (before more after : List ℕ) (known : Known) → after ≡ before ++ more → IsKnown levels before known → IsKnown levels after known
known_stays levels before more after known is k = λ some.
    let (v, order, within) = k some in
    let longer = ap length is ∙ length-append before more in (
      record {
        value = v.value;
        numbers = v.numbers;
        nests = v.nests;
        stands = ap (drop known.start) is ∙ drop-append-le known.start before more (omega (arith, order, within)) ∙ ap (λ l. l ++ more) v.stands
            ∙ append_assoc (json_text v.value) (drop known.end before) more
            ∙ ap (λ l. json_text v.value ++ l) (sym (ap (drop known.end) is ∙ drop-append-le known.end before more within));
      },
      order,
      omega (arith, within, longer),
    )

-- what is noted: the value that was written, or what was known before its name
pub longer_known : (levels : ℕ) (w named after : List ℕ) (old new : Known) (start end : ℕ) → HasWrittenName w named → HasWrittenValue levels named after → start ≡ length named → end ≡ length after
    → (new ≡ old) ⊎ ((new.start ≡ start) × (new.end ≡ end)) → IsKnown levels w old → IsKnown levels after new
longer_known levels w named after old new start end n v starts ends (inl same) k =
    known_stays levels named (json_text v.value) after new v.written (known_stays levels w (quoted n.name ++ 58 ∷ []) named new n.written (subst (λ it. IsKnown levels w it) (sym same) k))
longer_known levels w named after old new start end n v starts ends (inr is) k = known_value levels named after new v (is.0 ∙ starts) (is.1 ∙ ends)

-- ---- words

both : {X : Type 0} (P Q : X → Type 0) (r : Option X) → IfSome r P → IfSome r Q → IfSome r (λ x. P x × Q x)
both P Q None p q = p
both P Q (Some x) p q = (p, q)

pub word_bounds : (text : List ℕ) (from size : ℕ) (found : Option ℕ) → IfSome found (λ end. end ≡ from + size) → IfSome found (λ end. end ≤ length text)
    → IfSome found (λ end. (from ≤ end) × (end ≤ length text))
word_bounds text from size found is within = some_weaker found (λ end it. (omega (arith, it), it.1)) (both (λ end. end ≡ from + size) (λ end. end ≤ length text) found is within)

pub number_bounds : (text : List ℕ) (from : ℕ) (found : Option ℕ) → IfSome found (λ end. (from < end) × (end ≤ length text)) → IfSome found (λ end. (from ≤ end) × (end ≤ length text))
number_bounds text from found bounds = some_weaker found (λ end it. (omega (arith, it), it.1)) bounds

pub word_written : (levels : ℕ) (text out : List ℕ) (kept from : ℕ) (found : Option ℕ) (r : Option (ℕ × ℕ)) → kept ≤ from → IfSome found (λ end. HasValue levels text from end)
    → IfSome found (λ end. (from ≤ end) × (end ≤ length text)) → IfSome r (λ e. found ≡ Some e.0) → IfSome r (λ e. e.1 ≡ kept)
    → IfSome r (λ e. HasWrittenValue levels (With out text kept from) (With out text e.1 e.0))
word_written levels text out kept from found None below value bounds is same = is
word_written levels text out kept from found (Some (end, left)) below value bounds is same =
    let v : HasValue levels text from end = subst (λ (o : Option ℕ). IfSome o (λ it. HasValue levels text from it)) is value in
    let b : (from ≤ end) × (end ≤ length text) = subst (λ (o : Option ℕ). IfSome o (λ it. (from ≤ it) × (it ≤ length text))) is bounds in
    subst (λ k. HasWrittenValue levels (With out text kept from) (With out text k end)) (sym same) (value_written levels text out kept from end below b.0 b.1 v)

pub word_read : (text out : List ℕ) (kept from : ℕ) (found : Option ℕ) (r : Option (ℕ × ℕ)) → kept ≤ from → IfSome found (λ end. HasWord text from end)
    → IfSome found (λ end. (from ≤ end) × (end ≤ length text)) → IfSome r (λ e. found ≡ Some e.0) → IfSome r (λ e. e.1 ≡ kept) → IfSome r (λ e. ends_word (drop e.0 text) ≡ true)
    → IfSome r (λ e. ReadsSame text (With out text kept from) from false → ReadsSame text (With out text e.1 e.0) e.0 true)
word_read text out kept from found None below word bounds is same ended = is
word_read text out kept from found (Some (end, left)) below word bounds is same ended =
    let h : HasWord text from end = subst (λ (o : Option ℕ). IfSome o (λ it. HasWord text from it)) is word in
    let b : (from ≤ end) × (end ≤ length text) = subst (λ (o : Option ℕ). IfSome o (λ it. (from ≤ it) × (it ≤ length text))) is bounds in
    λ before. subst (λ k. ReadsSame text (With out text k end) end true) (sym same) (past_word text out kept from end below b.0 b.1 before h ended)

-- what holds of a pair that was found holds of it with what follows
pub found_weaker : {E : Type 0} {P Q : ℕ × ℕ → Type 0} (r : Result (Option (ℕ × ℕ)) E) → ((e : ℕ × ℕ) → P e → Q e) → IfOk r (λ o. IfSome o P) → IfOk r (λ o. IfSome o Q)
found_weaker (Ok o) f h = some_weaker o f h
found_weaker (Err e) f h = h

-- ---- whole texts

pub itself_is : (levels : ℕ) (out : List ℕ) → IsUtf8 out → HasWrittenValue levels [] out → compact_text levels out ≡ Some out
itself_is levels out utf8 v =
    let is : out ≡ json_text v.value = v.written in
    ap (compact_text levels) is ∙ compact_text-json_text levels v.value v.numbers v.nests (sym (ap is_utf8 is) ∙ is_utf8-from_IsUtf8 out utf8) ∙ ap Some (sym is)

-- a text that is read as what was written
pub compact_is : (levels : ℕ) (text out : List ℕ) → IsUtf8 text → IsUtf8 out → tokens out ≡ tokens text → HasWrittenValue levels [] out → compact_text levels text ≡ Some out
compact_is levels text out utf8 out_utf8 same v =
    ap (option_map json_text) (value_of-same levels text out utf8 out_utf8 same) ∙ itself_is levels out out_utf8 v
