-- Values, one part behind another, and the data that they are read as.
use Rattle.std.proofs.Common.{◌≡◌, ℕ, suc, ◌+◌, ◌-◌, ◌*◌, ◌/◌, ◌%◌, ◌<◌, ◌≤◌, ◌^◌, List, [], ◌∷◌, ◌++◌, length, take, drop, cond, map, get_or, decimal, true, false, Some, refl, sym, ap, ap₂, ◌∙◌, subst, arith, append_assoc, append-nil, get_or-drop, negsuc, String, Global, string_bytes, string_cmp}
use Rattle.std.proofs.Math.Nat.{pow-suc, pow-le-pow_right}
use Rattle.std.proofs.lemmas.Fmt.{decimal_digit, decimal_step}
use Rattle.std.proofs.lemmas.List.{map-append}
use Rattle.std.specs.BTreeMap.{insert_entry}
use Rattle.std.specs.Fmt.{signed_decimal}
use Rattle.std.specs.Prelude.{option_map}
use Rattle.json.specs.Json as json
use Rattle.json.specs.Lex.{Lexeme, token, comma, colon, lex, between}
use Rattle.json.specs.Print.{print_from, IsNumber}
use Rattle.json.specs.Token as tokens
use Rattle.json.specs.Word.{word}
use Rattle.json.specs.Tree.{items_depth, members_depth, HasNumbers}
use Rattle.json.proofs.Printed.Decimals.{IsNumber-decimal, IsNumber-signed_decimal}
use Rattle.json.proofs.Printed.Numbers.{lex-number, in_word-ended}
use Rattle.json_texts.specs.Standing.{Stands, HasValue}
use Rattle.json_texts.specs.Texts.{json_text}
use Rattle.json_texts.proofs.Placed.{byte_within, byte_stands, stands_byte, part_is}
use Rattle.serde_json.specs.Data.{Num, Data, null, boolean, number, string, array, object, unsigned, negative, Items, no_items, item, Members, no_members, put}
use Rattle.serde_json.specs.Read.{of_json, of_items, of_members, number_of}
use Rattle.serde_json.specs.View.{view, items_of, members_view}
use Rattle.serde_json.specs.declared.value.Value.{Value}
use Rattle.serde_json.proofs.Views.{Entry, members_view-insert_entry}
use Rattle.serde_json.proofs.Numbers.{number_of-decimal, number_of-negative}
use Rattle.value_reading.specs.Lexed.{Lexed, EndsWord, HasBlanks, IsRead, ItemsAreRead, MembersAreRead, value_lexemes, items_lexemes, members_lexemes}
use Rattle.value_reading.proofs.Elements.{elements_before, push}

-- ---- parts

-- one part of the text behind another
behind : (text : List ℕ) (a b : List Lexeme) (from mid end : ℕ) → Lexed text from a mid → Lexed text mid b end → Lexed text from (a ++ b) end
behind text a b from mid end first second = first ∙ ap (λ l. a ++ l) second ∙ sym (append_assoc a b (lex between (drop end text)))

-- ---- scalars

pub string_read : (levels : ℕ) (text s : List ℕ) (from end : ℕ) → Lexed text from (token (tokens.string s) ∷ []) end → IsRead levels text from end (string s)
string_read levels text s from end lexed = record { value = json.string s; nests = omega arith; lexed = λ ends. lexed; is = refl }

number_stands : (levels : ℕ) (text s : List ℕ) (from end : ℕ) (d : Data) → IsNumber s → of_json (json.number s) ≡ Some d → Stands text from s end → IsRead levels text from end d
number_stands levels text s from end d is read stands = record {
  value = json.number s;
  nests = omega arith;
  lexed = λ ends. ap (lex between) stands ∙ lex-number s (drop end text) is ends;
  is = read;
}

pub whole_read : (levels : ℕ) (text : List ℕ) (from end n : ℕ) → n < 2 ^ 63 → Stands text from (decimal n) end → IsRead levels text from end (number (unsigned n))
whole_read levels text from end n small stands =
    number_stands levels text (decimal n) from end (number (unsigned n)) (IsNumber-decimal n (omega arith)) (ap (option_map number) (number_of-decimal n (omega arith))) stands

-- a minus, and a number from 1 on
pub negative_read : (levels : ℕ) (text : List ℕ) (from end n : ℕ) → n < 2 ^ 63 → get_or text from 0 ≡ 45 → Stands text (from + 1) (decimal (suc n)) end → IsRead levels text from end (number (negative (negsuc n)))
negative_read levels text from end n small minus stands =
    number_stands levels text (signed_decimal (negsuc n)) from end (number (negative (negsuc n))) (IsNumber-signed_decimal (negsuc n) (omega arith)) (ap (option_map number) (number_of-negative n small))
    (byte_stands text from 44 minus ∙ ap (λ l. 45 ∷ l) stands)

pub true_read : (levels : ℕ) (text : List ℕ) (from end : ℕ) → Stands text from (116 ∷ 114 ∷ 117 ∷ 101 ∷ []) end → IsRead levels text from end (boolean true)
unfolding lex word
true_read levels text from end stands = record {
  value = json.boolean true;
  nests = omega arith;
  lexed = λ ends. ap (lex between) stands ∙ ap₂ (λ b l. token (cond b (tokens.boolean true) tokens.bad) ∷ l) ends (in_word-ended (drop end text) ends);
  is = refl;
}

pub false_read : (levels : ℕ) (text : List ℕ) (from end : ℕ) → Stands text from (102 ∷ 97 ∷ 108 ∷ 115 ∷ 101 ∷ []) end → IsRead levels text from end (boolean false)
unfolding lex word
false_read levels text from end stands = record {
  value = json.boolean false;
  nests = omega arith;
  lexed = λ ends. ap (lex between) stands ∙ ap₂ (λ b l. token (cond b (tokens.boolean false) tokens.bad) ∷ l) ends (in_word-ended (drop end text) ends);
  is = refl;
}

pub null_read : (levels : ℕ) (text : List ℕ) (from end : ℕ) → Stands text from (110 ∷ 117 ∷ 108 ∷ 108 ∷ []) end → IsRead levels text from end null
unfolding lex word
null_read levels text from end stands = record {
  value = json.null;
  nests = omega arith;
  lexed = λ ends. ap (lex between) stands ∙ ap₂ (λ b l. token (cond b tokens.null tokens.bad) ∷ l) ends (in_word-ended (drop end text) ends);
  is = refl;
}

pub at_levels : (levels : ℕ) (text : List ℕ) (from end : ℕ) (d : Data) → IsRead 0 text from end d → IsRead levels text from end d
at_levels levels text from end d r = let nests = r.nests in record { value = r.value; nests = omega (arith, nests); lexed = r.lexed; is = r.is }

pub read_behind : (levels : ℕ) (text : List ℕ) (from at end : ℕ) (d : Data) → HasBlanks text from at → IsRead levels text at end d → IsRead levels text from end d
read_behind levels text from at end d blanks r = record { value = r.value; nests = r.nests; lexed = λ ends. blanks.lexed ∙ r.lexed ends; is = r.is }

-- ---- any number

-- its bytes, where what stands there begins with a digit or a minus
abbrev IsSome : List ℕ → ℕ → ℕ → Type 0
IsSome text from end = (s : List ℕ) × IsNumber s × Stands text from s end

first_byte : (text part : List ℕ) (from end c : ℕ) → Stands text from (c ∷ part) end → get_or text from 0 ≡ c
first_byte text part from end c stands = let same : from + 0 ≡ from = omega arith in sym (get_or-drop from text 0 0 ∙ ap (λ n. get_or text n 0) same) ∙ ap (λ l. get_or l 0 0) stands

some_number : (text : List ℕ) (from end : ℕ) (j : json.Json) → HasNumbers j → Stands text from (json_text j) end → 45 ≤ get_or text from 0 → get_or text from 0 < 58 → IsSome text from end
unfolding json_text print_from
some_number text from end json.null numbers stands above below = absurd (let is = first_byte text (117 ∷ 108 ∷ 108 ∷ []) from end 110 stands in omega (arith, is, below))
some_number text from end (json.boolean true) numbers stands above below = absurd (let is = first_byte text (114 ∷ 117 ∷ 101 ∷ []) from end 116 stands in omega (arith, is, below))
some_number text from end (json.boolean false) numbers stands above below = absurd (let is = first_byte text (97 ∷ 108 ∷ 115 ∷ 101 ∷ []) from end 102 stands in omega (arith, is, below))
some_number text from end (json.number s) numbers stands above below = (s, numbers, stands ∙ ap (λ l. l ++ drop end text) (append-nil s))
some_number text from end (json.string s) numbers stands above below = absurd (let is = first_byte text _ from end 34 stands in omega (arith, is, above))
some_number text from end (json.array js) numbers stands above below = absurd (let is = first_byte text _ from end 91 stands in omega (arith, is, below))
some_number text from end (json.object ms) numbers stands above below = absurd (let is = first_byte text _ from end 123 stands in omega (arith, is, below))

pub any_read : (text s : List ℕ) (from end : ℕ) (n : Num) (v : HasValue 0 text from end) → 45 ≤ get_or text from 0 → get_or text from 0 < 58 → from ≤ end → end ≤ length text
    → s ≡ take (end - from) (drop from text) → number_of s ≡ Some n → IsRead 0 text from end (number n)
any_read text s from end n v above below order within slice is =
    let found = some_number text from end v.value v.numbers v.stands above below in
    let same : s ≡ found.0 = slice ∙ part_is text found.0 from end found.2 order within in
    number_stands 0 text found.0 from end (number n) found.1 (ap (option_map number) (ap number_of (sym same) ∙ is)) found.2

-- ---- digits

-- a digit behind a number from 1 on
pub digit_stands : (text : List ℕ) (from at n d : ℕ) → Stands text from (decimal n) at → 0 < n → d ≤ 9 → get_or text at 0 ≡ 48 + d → n * 10 + d < 2 ^ 64 → Stands text from (decimal (n * 10 + d)) (at + 1)
digit_stands text from at n d stands some small is fits =
    let front : (n * 10 + d) / 10 ≡ n = omega arith in
    let last : (n * 10 + d) % 10 ≡ d = omega arith in
    let written : decimal (n * 10 + d) ≡ decimal n ++ (48 + d) ∷ [] =
    decimal_step (n * 10 + d) (omega arith) fits ∙ (λ i. decimal (front i) ++ (48 + last i) ∷ []) in
    stands_byte text (decimal n) from at (47 + d) stands (is ∙ omega arith) ∙ ap (λ l. l ++ drop (at + 1) text) (ap (λ x. decimal n ++ x ∷ []) (omega arith) ∙ sym written)

pub one_digit_stands : (text : List ℕ) (at d : ℕ) → d ≤ 9 → get_or text at 0 ≡ 48 + d → Stands text at (decimal d) (at + 1)
one_digit_stands text at d small is =
    byte_stands text at (47 + d) (is ∙ omega arith) ∙ ap (λ x. x ∷ drop (at + 1) text) (omega arith) ∙ ap (λ l. l ++ drop (at + 1) text) (sym (decimal_digit d (omega arith)))

pub digit_within : (text : List ℕ) (at d : ℕ) → get_or text at 0 ≡ 48 + d → at + 1 ≤ length text
digit_within text at d is = let within = byte_within text at (47 + d) (is ∙ omega arith) in omega (arith, within)

-- a number of so many digits, and one more
pub digit_below : (k n d : ℕ) → n < 10 ^ k → d ≤ 9 → n * 10 + d < 10 ^ suc k
digit_below k n d below small = let next : 10 ^ suc k ≡ 10 ^ k * 10 = pow-suc 10 k in omega (arith, next, below, small)

pub digits_fit : (k n : ℕ) → k ≤ 18 → n < 10 ^ k → n < 2 ^ 63
digits_fit k n few below = let most = pow-le-pow_right {n = 10} (omega arith) few in omega (arith, below, most)

-- ---- items

-- these items, and the bracket
abbrev pub ItemsStand : ℕ → List ℕ → ℕ → json.Items → ℕ → Type 0
ItemsStand levels text at js end = (items_depth js ≤ levels) × Lexed text at (items_lexemes js) end

last_item : (levels : ℕ) (text : List ℕ) (at end stop : ℕ) (d : Data) (r : IsRead levels text at end d) → EndsWord text end → Lexed text end (token tokens.end_array ∷ []) stop
    → ItemsStand levels text at (json.item r.value json.no_items) stop
last_item levels text at end stop d r ends bracket =
    let nests = r.nests in
    (omega (arith, nests), behind text (value_lexemes r.value) (token tokens.end_array ∷ []) at end stop (r.lexed ends) bracket)

one_more_item : (levels : ℕ) (text : List ℕ) (at mid next end : ℕ) (d : Data) (r : IsRead levels text at mid d) → EndsWord text mid → Lexed text mid (comma ∷ []) next → (j : json.Json) (js : json.Items)
    → ItemsStand levels text next (json.item j js) end → ItemsStand levels text at (json.item r.value (json.item j js)) end
one_more_item levels text at mid next end d r ends between_them j js more =
    let nests = r.nests in
    let deeper : items_depth (json.item j js) ≤ levels = more.0 in
    let rest = items_lexemes (json.item j js) in (
      omega (arith, nests, deeper),
      behind text (value_lexemes r.value) (comma ∷ rest) at mid end (r.lexed ends) (behind text (comma ∷ []) rest mid next end between_them more.1),
    )

-- what was read is of the items before this place
abbrev pub ItemsBehind : ℕ → List ℕ → ℕ → ℕ → List Data → Type 0
ItemsBehind levels text from at ds =
    (end : ℕ) (j : json.Json) (js : json.Items) (rest : Items) → ItemsStand levels text at (json.item j js) end → of_items (json.item j js) ≡ Some rest
    → ItemsAreRead levels text from end (elements_before ds rest)

pub no_items_behind : (levels : ℕ) (text : List ℕ) (from at : ℕ) → HasBlanks text from at → ItemsBehind levels text from at []
no_items_behind levels text from at blanks end j js rest stand is = record { items = json.item j js; nests = stand.0; lexed = blanks.lexed ∙ stand.1; is = is }

item_first : (j : json.Json) (d : Data) (js : json.Items) (ds : Items) → of_json j ≡ Some d → of_items js ≡ Some ds → of_items (json.item j js) ≡ Some (item d ds)
item_first j d js ds one others = rw (one, others)

pub item_behind : (levels : ℕ) (text : List ℕ) (from at stop next : ℕ) (ds : List Data) (d : Data) → IsRead levels text at stop d → EndsWord text stop → Lexed text stop (comma ∷ []) next
    → ItemsBehind levels text from at ds → ItemsBehind levels text from next (ds ++ d ∷ [])
item_behind levels text from at stop next ds d r ends between_them before end j js rest stand is =
    subst (λ all. ItemsAreRead levels text from end all) (push ds d rest)
    (before end r.value (json.item j js) (item d rest) (one_more_item levels text at stop next end d r ends between_them j js stand) (item_first r.value d (json.item j js) rest r.is is))

pub items_over : (levels : ℕ) (text : List ℕ) (from at stop end : ℕ) (ds : List Data) (d : Data) → IsRead levels text at stop d → EndsWord text stop → Lexed text stop (token tokens.end_array ∷ []) end
    → ItemsBehind levels text from at ds → ItemsAreRead levels text from end (elements_before (ds ++ d ∷ []) no_items)
items_over levels text from at stop end ds d r ends bracket before =
    subst (λ all. ItemsAreRead levels text from end all) (push ds d no_items)
    (before end r.value json.no_items (item d no_items) (last_item levels text at stop end d r ends bracket) (item_first r.value d json.no_items no_items r.is refl))

pub no_items_read : (levels : ℕ) (text : List ℕ) (from end : ℕ) → Lexed text from (token tokens.end_array ∷ []) end → ItemsAreRead levels text from end no_items
no_items_read levels text from end lexed = record { items = json.no_items; nests = omega arith; lexed = lexed; is = refl }

-- what a list holds, as items
pub elements_of : (ds : List Data) → elements_before ds no_items ≡ items_of ds
elements_of [] = refl
elements_of (d ∷ ds) = ap (item d) (elements_of ds)

pub pushed_view : (vs : List Value) (v : Value) (new : List Value) → new ≡ vs ++ v ∷ [] → map view vs ++ view v ∷ [] ≡ map view new
pushed_view vs v new pushed = sym (map-append view vs (v ∷ [])) ∙ ap (map view) (sym pushed)

pub array_read : (levels : ℕ) (text : List ℕ) (from at end : ℕ) (ds : Items) → 0 < levels → Lexed text from (token tokens.begin_array ∷ []) at → ItemsAreRead (levels - 1) text at end ds
    → IsRead levels text from end (array ds)
array_read levels text from at end ds some bracket r =
    let nests = r.nests in
    record {
      value = json.array r.items;
      nests = omega (arith, some, nests);
      lexed = λ ends. behind text (token tokens.begin_array ∷ []) (items_lexemes r.items) from at end bracket r.lexed;
      is = ap (option_map array) r.is;
    }

-- ---- members

-- these members, and the brace
abbrev pub MembersStand : ℕ → List ℕ → ℕ → json.Members → ℕ → Type 0
MembersStand levels text at ms end = (members_depth ms ≤ levels) × Lexed text at (members_lexemes ms) end

-- a name, with its colon
abbrev Name : List ℕ → List Lexeme
Name k = token (tokens.string k) ∷ colon ∷ []

last_member : (levels : ℕ) (text k : List ℕ) (at mid stop end : ℕ) (d : Data) → Lexed text at (Name k) mid → (r : IsRead levels text mid stop d) → EndsWord text stop
    → Lexed text stop (token tokens.end_object ∷ []) end → MembersStand levels text at (json.member k r.value json.no_members) end
last_member levels text k at mid stop end d name r ends brace =
    let nests = r.nests in
    let rest = token tokens.end_object ∷ [] in
    (omega (arith, nests), behind text (Name k) (value_lexemes r.value ++ rest) at mid end name (behind text (value_lexemes r.value) rest mid stop end (r.lexed ends) brace))

one_more_member : (levels : ℕ) (text k : List ℕ) (at mid stop next end : ℕ) (d : Data) → Lexed text at (Name k) mid → (r : IsRead levels text mid stop d) → EndsWord text stop → Lexed text stop (comma ∷ []) next
    → (l : List ℕ) (j : json.Json) (ms : json.Members) → MembersStand levels text next (json.member l j ms) end → MembersStand levels text at (json.member k r.value (json.member l j ms)) end
one_more_member levels text k at mid stop next end d name r ends between_them l j ms more =
    let nests = r.nests in
    let deeper : members_depth (json.member l j ms) ≤ levels = more.0 in
    let rest = members_lexemes (json.member l j ms) in (
      omega (arith, nests, deeper),
      behind text (Name k) (value_lexemes r.value ++ comma ∷ rest) at mid end name
          (behind text (value_lexemes r.value) (comma ∷ rest) mid stop end (r.lexed ends) (behind text (comma ∷ []) rest stop next end between_them more.1)),
    )

-- what was found is of the members before this place
abbrev pub MembersBehind : ℕ → List ℕ → ℕ → ℕ → Members → Type 0
MembersBehind levels text from at found =
    (end : ℕ) (k : List ℕ) (j : json.Json) (js : json.Members) (ms : Members) → MembersStand levels text at (json.member k j js) end → of_members (json.member k j js) found ≡ Some ms
    → MembersAreRead levels text from end ms

pub no_members_behind : (levels : ℕ) (text : List ℕ) (from at : ℕ) → HasBlanks text from at → MembersBehind levels text from at no_members
no_members_behind levels text from at blanks end k j js ms stand is = record { members = json.member k j js; nests = stand.0; lexed = blanks.lexed ∙ stand.1; is = is }

member_first : (k : List ℕ) (j : json.Json) (d : Data) (js : json.Members) (found ms : Members) → of_json j ≡ Some d → of_members js (put k d found) ≡ Some ms → of_members (json.member k j js) found ≡ Some ms
member_first k j d js found ms one others = rw one others

pub member_behind : (levels : ℕ) (text k : List ℕ) (from at mid stop next : ℕ) (d : Data) (found : Members) → Lexed text at (Name k) mid → IsRead levels text mid stop d → EndsWord text stop
    → Lexed text stop (comma ∷ []) next → MembersBehind levels text from at found → MembersBehind levels text from next (put k d found)
member_behind levels text k from at mid stop next d found name r ends between_them before end l j js ms stand is =
    before end k r.value (json.member l j js) ms (one_more_member levels text k at mid stop next end d name r ends between_them l j js stand)
    (member_first k r.value d (json.member l j js) found ms r.is is)

pub members_over : (levels : ℕ) (text k : List ℕ) (from at mid stop end : ℕ) (d : Data) (found : Members) → Lexed text at (Name k) mid → IsRead levels text mid stop d → EndsWord text stop
    → Lexed text stop (token tokens.end_object ∷ []) end → MembersBehind levels text from at found → MembersAreRead levels text from end (put k d found)
members_over levels text k from at mid stop end d found name r ends brace before =
    before end k r.value json.no_members (put k d found) (last_member levels text k at mid stop end d name r ends brace)
    (member_first k r.value d json.no_members found (put k d found) r.is refl)

pub no_members_read : (levels : ℕ) (text : List ℕ) (from end : ℕ) → Lexed text from (token tokens.end_object ∷ []) end → MembersAreRead levels text from end no_members
no_members_read levels text from end lexed = record { members = json.no_members; nests = omega arith; lexed = lexed; is = refl }

pub inserted_view : (es : List Entry) (k : List ℕ) (key : String Global) (v : Value) (new : List Entry) → string_bytes key ≡ k → new ≡ insert_entry string_cmp es key v
    → put k (view v) (members_view es) ≡ members_view new
inserted_view es k key v new copied inserted =
    ap (λ name. put name (view v) (members_view es)) (sym copied) ∙ sym (ap members_view inserted ∙ members_view-insert_entry es key v)

pub object_read : (levels : ℕ) (text : List ℕ) (from at end : ℕ) (ms : Members) → 0 < levels → Lexed text from (token tokens.begin_object ∷ []) at → MembersAreRead (levels - 1) text at end ms
    → IsRead levels text from end (object ms)
object_read levels text from at end ms some brace r =
    let nests = r.nests in
    record {
      value = json.object r.members;
      nests = omega (arith, some, nests);
      lexed = λ ends. behind text (token tokens.begin_object ∷ []) (members_lexemes r.members) from at end brace r.lexed;
      is = ap (option_map object) r.is;
    }
