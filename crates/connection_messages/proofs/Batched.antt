-- A batch is read as its entries, in their order.
use Rattle.std.proofs.Common.{◌≡◌, ℕ, suc, ◌+◌, ◌<◌, ◌≤◌, ◌^◌, List, [], ◌∷◌, ◌++◌, length, IsUtf8, true, false, refl, sym, ap, ◌∙◌, subst, arith, append_assoc, if◌then◌else◌}
use Rattle.std.specs.Prelude.{codes, ⊤}
use Rattle.std.specs.List.{join_with_byte}
use Rattle.std.proofs.lemmas.Str.{IsUtf8-append}
use Rattle.json.specs.Json.{Json, null, boolean, number, string, array, object, Items, no_items, item}
use Rattle.json.specs.Print.{print, print_from}
use Rattle.json.specs.Token.{Token}
use Rattle.json.specs.Token as token
use Rattle.json.specs.Tree.{json_tokens, items_tokens, items_depth, ItemsHaveNumbers}
use Rattle.json.proofs.Printed.Utf8.{IsUtf8-are_ascii}
use Rattle.json_texts.specs.Texts.{json_text}
use Rattle.json_texts.proofs.Placed.{print-behind}
use Rattle.connection_messages.specs.ReadBack.{AreSayable, calls_as_read}
use Rattle.connection_messages.specs.Reading.{entry_of, entries_of, are_too_many, batch_within, unit_of}
use Rattle.connection_messages.specs.Texts.{batch_text, call_text, call_texts, calls_text}
use Rattle.connection_messages.specs.declared.entry.Entry.{Entry}
use Rattle.connection_messages.specs.declared.entry.Entry.TheVariants.{Invalid}
use Rattle.connection_messages.specs.declared.outgoing.Outgoing.{Outgoing}
use Rattle.connection_messages.specs.declared.unit.Unit.TheVariants.{Single, Batch}
use Rattle.connection_messages.specs.declared.rules.Rules.{Rules}
use Rattle.connection_messages.proofs.SaidBack.{params_of, call_value, call_value_text, call_whole, call_entry_read, unit_is}
use Rattle.connection_messages.proofs.Whole.{IsWhole}

-- the rest of an array behind an element
abbrev rest_text : Items → List ℕ
rest_text js = print_from true (items_tokens js)

open_array : (ts : List Token) → print_from false (token.begin_array ∷ ts) ≡ 91 ∷ print_from false ts
unfolding print_from
open_array ts = refl

comma_first : (j : Json) (ts : List Token) → print_from true (json_tokens j ++ ts) ≡ 44 ∷ print (json_tokens j ++ ts)
unfolding print_from
comma_first null ts = refl
comma_first (boolean b) ts = refl
comma_first (number s) ts = refl
comma_first (string s) ts = refl
comma_first (array js) ts = refl
comma_first (object ms) ts = refl

rest_end : rest_text no_items ≡ 93 ∷ []
unfolding print_from
rest_end = refl

rest_item : (j : Json) (js : Items) → rest_text (item j js) ≡ 44 ∷ (json_text j ++ rest_text js)
rest_item j js = comma_first j (items_tokens js) ∙ ap (λ s. 44 ∷ s) (print-behind j (items_tokens js))

array_text : (j : Json) (js : Items) → json_text (array (item j js)) ≡ 91 ∷ (json_text j ++ rest_text js)
unfolding json_text
array_text j js = open_array (items_tokens (item j js)) ∙ ap (λ s. 91 ∷ s) (print-behind j (items_tokens js))

-- the values of these texts, in their order, each of at most so many levels, and what they are read as
abbrev pub AreOf : Rules → ℕ → List (List ℕ) → Items → List Entry → Type 0
AreOf rules levels [] no_items [] = ⊤
AreOf rules levels [] no_items (e ∷ es) = ⊥
AreOf rules levels [] (item j js) es = ⊥
AreOf rules levels (t ∷ ts) no_items es = ⊥
AreOf rules levels (t ∷ ts) (item j js) [] = ⊥
AreOf rules levels (t ∷ ts) (item j js) (e ∷ es) = (json_text j ≡ t) × IsWhole levels j × (entry_of rules j ≡ e) × AreOf rules levels ts js es

joined : (rules : Rules) (levels : ℕ) (t : List ℕ) (ts : List (List ℕ)) (j : Json) (js : Items) (e : Entry) (es : List Entry) → AreOf rules levels (t ∷ ts) (item j js) (e ∷ es)
    → json_text j ++ rest_text js ≡ join_with_byte 44 (t ∷ ts) ++ codes "]"
joined rules levels t [] j no_items e [] are = ap (λ s. json_text j ++ s) rest_end ∙ ap (λ s. s ++ codes "]") are.0
joined rules levels t [] j no_items e (f ∷ es) are = absurd are.3
joined rules levels t [] j (item k ks) e es are = absurd are.3
joined rules levels t (u ∷ us) j no_items e es are = absurd are.3
joined rules levels t (u ∷ us) j (item k ks) e [] are = absurd are.3
joined rules levels t (u ∷ us) j (item k ks) e (f ∷ es) are =
    ap (λ s. json_text j ++ s) (rest_item k ks ∙ ap (λ s. 44 ∷ s) (joined rules levels u us k ks f es are.3)) ∙ ap (λ s. s ++ 44 ∷ (join_with_byte 44 (u ∷ us) ++ codes "]")) are.0
    ∙ sym (append_assoc t (44 ∷ join_with_byte 44 (u ∷ us)) (codes "]"))

record ItemsWhole (levels : ℕ) (js : Items) : Type 0 where
  numbers : ItemsHaveNumbers js
  nests : items_depth js ≤ levels
  utf8 : IsUtf8 (rest_text js)

items_whole : (rules : Rules) (levels : ℕ) (ts : List (List ℕ)) (js : Items) (es : List Entry) → AreOf rules levels ts js es → ItemsWhole levels js
items_whole rules levels [] no_items es are = record { numbers = tt; nests = omega arith; utf8 = subst IsUtf8 (sym rest_end) (IsUtf8-are_ascii (93 ∷ []) refl) }
items_whole rules levels [] (item j js) es are = absurd are
items_whole rules levels (t ∷ ts) no_items es are = absurd are
items_whole rules levels (t ∷ ts) (item j js) [] are = absurd are
items_whole rules levels (t ∷ ts) (item j js) (e ∷ es) are =
    let others = items_whole rules levels ts js es are.3 in
    let whole = are.1 in
    let nests = whole.nests in
    let others_nest = others.nests in
    record {
      numbers = (whole.numbers, others.numbers);
      nests = omega (arith, nests, others_nest);
      utf8 = subst IsUtf8 (sym (rest_item j js))
          (IsUtf8-append (44 ∷ []) (json_text j ++ rest_text js) (IsUtf8-are_ascii (44 ∷ []) refl) (IsUtf8-append (json_text j) (rest_text js) whole.utf8 others.utf8));
    }

array_whole : (rules : Rules) (levels : ℕ) (t : List ℕ) (ts : List (List ℕ)) (j : Json) (js : Items) (e : Entry) (es : List Entry) → AreOf rules levels (t ∷ ts) (item j js) (e ∷ es)
    → IsWhole (suc levels) (array (item j js))
array_whole rules levels t ts j js e es are =
    let all = items_whole rules levels (t ∷ ts) (item j js) (e ∷ es) are in
    let others = items_whole rules levels ts js es are.3 in
    let whole = are.1 in
    let nests = all.nests in
    record {
      numbers = all.numbers;
      nests = omega (arith, nests);
      utf8 = subst IsUtf8 (sym (array_text j js))
          (IsUtf8-append (91 ∷ []) (json_text j ++ rest_text js) (IsUtf8-are_ascii (91 ∷ []) refl) (IsUtf8-append (json_text j) (rest_text js) whole.utf8 others.utf8));
    }

entries_are : (rules : Rules) (levels : ℕ) (ts : List (List ℕ)) (js : Items) (es : List Entry) → AreOf rules levels ts js es → entries_of rules js ≡ es
entries_are rules levels [] no_items [] are = refl
entries_are rules levels [] no_items (e ∷ es) are = absurd are
entries_are rules levels [] (item j js) es are = absurd are
entries_are rules levels (t ∷ ts) no_items es are = absurd are
entries_are rules levels (t ∷ ts) (item j js) [] are = absurd are
entries_are rules levels (t ∷ ts) (item j js) (e ∷ es) are = ap (λ x. x ∷ entries_of rules js) are.2 ∙ ap (λ xs. e ∷ xs) (entries_are rules levels ts js es are.3)

pub batch_read : (rules : Rules) (levels : ℕ) (t : List ℕ) (ts : List (List ℕ)) (j : Json) (js : Items) (e : Entry) (es : List Entry) → levels ≤ 126 →
    are_too_many rules.most_entries (length (e ∷ es)) ≡ false → AreOf rules levels (t ∷ ts) (item j js) (e ∷ es) → unit_of rules false (batch_text (t ∷ ts)) ≡ Batch (e ∷ es)
batch_read rules levels t ts j js e es few kept are =
    unit_is rules (suc levels) (array (item j js)) (batch_text (t ∷ ts)) (array_text j js ∙ ap (λ s. 91 ∷ s) (joined rules levels t ts j js e es are)) (array_whole rules levels t ts j js e es are)
    (omega (arith, few))
    ∙ ap (batch_within rules.most_entries) (entries_are rules levels (t ∷ ts) (item j js) (e ∷ es) are) ∙ ap (λ b. if b then Single Invalid else Batch (e ∷ es)) kept

-- ---- calls

pub record AreRead (rules : Rules) (levels : ℕ) (ts : List (List ℕ)) (es : List Entry) : Type 0 where
  pub items : Items
  pub are : AreOf rules levels ts items es

calls_are : (rules : Rules) (k : ℕ) (os : List Outgoing) → k + length os ≤ 2 ^ 64 → AreSayable os → AreRead rules 121 (call_texts k os) (calls_as_read k os)
calls_are rules k [] fits are = record { items = no_items; are = tt }
calls_are rules k (o ∷ os) fits are =
    let few : k < 2 ^ 64 = (let f : k + suc (length os) ≤ 2 ^ 64 = fits in omega (arith, f)) in
    let others = calls_are rules (k + 1) os (let f : k + suc (length os) ≤ 2 ^ 64 = fits in omega (arith, f)) are.1 in
    let h = params_of o.params are.0.params in
    record {
      items = item (call_value k o.method h.value) others.items;
      are = (call_value_text k o h.value h.is, call_whole k o h few are.0.method, call_entry_read rules k o h few, others.are);
    }

pub read_of : (rules : Rules) (levels : ℕ) (t : List ℕ) (ts : List (List ℕ)) (e : Entry) (es : List Entry) → levels ≤ 126 → are_too_many rules.most_entries (length (e ∷ es)) ≡ false → AreRead rules levels (t ∷ ts) (e ∷ es)
    → unit_of rules false (batch_text (t ∷ ts)) ≡ Batch (e ∷ es)
read_of rules levels t ts e es few kept it = by_items it.items it.are
  where
    by_items : (js : Items) → AreOf rules levels (t ∷ ts) js (e ∷ es) → unit_of rules false (batch_text (t ∷ ts)) ≡ Batch (e ∷ es)
    by_items no_items are = absurd are
    by_items (item j js) are = batch_read rules levels t ts j js e es few kept are

length-calls : (k : ℕ) (os : List Outgoing) → length (calls_as_read k os) ≡ length os
length-calls k [] = refl
length-calls k (o ∷ os) = ap suc (length-calls (k + 1) os)

pub calls_read : (rules : Rules) (k : ℕ) (o : Outgoing) (os : List Outgoing) → k + length (o ∷ os) ≤ 2 ^ 64 → are_too_many rules.most_entries (length (o ∷ os)) ≡ false → AreSayable (o ∷ os)
    → unit_of rules false (calls_text k (o ∷ os)) ≡ Batch (calls_as_read k (o ∷ os))
calls_read rules k o os fits kept are =
    read_of rules 121 (call_text k o) (call_texts (k + 1) os) _ (calls_as_read (k + 1) os) (omega arith) (ap (are_too_many rules.most_entries) (length-calls k (o ∷ os)) ∙ kept) (calls_are rules k (o ∷ os) fits are)
