-- Batches that a connection writes.
use Rattle.std.proofs.Common.{◌≡◌, ℕ, suc, ◌+◌, ◌<◌, ◌≤◌, ◌^◌, List, [], ◌∷◌, ◌++◌, map, length, IsUtf8, true, false, refl, sym, ap, ◌∙◌, subst, arith, append_assoc, if◌then◌else◌}
use Rattle.std.specs.Prelude.{codes, ⊤}
use Rattle.std.specs.List.{join_with_byte}
use Rattle.std.specs.Str.{is_utf8}
use Rattle.std.proofs.lemmas.Str.{IsUtf8-append, is_utf8-from_IsUtf8}
use Rattle.json.specs.Json.{Json, null, boolean, number, string, array, object, Items, no_items, item}
use Rattle.json.specs.Print.{print, print_from}
use Rattle.json.specs.Token.{Token}
use Rattle.json.specs.Token as token
use Rattle.json.specs.Tree.{json_tokens, items_tokens, items_depth, ItemsHaveNumbers}
use Rattle.json.proofs.Printed.Utf8.{IsUtf8-are_ascii}
use Rattle.json_texts.specs.Texts.{json_text, value_of}
use Rattle.json_texts.proofs.Placed.{print-behind}
use Rattle.connection_messages.specs.ReadBack.{AreSayable, AreAnswers, answer_texts}
use Rattle.connection_messages.specs.Texts.{batch_text, call_text, call_texts, calls_text, answer_text}
use Rattle.connection_messages.specs.declared.answer.Answer.{Answer as Said}
use Rattle.connection_messages.specs.declared.outgoing.Outgoing.{Outgoing}
use Rattle.connection_messages.proofs.SaidBack.{params_of, call_value, call_value_text, call_whole}
use Rattle.connection_messages.proofs.Whole.{IsWhole, read_back, whole_deeper}
use Rattle.conversation_reading.specs.Strictly.{entry_of, entries_of, json_reading, reading_of}
use Rattle.conversation_reading.specs.declared.entry.Kind.{Kind}
use Rattle.conversation_reading.specs.declared.entry.Kind.TheVariants.{Request, Answer}
use Rattle.conversation_reading.specs.declared.entry.WrittenId.{WrittenId}
use Rattle.conversation_reading.specs.declared.reading.Reading.TheVariants.{Array, NotText}
use Rattle.conversation_reading.specs.declared.reading.TheConstants.{MOST_DEPTH_IN}
use Rattle.message_ids.specs.declared.id.Id.{Id}
use Rattle.judge_laws.specs.Messages.{IsEntry, AreEntries, AreMessages, HaveKeys, AreKeyed, written_as, EachHasId, HaveIds}
use Rattle.judge_laws.proofs.Failures.{answer_value_of}
use Rattle.judge_laws.proofs.SaidStrictly.{call_is, call_has_key, fit_by}

-- ---- the text of an array

abbrev rest_text : Items → List ℕ
rest_text js = print_from true (items_tokens js)

array_begins : (ts : List Token) → print_from false (token.begin_array ∷ ts) ≡ 91 ∷ print_from false ts
unfolding print_from
array_begins ts = refl

comma_first : (j : Json) (ts : List Token) → print_from true (json_tokens j ++ ts) ≡ 44 ∷ print (json_tokens j ++ ts)
unfolding print_from
comma_first null ts = refl
comma_first (boolean b) ts = refl
comma_first (number s) ts = refl
comma_first (string s) ts = refl
comma_first (array js) ts = refl
comma_first (object ms) ts = refl

rest_end : rest_text no_items ≡ 93 ∷ []
unfolding print_from
rest_end = refl

rest_item : (j : Json) (js : Items) → rest_text (item j js) ≡ 44 ∷ (json_text j ++ rest_text js)
rest_item j js = comma_first j (items_tokens js) ∙ ap (λ s. 44 ∷ s) (print-behind j (items_tokens js))

array_text : (j : Json) (js : Items) → json_text (array (item j js)) ≡ 91 ∷ (json_text j ++ rest_text js)
unfolding json_text
array_text j js = array_begins (items_tokens (item j js)) ∙ ap (λ s. 91 ∷ s) (print-behind j (items_tokens js))

-- ---- values with these texts, each an entry of a kind

abbrev AreOf : Kind → List (List ℕ) → Items → Type 0
AreOf kind [] no_items = ⊤
AreOf kind [] (item j js) = ⊥
AreOf kind (t ∷ ts) no_items = ⊥
AreOf kind (t ∷ ts) (item j js) = (json_text j ≡ t) × IsWhole 122 j × IsEntry kind (entry_of j) × AreOf kind ts js

joined : (kind : Kind) (t : List ℕ) (ts : List (List ℕ)) (j : Json) (js : Items) → AreOf kind (t ∷ ts) (item j js) → json_text j ++ rest_text js ≡ join_with_byte 44 (t ∷ ts) ++ codes "]"
joined kind t [] j no_items are = ap (λ s. json_text j ++ s) rest_end ∙ ap (λ s. s ++ codes "]") are.0
joined kind t [] j (item k ks) are = absurd are.3
joined kind t (u ∷ us) j no_items are = absurd are.3
joined kind t (u ∷ us) j (item k ks) are =
    ap (λ s. json_text j ++ s) (rest_item k ks ∙ ap (λ s. 44 ∷ s) (joined kind u us k ks are.3)) ∙ ap (λ s. s ++ 44 ∷ (join_with_byte 44 (u ∷ us) ++ codes "]")) are.0
    ∙ sym (append_assoc t (44 ∷ join_with_byte 44 (u ∷ us)) (codes "]"))

record ItemsWhole (js : Items) : Type 0 where
  numbers : ItemsHaveNumbers js
  nests : items_depth js ≤ 122
  utf8 : IsUtf8 (rest_text js)

items_whole : (kind : Kind) (ts : List (List ℕ)) (js : Items) → AreOf kind ts js → ItemsWhole js
items_whole kind [] no_items are = record { numbers = tt; nests = omega arith; utf8 = subst IsUtf8 (sym rest_end) (IsUtf8-are_ascii (93 ∷ []) refl) }
items_whole kind [] (item j js) are = absurd are
items_whole kind (t ∷ ts) no_items are = absurd are
items_whole kind (t ∷ ts) (item j js) are =
    let others = items_whole kind ts js are.3 in
    let whole = are.1 in
    let nests = whole.nests in
    let others_nest = others.nests in
    record {
      numbers = (whole.numbers, others.numbers);
      nests = omega (arith, nests, others_nest);
      utf8 = subst IsUtf8 (sym (rest_item j js))
          (IsUtf8-append (44 ∷ []) (json_text j ++ rest_text js) (IsUtf8-are_ascii (44 ∷ []) refl) (IsUtf8-append (json_text j) (rest_text js) whole.utf8 others.utf8));
    }

array_whole : (kind : Kind) (t : List ℕ) (ts : List (List ℕ)) (j : Json) (js : Items) → AreOf kind (t ∷ ts) (item j js) → IsWhole 123 (array (item j js))
array_whole kind t ts j js are =
    let all = items_whole kind (t ∷ ts) (item j js) are in
    let others = items_whole kind ts js are.3 in
    let whole = are.1 in
    let nests = all.nests in
    record {
      numbers = all.numbers;
      nests = omega (arith, nests);
      utf8 = subst IsUtf8 (sym (array_text j js))
          (IsUtf8-append (91 ∷ []) (json_text j ++ rest_text js) (IsUtf8-are_ascii (91 ∷ []) refl) (IsUtf8-append (json_text j) (rest_text js) whole.utf8 others.utf8));
    }

entries_are : (kind : Kind) (ts : List (List ℕ)) (js : Items) → AreOf kind ts js → AreEntries kind (entries_of js)
entries_are kind [] no_items are = tt
entries_are kind [] (item j js) are = absurd are
entries_are kind (t ∷ ts) no_items are = absurd are
entries_are kind (t ∷ ts) (item j js) are = (are.2, entries_are kind ts js are.3)

-- ---- read strictly

array_reading : (js : Items) (text : List ℕ) → json_text (array js) ≡ text → IsWhole 123 (array js) → reading_of false text ≡ Array (entries_of js)
array_reading js text is whole =
    let j : Json = array js in
    ap (λ t. if is_utf8 t then json_reading t (value_of MOST_DEPTH_IN t) else NotText) (sym is)
    ∙ ap (λ b. if b then json_reading (json_text j) (value_of MOST_DEPTH_IN (json_text j)) else NotText) (is_utf8-from_IsUtf8 (json_text j) whole.utf8)
    ∙ ap (json_reading (json_text j)) (read_back MOST_DEPTH_IN j (whole_deeper 123 MOST_DEPTH_IN j (omega arith) whole))

batch_reading : (kind : Kind) (t : List ℕ) (ts : List (List ℕ)) (j : Json) (js : Items) → AreOf kind (t ∷ ts) (item j js) → reading_of false (batch_text (t ∷ ts)) ≡ Array (entries_of (item j js))
batch_reading kind t ts j js are = array_reading (item j js) (batch_text (t ∷ ts)) (array_text j js ∙ ap (λ s. 91 ∷ s) (joined kind t ts j js are)) (array_whole kind t ts j js are)

batch_by : (kind : Kind) (t : List ℕ) (ts : List (List ℕ)) (js : Items) → AreOf kind (t ∷ ts) js → AreMessages kind (reading_of false (batch_text (t ∷ ts)))
batch_by kind t ts no_items are = absurd are
batch_by kind t ts (item j js) are = subst (AreMessages kind) (sym (batch_reading kind t ts j js are)) (entries_are kind (t ∷ ts) (item j js) are)

named_by : (kind : Kind) (ids : List WrittenId) (t : List ℕ) (ts : List (List ℕ)) (js : Items) → AreOf kind (t ∷ ts) js → EachHasId ids (entries_of js) → HaveIds ids (reading_of false (batch_text (t ∷ ts)))
named_by kind ids t ts no_items are named = absurd are
named_by kind ids t ts (item j js) are named = subst (HaveIds ids) (sym (batch_reading kind t ts j js are)) named

keyed_by : (key count : ℕ) (t : List ℕ) (ts : List (List ℕ)) (js : Items) → AreOf Request (t ∷ ts) js → length (entries_of js) ≡ count → HaveKeys key (entries_of js) → AreKeyed key count (reading_of false (batch_text (t ∷ ts)))
keyed_by key count t ts no_items are size keys = absurd are
keyed_by key count t ts (item j js) are size keys = subst (AreKeyed key count) (sym (batch_reading Request t ts j js are)) (size, keys)

-- ---- calls, and answers

-- those of answers, with their ids
record HasAnswers (all : List (Id × Said)) : Type 0 where
  items : Items
  are : AreOf Answer (answer_texts all) items
  named : EachHasId (map (λ a. written_as a.0) all) (entries_of items)

-- those of calls, whose ids are their keys
record HasCalls (k count : ℕ) (ts : List (List ℕ)) : Type 0 where
  items : Items
  size : length (entries_of items) ≡ count
  are : AreOf Request ts items
  keys : HaveKeys k (entries_of items)

calls_of : (k : ℕ) (os : List Outgoing) → k + length os ≤ 2 ^ 64 → AreSayable os → HasCalls k (length os) (call_texts k os)
calls_of k [] fits are = record { items = no_items; size = refl; are = tt; keys = tt }
calls_of k (o ∷ os) fits are =
    let few : k < 2 ^ 64 = (let f : k + suc (length os) ≤ 2 ^ 64 = fits in omega (arith, f)) in
    let others = calls_of (k + 1) os (let f : k + suc (length os) ≤ 2 ^ 64 = fits in omega (arith, f)) are.1 in
    let h = params_of o.params are.0.params in
    record {
      items = item (call_value k o.method h.value) others.items;
      size = ap suc others.size;
      are = (call_value_text k o h.value h.is, whole_deeper 121 122 (call_value k o.method h.value) (omega arith) (call_whole k o h few are.0.method), call_is k o.method h.value (fit_by o.params h.value h.is (h.read false)), others.are);
      keys = (call_has_key k o.method h.value, others.keys);
    }

pub calls_messages : (k : ℕ) (o : Outgoing) (os : List Outgoing) → k + length (o ∷ os) ≤ 2 ^ 64 → AreSayable (o ∷ os) → AreMessages Request (reading_of false (calls_text k (o ∷ os)))
calls_messages k o os fits are =
    let it = calls_of k (o ∷ os) fits are in
    batch_by Request (call_text k o) (call_texts (k + 1) os) it.items it.are

pub calls_keyed : (k : ℕ) (o : Outgoing) (os : List Outgoing) → k + length (o ∷ os) ≤ 2 ^ 64 → AreSayable (o ∷ os) → AreKeyed k (length (o ∷ os)) (reading_of false (calls_text k (o ∷ os)))
calls_keyed k o os fits are =
    let it = calls_of k (o ∷ os) fits are in
    keyed_by k (length (o ∷ os)) (call_text k o) (call_texts (k + 1) os) it.items it.are it.size it.keys

answers_of : (all : List (Id × Said)) → AreAnswers all → HasAnswers all
answers_of [] are = record { items = no_items; are = tt; named = tt }
answers_of (a ∷ more) are =
    let it = answer_value_of a.0 a.1 are.0 are.1 in
    let others = answers_of more are.2 in
    record { items = item it.value others.items; are = (it.is, it.whole, it.entry, others.are); named = (it.id_is, others.named) }

pub answers_messages : (a : Id × Said) (more : List (Id × Said)) → AreAnswers (a ∷ more) → AreMessages Answer (reading_of false (batch_text (answer_texts (a ∷ more))))
answers_messages a more are =
    let it = answers_of (a ∷ more) are in
    batch_by Answer (answer_text a.0 a.1) (answer_texts more) it.items it.are

pub answers_named : (a : Id × Said) (more : List (Id × Said)) → AreAnswers (a ∷ more) → HaveIds (map (λ b. written_as b.0) (a ∷ more)) (reading_of false (batch_text (answer_texts (a ∷ more))))
answers_named a more are =
    let it = answers_of (a ∷ more) are in
    named_by Answer (map (λ b. written_as b.0) (a ∷ more)) (answer_text a.0 a.1) (answer_texts more) it.items it.are it.named
