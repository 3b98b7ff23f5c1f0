-- The compact text of a value is read back as that value, where the value was read from some text: then its numbers fit, and
-- its members stand in order, each name once.
use Rattle.std.proofs.Common.{◌≡◌, ℕ, zero, suc, ◌^◌, ◌<◌, ◌≤◌, ◌&&◌, pos, negsuc, List, [], ◌++◌, drop, Bool, true, false, cond, nat_lt, nat_le, max, Option, Some, None, option_map, option_and_then, Ordering, Less, Equal, Greater, refl, sym, ap, subst, ◌∙◌, arith, append-nil, true≢false}
use Rattle.std.proofs.lemmas.Bool.{or_parts}
use Rattle.std.proofs.lemmas.Bool.Decides.{nat_tests}
use Rattle.std.proofs.lemmas.Cmp.{nat_list_cmp_total}
use Rattle.std.specs.Cmp.Lexicographic.{slice_cmp}
use Rattle.std.specs.Float.{binary64, float_is_finite}
use Rattle.std.specs.Ordering.{match_ordering, nat_cmp, ordering_reverse}
use Rattle.std.specs.Prelude.{⊤, slice_index, ◌==◌}
use Rattle.fast_float.specs.Text.{Parts, scan, digits_of, nearest, minus, with_sign}
use Rattle.json.proofs.Printed.Decimals.{IsNumber-decimal, IsNumber-signed_decimal}
use Rattle.json.proofs.Printed.Tokens.{tokens-print}
use Rattle.json.proofs.Printed.Trees.{value-json_tokens, ArePrintable-json_tokens}
use Rattle.json.specs.Json as json
use Rattle.json.specs.Lex.{tokens}
use Rattle.json.specs.Print.{IsNumber}
use Rattle.json.specs.Tree as tree
use Rattle.serde_json.proofs.Numbers.{number_of-decimal, number_of-negative}
use Rattle.serde_json.proofs.Texts.{print-outline}
use Rattle.serde_json.specs.Data.{Num, unsigned, negative, float, Data, null, boolean, number, string, array, object, Items, no_items, item, Members, no_members, member, put, depth, items_depth, members_depth}
use Rattle.serde_json.specs.Find.{is_float}
use Rattle.serde_json.specs.Read.{number_of, number_from, float_of, is_integer, of_json, of_items, of_members, max_depth, read}
use Rattle.serde_json.specs.Written.{number_text, outline, items_outline, members_outline, has_float, items_have_float, members_have_float, compact_text}

-- ---- numbers that fit, and members in order

abbrev pub Fits64 : Num → Type 0
Fits64 (unsigned n) = n < 2 ^ 64
Fits64 (negative (pos n)) = ⊥
Fits64 (negative (negsuc n)) = n < 2 ^ 63
Fits64 (float x) = ⊤

-- each name of the members is above k
abbrev pub Below : List ℕ → Members → Type 0
Below k no_members = ⊤
Below k (member l d ms) = (slice_cmp nat_cmp k l ≡ Less) × Below k ms

abbrev mutual
  pub Sound : Data → Type 0
  Sound null = ⊤
  Sound (boolean b) = ⊤
  Sound (number n) = Fits64 n
  Sound (string s) = ⊤
  Sound (array ds) = ItemsSound ds
  Sound (object ms) = MembersSound ms

  pub ItemsSound : Items → Type 0
  ItemsSound no_items = ⊤
  ItemsSound (item d ds) = Sound d × ItemsSound ds

  pub MembersSound : Members → Type 0
  MembersSound no_members = ⊤
  MembersSound (member k d ms) = Sound d × Below k ms × MembersSound ms

Below-trans : (k l : List ℕ) (ms : Members) → slice_cmp nat_cmp k l ≡ Less → Below l ms → Below k ms
Below-trans k l no_members h below = tt
Below-trans k l (member m d ms) h below = (nat_list_cmp_total.trans k l m h below.0, Below-trans k l ms h below.1)

turned : (k l : List ℕ) (o : Ordering) → slice_cmp nat_cmp k l ≡ o → slice_cmp nat_cmp l k ≡ ordering_reverse o
turned k l o h = nat_list_cmp_total.antisymm l k ∙ ap ordering_reverse h

Below-put_at : (o : Ordering) (k l m : List ℕ) (d e : Data) (ms : Members) → slice_cmp nat_cmp l k ≡ Less → Below l (member m e ms) → Below l (put k d ms)
    → Below l (match_ordering o (member k d (member m e ms)) (member m d ms) (member m e (put k d ms)))
Below-put_at Less k l m d e ms h below later = (h, below)
Below-put_at Equal k l m d e ms h below later = below
Below-put_at Greater k l m d e ms h below later = (below.0, later)

Below-put : (k l : List ℕ) (d : Data) (ms : Members) → slice_cmp nat_cmp l k ≡ Less → Below l ms → Below l (put k d ms)
Below-put k l d no_members h below = (h, tt)
Below-put k l d (member m e ms) h below = Below-put_at (slice_cmp nat_cmp k m) k l m d e ms h below (Below-put k l d ms h below.1)

sound_put_at : (o : Ordering) (k l : List ℕ) (d e : Data) (ms : Members) → slice_cmp nat_cmp k l ≡ o → Sound d → MembersSound (member l e ms) → MembersSound (put k d ms)
    → MembersSound (match_ordering o (member k d (member l e ms)) (member l d ms) (member l e (put k d ms)))
sound_put_at Less k l d e ms is here all later = (here, (is, Below-trans k l ms is all.1), all)
sound_put_at Equal k l d e ms is here all later = (here, all.1, all.2)
sound_put_at Greater k l d e ms is here all later = (all.0, Below-put k l d ms (turned k l Greater is) all.1, later)

MembersSound-put : (k : List ℕ) (d : Data) (ms : Members) → Sound d → MembersSound ms → MembersSound (put k d ms)
MembersSound-put k d no_members here all = (here, tt, tt)
MembersSound-put k d (member l e ms) here all = sound_put_at (slice_cmp nat_cmp k l) k l d e ms refl here all (MembersSound-put k d ms here all.2)

-- ---- what was read is sound

abbrev IfAny : {A : Type 0} → (A → Type 0) → Option A → Type 0
IfAny P None = ⊤
IfAny P (Some a) = P a

IfAny-map : {A B : Type 0} (P : A → Type 0) (Q : B → Type 0) (f : A → B) → ((a : A) → P a → Q (f a)) → (o : Option A) → IfAny P o → IfAny Q (option_map f o)
IfAny-map P Q f h None x = tt
IfAny-map P Q f h (Some a) x = h a x

IfAny-and_then : {A B : Type 0} (P : A → Type 0) (Q : B → Type 0) (f : A → Option B) → ((a : A) → P a → IfAny Q (f a)) → (o : Option A) → IfAny P o → IfAny Q (option_and_then f o)
IfAny-and_then P Q f h None x = tt
IfAny-and_then P Q f h (Some a) x = h a x

float_fits : (sign : Bool) (p : Parts) → IfAny Fits64 (float_of sign p)
float_fits sign p = by_test (float_is_finite (nearest binary64 sign p))
  where
    by_test : (b : Bool) → IfAny Fits64 (cond b (Some (float (nearest binary64 sign p))) None)
    by_test true = tt
    by_test false = tt

negative_fits : (n : ℕ) → 0 < n → n ≤ 2 ^ 63 → Fits64 (negative (with_sign true n))
negative_fits zero some small = absurd (omega arith)
negative_fits (suc n) some small = omega arith

number_fits_from : (sign : Bool) (p : Parts) → IfAny Fits64 (number_from sign p)
number_fits_from false p = by_tests (is_integer p) (nat_lt (digits_of p) (2 ^ 64)) refl
  where
    by_tests : (whole small : Bool) → nat_lt (digits_of p) (2 ^ 64) ≡ small → IfAny Fits64 (cond (whole && small) (Some (unsigned (digits_of p))) (float_of false p))
    by_tests true true is = let below : digits_of p < 2 ^ 64 = grind (arith, nat_tests) in below
    by_tests true false is = float_fits false p
    by_tests false small is = float_fits false p
number_fits_from true p = by_tests (is_integer p) (nat_lt 0 (digits_of p)) (nat_le (digits_of p) (2 ^ 63)) refl refl
  where
    by_tests : (whole some small : Bool) → nat_lt 0 (digits_of p) ≡ some → nat_le (digits_of p) (2 ^ 63) ≡ small
        → IfAny Fits64 (cond (whole && some && small) (Some (negative (with_sign true (digits_of p)))) (float_of true p))
    by_tests true true true is_some is_small =
        let above : 0 < digits_of p = grind (arith, nat_tests) in
        let below : digits_of p ≤ 2 ^ 63 = grind (arith, nat_tests) in
        negative_fits (digits_of p) above below
    by_tests true true false is_some is_small = float_fits true p
    by_tests true false small is_some is_small = float_fits true p
    by_tests false some small is_some is_small = float_fits true p

either : (b : Bool) (one other : Option Num) → IfAny Fits64 one → IfAny Fits64 other → IfAny Fits64 (cond b one other)
either true one other here there = here
either false one other here there = there

number_fits : (s : List ℕ) → IfAny Fits64 (number_of s)
unfolding number_of
number_fits s =
    either (slice_index s 0 == minus) (number_from true (scan (drop 1 s))) (number_from false (scan s)) (number_fits_from true (scan (drop 1 s))) (number_fits_from false (scan s))

mutual
  of_json-sound : (j : json.Json) → IfAny Sound (of_json j)
  of_json-sound json.null = tt
  of_json-sound (json.boolean b) = tt
  of_json-sound (json.number s) = IfAny-map Fits64 Sound number (λ n h. h) (number_of s) (number_fits s)
  of_json-sound (json.string s) = tt
  of_json-sound (json.array js) = IfAny-map ItemsSound Sound array (λ ds h. h) (of_items js) (of_items-sound js)
  of_json-sound (json.object ms) = IfAny-map MembersSound Sound object (λ ds h. h) (of_members ms no_members) (of_members-sound ms no_members tt)

  of_items-sound : (js : json.Items) → IfAny ItemsSound (of_items js)
  of_items-sound json.no_items = tt
  of_items-sound (json.item j js) =
      IfAny-and_then Sound ItemsSound _ (λ d h. IfAny-map ItemsSound ItemsSound (item d) (λ ds k. (h, k)) (of_items js) (of_items-sound js)) (of_json j) (of_json-sound j)

  of_members-sound : (ms : json.Members) (found : Members) → MembersSound found → IfAny MembersSound (of_members ms found)
  of_members-sound json.no_members found h = h
  of_members-sound (json.member k j ms) found h =
      IfAny-and_then Sound MembersSound _ (λ d here. of_members-sound ms (put k d found) (MembersSound-put k d found here h)) (of_json j) (of_json-sound j)

anything : (o : Option json.Json) → IfAny (λ j. ⊤) o
anything None = tt
anything (Some j) = tt

pub read-sound : (text : List ℕ) (d : Data) → read text ≡ Some d → Sound d
read-sound text d e =
    let whole : Option json.Json = option_and_then (λ p. json.if_last p.0 p.1) (json.value max_depth (tokens text)) in
    subst (IfAny Sound) e (IfAny-and_then (λ j. ⊤) Sound of_json (λ j _. of_json-sound j) whole (anything whole))

-- ---- what is sound and has no float is read back

IsNumber-text : (n : Num) → Fits64 n → is_float n ≡ false → IsNumber (number_text n)
IsNumber-text (unsigned n) fits h = IsNumber-decimal n fits
IsNumber-text (negative (pos n)) fits h = absurd fits
IsNumber-text (negative (negsuc n)) fits h = IsNumber-signed_decimal (negsuc n) (omega arith)
IsNumber-text (float x) fits h = absurd (true≢false h)

number_of-text : (n : Num) → Fits64 n → is_float n ≡ false → number_of (number_text n) ≡ Some n
number_of-text (unsigned n) fits h = number_of-decimal n fits
number_of-text (negative (pos n)) fits h = absurd fits
number_of-text (negative (negsuc n)) fits h = number_of-negative n fits
number_of-text (float x) fits h = absurd (true≢false h)

mutual
  HasNumbers-outline : (d : Data) → Sound d → has_float d ≡ false → tree.HasNumbers (outline d)
  HasNumbers-outline null s h = tt
  HasNumbers-outline (boolean b) s h = tt
  HasNumbers-outline (number n) s h = IsNumber-text n s h
  HasNumbers-outline (string t) s h = tt
  HasNumbers-outline (array ds) s h = ItemsHaveNumbers-outline ds s h
  HasNumbers-outline (object ms) s h = MembersHaveNumbers-outline ms s h

  ItemsHaveNumbers-outline : (ds : Items) → ItemsSound ds → items_have_float ds ≡ false → tree.ItemsHaveNumbers (items_outline ds)
  ItemsHaveNumbers-outline no_items s h = tt
  ItemsHaveNumbers-outline (item d ds) s h = let p = or_parts (has_float d) _ h in (HasNumbers-outline d s.0 p.0, ItemsHaveNumbers-outline ds s.1 p.1)

  MembersHaveNumbers-outline : (ms : Members) → MembersSound ms → members_have_float ms ≡ false → tree.MembersHaveNumbers (members_outline ms)
  MembersHaveNumbers-outline no_members s h = tt
  MembersHaveNumbers-outline (member k d ms) s h = let p = or_parts (has_float d) _ h in (HasNumbers-outline d s.0 p.0, MembersHaveNumbers-outline ms s.2 p.1)

mutual
  depth-outline : (d : Data) → tree.depth (outline d) ≡ depth d
  depth-outline null = refl
  depth-outline (boolean b) = refl
  depth-outline (number n) = refl
  depth-outline (string t) = refl
  depth-outline (array ds) = ap suc (items_depth-outline ds)
  depth-outline (object ms) = ap suc (members_depth-outline ms)

  items_depth-outline : (ds : Items) → tree.items_depth (items_outline ds) ≡ items_depth ds
  items_depth-outline no_items = refl
  items_depth-outline (item d ds) = λ i. max (depth-outline d i) (items_depth-outline ds i)

  members_depth-outline : (ms : Members) → tree.members_depth (members_outline ms) ≡ members_depth ms
  members_depth-outline no_members = refl
  members_depth-outline (member k d ms) = λ i. max (depth-outline d i) (members_depth-outline ms i)

-- the members of both, in order
abbrev join : Members → Members → Members
join no_members others = others
join (member k d ms) others = member k d (join ms others)

join-no_members : (ms : Members) → join ms no_members ≡ ms
join-no_members no_members = refl
join-no_members (member k d ms) = ap (member k d) (join-no_members ms)

join-assoc : (found : Members) (k : List ℕ) (d : Data) (ms : Members) → join (join found (member k d no_members)) ms ≡ join found (member k d ms)
join-assoc no_members k d ms = refl
join-assoc (member l e found) k d ms = ap (member l e) (join-assoc found k d ms)

below_joined : (l k : List ℕ) (d : Data) (found ms : Members) → Below l (join found (member k d ms)) → slice_cmp nat_cmp l k ≡ Less
below_joined l k d no_members ms h = h.0
below_joined l k d (member m e found) ms h = below_joined l k d found ms h.1

-- a name above those before it goes last
put-last : (found : Members) (k : List ℕ) (d : Data) (ms : Members) → MembersSound (join found (member k d ms)) → put k d found ≡ join found (member k d no_members)
put-last no_members k d ms s = refl
put-last (member l e found) k d ms s =
    let above : slice_cmp nat_cmp k l ≡ Greater = turned l k Less (below_joined l k d found ms s.1) in
    rw above (ap (member l e) (put-last found k d ms s.2))

sound_last : (found : Members) (k : List ℕ) (d : Data) (ms : Members) → MembersSound (join found (member k d ms)) → Sound d
sound_last no_members k d ms s = s.0
sound_last (member l e found) k d ms s = sound_last found k d ms s.2

mutual
  of_json-outline : (d : Data) → Sound d → has_float d ≡ false → of_json (outline d) ≡ Some d
  of_json-outline null s h = refl
  of_json-outline (boolean b) s h = refl
  of_json-outline (number n) s h = ap (option_map number) (number_of-text n s h)
  of_json-outline (string t) s h = refl
  of_json-outline (array ds) s h = ap (option_map array) (of_items-outline ds s h)
  of_json-outline (object ms) s h = ap (option_map object) (of_members-outline ms no_members s h)

  of_items-outline : (ds : Items) → ItemsSound ds → items_have_float ds ≡ false → of_items (items_outline ds) ≡ Some ds
  of_items-outline no_items s h = refl
  of_items-outline (item d ds) s h =
      let p = or_parts (has_float d) _ h in
      ap (option_and_then (λ e. option_map (item e) (of_items (items_outline ds)))) (of_json-outline d s.0 p.0) ∙ ap (option_map (item d)) (of_items-outline ds s.1 p.1)

  of_members-outline : (ms found : Members) → MembersSound (join found ms) → members_have_float ms ≡ false → of_members (members_outline ms) found ≡ Some (join found ms)
  of_members-outline no_members found s h = ap Some (sym (join-no_members found))
  of_members-outline (member k d ms) found s h =
      let p = or_parts (has_float d) _ h in
      let next = sym (join-assoc found k d ms) in
      ap (option_and_then (λ e. of_members (members_outline ms) (put k e found))) (of_json-outline d (sound_last found k d ms s) p.0)
      ∙ ap (of_members (members_outline ms)) (put-last found k d ms s)
      ∙ of_members-outline ms (join found (member k d no_members)) (subst MembersSound next s) p.1
      ∙ ap Some (join-assoc found k d ms)

pub read-compact_text : (d : Data) → Sound d → has_float d ≡ false → depth d ≤ max_depth → read (compact_text d) ≡ Some d
read-compact_text d s h shallow =
    let j = outline d in
    let lexed : tokens (compact_text d) ≡ tree.json_tokens j ++ [] =
    ap tokens (sym (print-outline d)) ∙ tokens-print (tree.json_tokens j) (ArePrintable-json_tokens j (HasNumbers-outline d s h)) ∙ sym (append-nil (tree.json_tokens j)) in
    let parsed : json.value max_depth (tokens (compact_text d)) ≡ Some (j, []) = ap (json.value max_depth) lexed ∙ value-json_tokens j max_depth [] (omega (arith, depth-outline d)) in
    ap (λ r. option_and_then of_json (option_and_then (λ p. json.if_last p.0 p.1) r)) parsed ∙ of_json-outline d s h
