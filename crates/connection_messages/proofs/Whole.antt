-- Values whose compact texts are read back as them, and the texts of objects, member by member.
use Rattle.std.proofs.Common.{◌≡◌, ℕ, suc, ◌≤◌, List, [], ◌∷◌, ◌++◌, IsUtf8, Option, Some, None, option_map, true, false, refl, sym, ap, ◌∙◌, subst, arith, append_assoc, append-nil, Bool, if◌then◌else◌}
use Rattle.std.specs.Prelude.{codes, option_and_then}
use Rattle.std.specs.Str.{is_utf8}
use Rattle.std.proofs.lemmas.Str.{IsUtf8-append, IsUtf8-from_is_utf8, is_utf8-from_IsUtf8}
use Rattle.json.specs.Json.{Json, null, number, string, object, Members, no_members, member, value, if_last}
use Rattle.json.specs.Lex.{tokens}
use Rattle.json.specs.Print.{print, print_from, quoted, IsNumber}
use Rattle.json.specs.Token.{Token}
use Rattle.json.specs.Token as token
use Rattle.json.specs.Tree.{json_tokens, members_tokens, depth, members_depth, HasNumbers, MembersHaveNumbers}
use Rattle.json.proofs.Nesting.{value-depth}
use Rattle.json.proofs.Numbered.{value-HasNumbers, ArePrintableOrBad-tokens}
use Rattle.json.proofs.Printed.Utf8.{IsUtf8-are_ascii, IsUtf8-quoted}
use Rattle.json_texts.specs.declared.json_text.TheConstants.{MOST_DEPTH_OUT}
use Rattle.json_texts.specs.Texts.{json_text, text_value, value_of, IsJsonText}
use Rattle.json_texts.proofs.Placed.{print-behind}
use Rattle.json_texts.proofs.ReadBack.{value_of-json_text}

-- a value of at most so many levels whose text is UTF-8
pub record IsWhole (levels : ℕ) (j : Json) : Type 0 where
  pub numbers : HasNumbers j
  pub nests : depth j ≤ levels
  pub utf8 : IsUtf8 (json_text j)

pub read_back : (levels : ℕ) (j : Json) → IsWhole levels j → value_of levels (json_text j) ≡ Some j
read_back levels j whole = value_of-json_text levels j whole.numbers whole.nests (is_utf8-from_IsUtf8 (json_text j) whole.utf8)

pub whole_deeper : (levels more : ℕ) (j : Json) → levels ≤ more → IsWhole levels j → IsWhole more j
whole_deeper levels more j few whole = let nests = whole.nests in record { numbers = whole.numbers; nests = omega (arith, nests, few); utf8 = whole.utf8 }

-- ---- the value of a compact text

pub record HasJson (text : List ℕ) : Type 0 where
  pub value : Json
  pub whole : IsWhole MOST_DEPTH_OUT value
  pub is : json_text value ≡ text

last_is : (p : Option (Json × List Token)) (j : Json) → option_and_then (λ p. if_last p.0 p.1) p ≡ Some j → p ≡ Some (j, [])
last_is None j e = cc
last_is (Some (i, [])) j e = cc
last_is (Some (i, t ∷ ts)) j e = cc

pub json_of : (text : List ℕ) → IsJsonText text → HasJson text
unfolding value_of
json_of text is = by_test (is_utf8 text) refl is
  where
    by_value : (o : Option Json) → text_value MOST_DEPTH_OUT text ≡ o → is_utf8 text ≡ true → option_map json_text o ≡ Some text → HasJson text
    by_value None read utf8 same = cc
    by_value (Some j) read utf8 same =
        let here : json_text j ≡ text = cc in
        let first = last_is (value MOST_DEPTH_OUT (tokens text)) j read in
        record {
          value = j;
          whole = record {
            numbers = value-HasNumbers MOST_DEPTH_OUT (tokens text) [] j (ArePrintableOrBad-tokens text) first;
            nests = value-depth MOST_DEPTH_OUT (tokens text) [] j first;
            utf8 = subst IsUtf8 (sym here) (IsUtf8-from_is_utf8 text utf8);
          };
          is = here;
        }

    by_test : (b : Bool) → is_utf8 text ≡ b → option_map json_text (if b then text_value MOST_DEPTH_OUT text else None) ≡ Some text → HasJson text
    by_test true utf8 same = by_value (text_value MOST_DEPTH_OUT text) refl utf8 same
    by_test false utf8 same = cc

-- ---- texts of strings and numbers

pub string_text : (s : List ℕ) → json_text (string s) ≡ quoted s
unfolding json_text print_from
string_text s = append-nil (quoted s)

pub number_text : (s : List ℕ) → json_text (number s) ≡ s
unfolding json_text print_from
number_text s = append-nil s

pub null_text : json_text null ≡ codes "null"
unfolding json_text print_from
null_text = refl

pub whole_string : (levels : ℕ) (s : List ℕ) → IsUtf8 s → IsWhole levels (string s)
whole_string levels s utf8 = record { numbers = tt; nests = omega arith; utf8 = subst IsUtf8 (sym (string_text s)) (IsUtf8-quoted s utf8) }

pub whole_null : (levels : ℕ) → IsWhole levels null
whole_null levels = record { numbers = tt; nests = omega arith; utf8 = subst IsUtf8 (sym null_text) (IsUtf8-are_ascii (codes "null") refl) }

pub whole_number : (levels : ℕ) (s : List ℕ) → IsNumber s → IsUtf8 s → IsWhole levels (number s)
whole_number levels s is utf8 = record { numbers = is; nests = omega arith; utf8 = subst IsUtf8 (sym (number_text s)) utf8 }

-- ---- texts of objects

-- the rest of an object behind a member
abbrev pub rest_text : Members → List ℕ
rest_text ms = print_from true (members_tokens ms)

-- a member's name, its colon and its value, and what stands behind
abbrev pub member_text : List ℕ → Json → List ℕ → List ℕ
member_text k j rest = quoted k ++ 58 ∷ (json_text j ++ rest)

key_text : (k : List ℕ) (ts : List Token) → print_from false (token.key k ∷ ts) ≡ quoted k ++ 58 ∷ print ts
unfolding print_from
key_text k ts = append_assoc (quoted k) (58 ∷ []) (print ts)

comma_key : (k : List ℕ) (ts : List Token) → print_from true (token.key k ∷ ts) ≡ 44 ∷ print_from false (token.key k ∷ ts)
unfolding print_from
comma_key k ts = refl

first_member : (k : List ℕ) (j : Json) (ms : Members) → print_from false (members_tokens (member k j ms)) ≡ member_text k j (rest_text ms)
first_member k j ms = key_text k (json_tokens j ++ members_tokens ms) ∙ ap (λ s. quoted k ++ 58 ∷ s) (print-behind j (members_tokens ms))

pub rest_member : (k : List ℕ) (j : Json) (ms : Members) → rest_text (member k j ms) ≡ 44 ∷ member_text k j (rest_text ms)
rest_member k j ms = comma_key k (json_tokens j ++ members_tokens ms) ∙ ap (λ s. 44 ∷ s) (first_member k j ms)

pub rest_end : rest_text no_members ≡ 125 ∷ []
unfolding print_from
rest_end = refl

open_object : (ts : List Token) → print_from false (token.begin_object ∷ ts) ≡ 123 ∷ print_from false ts
unfolding print_from
open_object ts = refl

pub object_text : (k : List ℕ) (j : Json) (ms : Members) → json_text (object (member k j ms)) ≡ 123 ∷ member_text k j (rest_text ms)
unfolding json_text
object_text k j ms = open_object (members_tokens (member k j ms)) ∙ ap (λ s. 123 ∷ s) (first_member k j ms)

pub record AreWhole (levels : ℕ) (ms : Members) : Type 0 where
  pub numbers : MembersHaveNumbers ms
  pub nests : members_depth ms ≤ levels
  pub utf8 : IsUtf8 (rest_text ms)

utf8_member : (levels : ℕ) (k : List ℕ) (j : Json) (rest : List ℕ) → IsUtf8 k → IsWhole levels j → IsUtf8 rest → IsUtf8 (member_text k j rest)
utf8_member levels k j rest name whole utf8 =
    IsUtf8-append (quoted k) (58 ∷ (json_text j ++ rest)) (IsUtf8-quoted k name)
    (IsUtf8-append (58 ∷ []) (json_text j ++ rest) (IsUtf8-are_ascii (58 ∷ []) refl) (IsUtf8-append (json_text j) rest whole.utf8 utf8))

pub none_whole : (levels : ℕ) → AreWhole levels no_members
none_whole levels = record { numbers = tt; nests = omega arith; utf8 = subst IsUtf8 (sym rest_end) (IsUtf8-are_ascii (125 ∷ []) refl) }

pub more_whole : (levels : ℕ) (k : List ℕ) (j : Json) (ms : Members) → IsUtf8 k → IsWhole levels j → AreWhole levels ms → AreWhole levels (member k j ms)
more_whole levels k j ms name whole others =
    let nests = whole.nests in
    let others_nest = others.nests in
    record {
      numbers = (whole.numbers, others.numbers);
      nests = omega (arith, nests, others_nest);
      utf8 = subst IsUtf8 (sym (rest_member k j ms))
          (IsUtf8-append (44 ∷ []) (member_text k j (rest_text ms)) (IsUtf8-are_ascii (44 ∷ []) refl) (utf8_member levels k j (rest_text ms) name whole others.utf8));
    }

pub object_whole : (levels : ℕ) (k : List ℕ) (j : Json) (ms : Members) → IsUtf8 k → IsWhole levels j → AreWhole levels ms → IsWhole (suc levels) (object (member k j ms))
object_whole levels k j ms name whole others =
    let nests = whole.nests in
    let others_nest = others.nests in
    record {
      numbers = (whole.numbers, others.numbers);
      nests = omega (arith, nests, others_nest);
      utf8 = subst IsUtf8 (sym (object_text k j ms))
          (IsUtf8-append (123 ∷ []) (member_text k j (rest_text ms)) (IsUtf8-are_ascii (123 ∷ []) refl) (utf8_member levels k j (rest_text ms) name whole others.utf8));
    }
