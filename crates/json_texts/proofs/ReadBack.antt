-- A value's compact text is read back as the value.
use Rattle.std.proofs.Common.{◌≡◌, ℕ, ◌≤◌, List, [], Some, None, option_map, Bool, false, refl, sym, ap, ◌∙◌, if◌then◌else◌, true}
use Rattle.std.specs.Prelude.{option_and_then, Result, Ok, Err, IfOk}
use Rattle.std.proofs.lemmas.List.{append-nil}
use Rattle.std.proofs.lemmas.Str.{is_utf8-from_IsUtf8, IsUtf8-from_is_utf8}
use Rattle.std.specs.Str.{IsUtf8, is_utf8}
use Rattle.json.specs.Json.{Json, value, if_last}
use Rattle.json.specs.Lex.{tokens}
use Rattle.json.specs.Print.{print}
use Rattle.json.specs.Tree.{json_tokens, depth, HasNumbers}
use Rattle.json.proofs.Printed.Tokens.{tokens-print}
use Rattle.json.proofs.Printed.Trees.{value-json_tokens, ArePrintable-json_tokens}
use Rattle.json_texts.specs.declared.json_text.TheConstants.{MOST_DEPTH_OUT}
use Rattle.json_texts.specs.Texts.{json_text, text_value, value_of, compact_text, IsJsonText}

pub value_of-json_text : (levels : ℕ) (j : Json) → HasNumbers j → depth j ≤ levels → is_utf8 (json_text j) ≡ true → value_of levels (json_text j) ≡ Some j
unfolding json_text value_of
value_of-json_text levels j numbers shallow utf8 =
    ap (λ b. if b then text_value levels (print (json_tokens j)) else None) utf8
    ∙ ap (option_and_then (λ p. if_last p.0 p.1))
    (ap (value levels) (tokens-print (json_tokens j) (ArePrintable-json_tokens j numbers) ∙ sym (append-nil (json_tokens j)))
    ∙ value-json_tokens j levels [] shallow)

pub compact_text-json_text : (levels : ℕ) (j : Json) → HasNumbers j → depth j ≤ levels → is_utf8 (json_text j) ≡ true → compact_text levels (json_text j) ≡ Some (json_text j)
compact_text-json_text levels j numbers shallow utf8 = ap (option_map json_text) (value_of-json_text levels j numbers shallow utf8)

-- what was read and written again is such a text
pub is_json_text : (j : Json) → HasNumbers j → depth j ≤ MOST_DEPTH_OUT → IsUtf8 (json_text j) → IsJsonText (json_text j)
is_json_text j numbers shallow utf8 = compact_text-json_text MOST_DEPTH_OUT j numbers shallow (is_utf8-from_IsUtf8 (json_text j) utf8)

-- ---- bytes that are UTF-8, or aren't

pub value_of_text : (levels : ℕ) (bytes text : List ℕ) → IsUtf8 bytes → text ≡ bytes → text_value levels text ≡ value_of levels bytes
unfolding value_of
value_of_text levels bytes text utf8 same =
    ap (text_value levels) same ∙ sym (ap (λ b. if b then text_value levels bytes else None) (is_utf8-from_IsUtf8 bytes utf8))

unless_text : (b : Bool) (levels : ℕ) (bytes : List ℕ) → is_utf8 bytes ≡ b → (IsUtf8 bytes → ⊥) → None ≡ (if b then text_value levels bytes else None)
unless_text true levels bytes is not_text = absurd (not_text (IsUtf8-from_is_utf8 bytes is))
unless_text false levels bytes is not_text = refl

pub value_of_no_text : (levels : ℕ) (bytes : List ℕ) → (IsUtf8 bytes → ⊥) → None ≡ value_of levels bytes
unfolding value_of
value_of_no_text levels bytes not_text = unless_text (is_utf8 bytes) levels bytes refl not_text

-- what holds of an `Ok` holds of it with what follows
pub IfOk-follows : {T E : Type 0} {P Q : T → Type 0} (r : Result T E) → ((v : T) → P v → Q v) → IfOk r P → IfOk r Q
IfOk-follows (Ok v) f h = f v h
IfOk-follows (Err e) f h = h

-- ---- texts with the same tokens

pub value_of-same : (levels : ℕ) (text compact : List ℕ) → IsUtf8 text → IsUtf8 compact → tokens compact ≡ tokens text → value_of levels text ≡ value_of levels compact
value_of-same levels text compact utf8 compact_utf8 same =
    sym (value_of_text levels text text utf8 refl) ∙ ap (λ ts. option_and_then (λ p. if_last p.0 p.1) (value levels ts)) (sym same) ∙ value_of_text levels compact compact compact_utf8 refl
