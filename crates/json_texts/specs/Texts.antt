-- The compact text of a JSON value (RFC 8259), and the value that a text is.
use Rattle.std.specs.Prelude.{◌≡◌, ℕ, List, Option, Some, None, option_map, option_and_then, if◌then◌else◌}
use Rattle.std.specs.Str.{is_utf8}
use Rattle.json.specs.Json.{Json, value, if_last}
use Rattle.json.specs.Lex.{tokens}
use Rattle.json.specs.Print.{print}
use Rattle.json.specs.Tree.{json_tokens}
use Rattle.json_texts.specs.declared.json_text.TheConstants.{MOST_DEPTH_OUT}

-- A value's compact text: no space, the shortest escapes, and each number as it was spelled.
unfoldable pub json_text : Json → List ℕ
json_text j = print (json_tokens j)

-- the value that a text is, where it is one whose arrays and objects nest no deeper than `levels`
abbrev pub text_value : ℕ → List ℕ → Option Json
text_value levels text = option_and_then (λ p. if_last p.0 p.1) (value levels (tokens text))

-- the value that bytes are, where they are UTF-8
unfoldable pub value_of : ℕ → List ℕ → Option Json
value_of levels bytes = if is_utf8 bytes then text_value levels bytes else None

-- the compact text of the value that bytes are
abbrev pub compact_text : ℕ → List ℕ → Option (List ℕ)
compact_text levels bytes = option_map json_text (value_of levels bytes)

-- The text is a value's, and compact: it is the compact text of the value that it is.
abbrev pub IsJsonText : List ℕ → Type 0
IsJsonText text = compact_text MOST_DEPTH_OUT text ≡ Some text
