-- Which compact texts are found where they stand.
use Rattle.std.specs.Prelude.{◌≡◌, ◌≤◌, ◌||◌, ◌==◌, ℕ, ◌+◌, List, [], ◌∷◌, ◌++◌, length, get_or, drop, Bool, true, not, nat_lt, Option, Some, option_and_then, All, ⊤}
use Rattle.std.specs.Char.{is_ascii_digit}
use Rattle.json.specs.Json.{Json, null, boolean, number, string, array, object, Items, no_items, item, Members, no_members, member}
use Rattle.json.specs.Print.{escape, quoted, print, IsNumber}
use Rattle.json.specs.Word.{after_whole, after_fraction, after_exponent}
use Rattle.json.specs.Tree.{depth, items_depth, members_depth, items_tokens, members_tokens, HasNumbers, ItemsHaveNumbers, MembersHaveNumbers}
use Rattle.json_texts.specs.Texts.{json_text}

-- In a string the byte stands for itself, or has an escape of one letter (RFC 8259, section 7): no control byte but backspace, tab, line feed, form feed and carriage return.
abbrev pub is_short : ℕ → Bool
is_short x = not (nat_lt x 32) || (x == 8) || (x == 9) || (x == 10) || (x == 12) || (x == 13)

-- a string that is written without an escape of four digits
abbrev pub IsShort : List ℕ → Type 0
IsShort s = All (λ x. is_short x ≡ true) s

-- each string in the value is, and each name
abbrev mutual
  pub HasShortEscapes : Json → Type 0
  HasShortEscapes null = ⊤
  HasShortEscapes (boolean b) = ⊤
  HasShortEscapes (number s) = ⊤
  HasShortEscapes (string s) = IsShort s
  HasShortEscapes (array js) = ItemsHaveShortEscapes js
  HasShortEscapes (object ms) = MembersHaveShortEscapes ms

  pub ItemsHaveShortEscapes : Items → Type 0
  ItemsHaveShortEscapes no_items = ⊤
  ItemsHaveShortEscapes (item j js) = HasShortEscapes j × ItemsHaveShortEscapes js

  pub MembersHaveShortEscapes : Members → Type 0
  MembersHaveShortEscapes no_members = ⊤
  MembersHaveShortEscapes (member k j ms) = IsShort k × HasShortEscapes j × MembersHaveShortEscapes ms

-- the bytes that numbers are written with (RFC 8259, section 6): digits, and - + . e E
abbrev pub is_of_number : ℕ → Bool
is_of_number x = is_ascii_digit x || (x == 45) || (x == 43) || (x == 46) || (x == 101) || (x == 69)

-- what follows a number, where it has no sign (RFC 8259, section 6)
abbrev pub after_natural : List ℕ → Option (List ℕ)
after_natural t = option_and_then after_exponent (option_and_then after_fraction (after_whole t))

-- a number ends before this: nothing, or a byte that numbers aren't written with
abbrev pub ends_number : List ℕ → Bool
ends_number rest = not (is_of_number (get_or rest 0 0))

-- where this part stands from there on, with this behind it, what is found is its end
abbrev pub Finds : List ℕ → ℕ → Option ℕ → List ℕ → List ℕ → Type 0
Finds text from found part rest = drop from text ≡ part ++ rest → found ≡ Some (from + length part)

-- Found is the end of each value that may stand there: one in its compact text, without an escape of four digits, that nests at most `levels` deep, and is followed by what ends a number.
unfoldable pub FindsValue : ℕ → List ℕ → ℕ → Option ℕ → Type 0
FindsValue levels text from found =
    (value : Json) (rest : List ℕ) → HasNumbers value → HasShortEscapes value → depth value ≤ levels → ends_number rest ≡ true → Finds text from found (json_text value) rest

-- the same of the rest of an array, after its first bracket
unfoldable pub FindsItems : ℕ → List ℕ → ℕ → Option ℕ → Type 0
FindsItems levels text from found =
    (items : Items) (rest : List ℕ) → ItemsHaveNumbers items → ItemsHaveShortEscapes items → items_depth items ≤ levels → Finds text from found (print (items_tokens items)) rest

-- of the rest of an object, after its first brace
unfoldable pub FindsMembers : ℕ → List ℕ → ℕ → Option ℕ → Type 0
FindsMembers levels text from found =
    (members : Members) (rest : List ℕ) → MembersHaveNumbers members → MembersHaveShortEscapes members → members_depth members ≤ levels
    → Finds text from found (print (members_tokens members)) rest

-- of a name, with its colon
unfoldable pub FindsName : List ℕ → ℕ → Option ℕ → Type 0
FindsName text from found = (name rest : List ℕ) → IsShort name → Finds text from found (quoted name ++ 58 ∷ []) rest

-- of the rest of a string, after its first quote
unfoldable pub FindsString : List ℕ → ℕ → Option ℕ → Type 0
FindsString text from found = (content rest : List ℕ) → IsShort content → Finds text from found (escape content ++ 34 ∷ []) rest

-- of what stands in a string before its last quote
unfoldable pub FindsQuote : List ℕ → ℕ → Option ℕ → Type 0
FindsQuote text from found = (content rest : List ℕ) → IsShort content → Finds text from found (escape content) (34 ∷ rest)

unfoldable pub FindsNumber : List ℕ → ℕ → Option ℕ → Type 0
FindsNumber text from found = (number rest : List ℕ) → IsNumber number → ends_number rest ≡ true → Finds text from found number rest

unfoldable pub FindsWord : List ℕ → ℕ → List ℕ → Option ℕ → Type 0
FindsWord text from word found = (rest : List ℕ) → Finds text from found word rest
