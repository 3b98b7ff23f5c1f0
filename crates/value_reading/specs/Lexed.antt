-- Where values stand in a text: the lexemes that are read there, whatever blanks stand between them and however strings are escaped, and the data that they are read as.
use Rattle.std.specs.Prelude.{◌≡◌, ◌≤◌, ◌==◌, ℕ, ◌+◌, List, [], ◌∷◌, ◌++◌, drop, get_or, Bool, true, not, Some}
use Rattle.json.specs.Json as json
use Rattle.json.specs.Lex.{Lexeme, token, comma, colon, lex, between, in_string, string_token}
use Rattle.json.specs.Text.{content, plain, prepend, code_unit}
use Rattle.json.specs.Token as tokens
use Rattle.json.specs.Tree.{depth, items_depth, members_depth}
use Rattle.json.specs.Word.{ends_word}
use Rattle.serde_json.specs.Data.{Data, Items, Members, no_members}
use Rattle.serde_json.specs.Read.{of_json, of_items, of_members}

-- from one place of the text to another these lexemes are read
abbrev pub Lexed : List ℕ → ℕ → List Lexeme → ℕ → Type 0
Lexed text from part end = lex between (drop from text) ≡ part ++ lex between (drop end text)

-- a number or a literal may end there: before the text's end, a blank, a comma, a colon or a bracket (RFC 8259, section 2)
abbrev pub EndsWord : List ℕ → ℕ → Type 0
EndsWord text at = ends_word (drop at text) ≡ true

-- from one place to another only blanks stand
pub record HasBlanks (text : List ℕ) (from end : ℕ) : Type 0 where
  pub order : from ≤ end
  pub lexed : Lexed text from [] end
  pub ends : EndsWord text end → EndsWord text from

abbrev pub is_space_byte : ℕ → Bool
is_space_byte x = x == 32

abbrev pub is_no_space : ℕ → Bool
is_no_space x = not (is_space_byte x)

-- ---- strings (RFC 8259, section 7)

-- from one place on a string is read, whose content begins at another one
abbrev pub Opens : List ℕ → ℕ → ℕ → Type 0
Opens text from at = lex between (drop from text) ≡ token (string_token (content plain (drop at text))) ∷ lex in_string (drop at text)

-- in a string, from one place to another, these bytes are written
pub record HasBytes (text : List ℕ) (from : ℕ) (bytes : List ℕ) (end : ℕ) : Type 0 where
  pub content : content plain (drop from text) ≡ prepend bytes (content plain (drop end text))
  pub lexed : lex in_string (drop from text) ≡ lex in_string (drop end text)

-- four hexadecimal digits that spell this number
abbrev pub HasUnit : List ℕ → ℕ → ℕ → Type 0
HasUnit text at unit = code_unit (get_or text at 0) (get_or text (at + 1) 0) (get_or text (at + 2) 0) (get_or text (at + 3) 0) ≡ Some unit

-- the rest of a string, with its last quote
pub record HasRest (text : List ℕ) (from : ℕ) (bytes : List ℕ) (end : ℕ) : Type 0 where
  pub content : content plain (drop from text) ≡ Some bytes
  pub lexed : lex in_string (drop from text) ≡ lex between (drop end text)

-- ---- values (RFC 8259, sections 3 to 5)

-- what stands between the elements of an array, or the members of an object
abbrev pub after_item : json.Items → List Lexeme → List Lexeme
after_item json.no_items ls = ls
after_item (json.item j js) ls = comma ∷ ls

abbrev pub after_member : json.Members → List Lexeme → List Lexeme
after_member json.no_members ls = ls
after_member (json.member k j ms) ls = comma ∷ ls

abbrev mutual
  pub value_lexemes : json.Json → List Lexeme
  value_lexemes json.null = token tokens.null ∷ []
  value_lexemes (json.boolean b) = token (tokens.boolean b) ∷ []
  value_lexemes (json.number s) = token (tokens.number s) ∷ []
  value_lexemes (json.string s) = token (tokens.string s) ∷ []
  value_lexemes (json.array js) = token tokens.begin_array ∷ items_lexemes js
  value_lexemes (json.object ms) = token tokens.begin_object ∷ members_lexemes ms

  -- with the closing bracket
  pub items_lexemes : json.Items → List Lexeme
  items_lexemes json.no_items = token tokens.end_array ∷ []
  items_lexemes (json.item j js) = value_lexemes j ++ after_item js (items_lexemes js)

  pub members_lexemes : json.Members → List Lexeme
  members_lexemes json.no_members = token tokens.end_object ∷ []
  members_lexemes (json.member k j ms) = token (tokens.string k) ∷ colon ∷ (value_lexemes j ++ after_member ms (members_lexemes ms))

-- a value stands there, nests so deep at most, and is read as d
pub record IsRead (levels : ℕ) (text : List ℕ) (from end : ℕ) (d : Data) : Type 0 where
  pub value : json.Json
  pub nests : depth value ≤ levels
  pub lexed : EndsWord text end → Lexed text from (value_lexemes value) end
  pub is : of_json value ≡ Some d

-- the rest of an array, after its first bracket
pub record ItemsAreRead (levels : ℕ) (text : List ℕ) (from end : ℕ) (ds : Items) : Type 0 where
  pub items : json.Items
  pub nests : items_depth items ≤ levels
  pub lexed : Lexed text from (items_lexemes items) end
  pub is : of_items items ≡ Some ds

-- the rest of an object, after its first brace
pub record MembersAreRead (levels : ℕ) (text : List ℕ) (from end : ℕ) (ms : Members) : Type 0 where
  pub members : json.Members
  pub nests : members_depth members ≤ levels
  pub lexed : Lexed text from (members_lexemes members) end
  pub is : of_members members no_members ≡ Some ms
