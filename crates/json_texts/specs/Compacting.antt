-- The parts of a text that are read as the same tokens in another spelling, and what is written of them.
use Rattle.std.specs.Prelude.{◌≡◌, ◌≤◌, ℕ, ◌-◌, List, [], ◌∷◌, ◌++◌, take, drop, Bool, true, Some}
use Rattle.std.specs.Char.{encode_utf8}
use Rattle.json.specs.Json.{Json, Items, Members}
use Rattle.json.specs.Lex.{Lexeme, lex, between, in_string}
use Rattle.json.specs.Text.{content, plain, prepend}
use Rattle.json.specs.Word.{ends_word}
use Rattle.json.specs.Print.{escape, quoted, print}
use Rattle.json.specs.Tree.{depth, items_depth, members_depth, items_tokens, members_tokens, HasNumbers, ItemsHaveNumbers, MembersHaveNumbers}
use Rattle.json_texts.specs.Standing.{Stands}
use Rattle.json_texts.specs.Texts.{json_text}

-- A part of a string in which each escape is the shortest. Readers of strings go on behind it.
pub record HasShortest (text : List ℕ) (from end : ℕ) : Type 0 where
  pub bytes : List ℕ
  pub stands : Stands text from (escape bytes) end
  pub content : content plain (drop from text) ≡ prepend bytes (content plain (drop end text))
  pub lexed : lex in_string (drop from text) ≡ lex in_string (drop end text)

-- A part of a string, and behind what was written before its shortest form. Readers of strings go on behind it.
pub record HasCompactPart (text : List ℕ) (from : ℕ) (before after : List ℕ) (end : ℕ) : Type 0 where
  pub bytes : List ℕ
  pub content : content plain (drop from text) ≡ prepend bytes (content plain (drop end text))
  pub lexed : lex in_string (drop from text) ≡ lex in_string (drop end text)
  pub written : after ≡ before ++ escape bytes

-- an escape of a character that stands for itself
pub record HasLongEscape (text : List ℕ) (at character end : ℕ) : Type 0 where
  pub content : content plain (drop at text) ≡ prepend (encode_utf8 character) (content plain (drop end text))
  pub lexed : lex in_string (drop at text) ≡ lex in_string (drop end text)
  pub itself : escape (encode_utf8 character) ≡ encode_utf8 character

-- The rest of a string, after its first quote: behind what was written before stands its shortest form, with the last quote.
pub record HasCompactString (text : List ℕ) (from : ℕ) (before after : List ℕ) (end : ℕ) : Type 0 where
  pub bytes : List ℕ
  pub content : content plain (drop from text) ≡ Some bytes
  pub lexed : lex in_string (drop from text) ≡ lex between (drop end text)
  pub written : after ≡ before ++ (escape bytes ++ 34 ∷ [])

-- a number or a literal, which is read as one lexeme where nothing behind it could belong to it
pub record HasWord (text : List ℕ) (from end : ℕ) : Type 0 where
  pub word : List ℕ
  pub lexeme : Lexeme
  pub stands : Stands text from word end
  pub reads : (rest : List ℕ) → ends_word rest ≡ true → lex between (word ++ rest) ≡ lexeme ∷ lex between rest

-- behind what was written stand the bytes of the text from one place to another
abbrev pub With : List ℕ → List ℕ → ℕ → ℕ → List ℕ
With out text from end = out ++ take (end - from) (drop from text)

-- What is written is read as the text up to there. Behind a word only what ends it may be written.
pub record ReadsSame (text written : List ℕ) (at : ℕ) (after_word : Bool) : Type 0 where
  pub lexemes : List Lexeme
  pub behind : lex between text ≡ lexemes ++ lex between (drop at text)
  pub reads : (rest : List ℕ) → (after_word ≡ true → ends_word rest ≡ true) → lex between (written ++ rest) ≡ lexemes ++ lex between rest

-- behind what was written before, the compact text of a value was written
pub record HasWrittenValue (levels : ℕ) (before after : List ℕ) : Type 0 where
  pub value : Json
  pub numbers : HasNumbers value
  pub nests : depth value ≤ levels
  pub written : after ≡ before ++ json_text value

-- the rest of an array, after its first bracket
pub record HasWrittenItems (levels : ℕ) (before after : List ℕ) : Type 0 where
  pub items : Items
  pub numbers : ItemsHaveNumbers items
  pub nests : items_depth items ≤ levels
  pub written : after ≡ before ++ print (items_tokens items)

-- the rest of an object, after its first brace
pub record HasWrittenMembers (levels : ℕ) (before after : List ℕ) : Type 0 where
  pub members : Members
  pub numbers : MembersHaveNumbers members
  pub nests : members_depth members ≤ levels
  pub written : after ≡ before ++ print (members_tokens members)

-- a name, and the colon after it
pub record HasWrittenName (before after : List ℕ) : Type 0 where
  pub name : List ℕ
  pub written : after ≡ before ++ (quoted name ++ 58 ∷ [])
