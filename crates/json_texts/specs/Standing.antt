-- Where the parts of compact values stand in a text.
use Rattle.std.specs.Prelude.{◌≡◌, ◌≤◌, ◌||◌, ◌==◌, ℕ, List, [], ◌∷◌, ◌++◌, drop, Bool, false}
use Rattle.json.specs.Json.{Json, Items, Members}
use Rattle.json.specs.Print.{escape, quoted, print_from, IsNumber}
use Rattle.json.specs.Tree.{depth, items_depth, members_depth, items_tokens, members_tokens, HasNumbers, ItemsHaveNumbers, MembersHaveNumbers}
use Rattle.json_texts.specs.Texts.{json_text}

-- this part of the text stands from one place to another
abbrev pub Stands : List ℕ → ℕ → List ℕ → ℕ → Type 0
Stands text from part end = drop from text ≡ part ++ drop end text

-- the rest of a string, after its first quote
pub record HasString (text : List ℕ) (from end : ℕ) : Type 0 where
  pub content : List ℕ
  pub stands : Stands text from (escape content ++ 34 ∷ []) end

-- a name, and the colon after it
pub record HasName (text : List ℕ) (from end : ℕ) : Type 0 where
  pub name : List ℕ
  pub stands : Stands text from (quoted name ++ 58 ∷ []) end

pub record HasNumber (text : List ℕ) (from end : ℕ) : Type 0 where
  pub number : List ℕ
  pub is : IsNumber number
  pub stands : Stands text from number end

pub record HasValue (levels : ℕ) (text : List ℕ) (from end : ℕ) : Type 0 where
  pub value : Json
  pub numbers : HasNumbers value
  pub nests : depth value ≤ levels
  pub stands : Stands text from (json_text value) end

-- the rest of an array, after its first bracket
pub record HasItems (levels : ℕ) (text : List ℕ) (from end : ℕ) : Type 0 where
  pub items : Items
  pub numbers : ItemsHaveNumbers items
  pub nests : items_depth items ≤ levels
  pub stands : Stands text from (print_from false (items_tokens items)) end

-- the rest of an object, after its first brace
pub record HasMembers (levels : ℕ) (text : List ℕ) (from end : ℕ) : Type 0 where
  pub members : Members
  pub numbers : MembersHaveNumbers members
  pub nests : members_depth members ≤ levels
  pub stands : Stands text from (print_from false (members_tokens members)) end

-- the letters of the escapes that have one
abbrev pub is_escape_letter : ℕ → Bool
is_escape_letter x = (x == 34) || (x == 92) || (x == 98) || (x == 102) || (x == 110) || (x == 114) || (x == 116)
