-- Contents that have the same JSON values.
use Rattle.std.specs.Prelude.{◌≡◌, ℕ, false, List, [], ◌∷◌, Some, ⊤}
use Rattle.conversation_reading.specs.declared.reading.TheConstants.{MOST_DEPTH_IN}
use Rattle.json.specs.Json.{Json}
use Rattle.json_texts.specs.Texts.{value_of}
use Rattle.lsp_frames.specs.declared.frame.Frame.{Frame}

-- two contents at one place, which can be read, and are spellings of one value
pub record HasSameValue (content other : ℕ × Frame) : Type 0 where
  pub value : Json
  pub place : content.0 ≡ other.0
  pub read : content.1.foreign ≡ false
  pub other_read : other.1.foreign ≡ false
  pub is : value_of MOST_DEPTH_IN content.1.content ≡ Some value
  pub other_is : value_of MOST_DEPTH_IN other.1.content ≡ Some value

abbrev pub HaveSameValues : List (ℕ × Frame) → List (ℕ × Frame) → Type 0
HaveSameValues [] [] = ⊤
HaveSameValues [] (other ∷ others) = ⊥
HaveSameValues (content ∷ contents) [] = ⊥
HaveSameValues (content ∷ contents) (other ∷ others) = HasSameValue content other × HaveSameValues contents others
