-- What lists of items hold of one thing, and what laws say of that.
use Rattle.std.specs.Prelude.{◌≡◌, ℕ, ◌==◌, List, [], ◌∷◌, ◌++◌, Some, slice_get, if◌then◌else◌}
use Rattle.connection_history.specs.Answers.{dues, text}
use Rattle.connection_history.specs.History.{Happening, History}
use Rattle.connection_history.specs.Items.{Item, said, answer, said_at}

-- what the host said, in its order
abbrev pub said_in : List Item → List (List ℕ)
said_in [] = []
said_in (said t ∷ items) = t ∷ said_in items
said_in (answer place t ∷ items) = said_in items

abbrev pub said_of : History → List (List ℕ)
said_of [] = []
said_of (h ∷ past) = said_of past ++ said_in (said_at past h)

-- the answers of the unit at this place
abbrev pub answers_of : ℕ → List Item → List (List ℕ)
answers_of place [] = []
answers_of place (said t ∷ items) = answers_of place items
answers_of place (answer i t ∷ items) = if i == place then t ∷ answers_of place items else answers_of place items

-- the places of the units whose answers these are
abbrev pub places_in : List Item → List ℕ
places_in [] = []
places_in (said t ∷ items) = places_in items
places_in (answer place t ∷ items) = place ∷ places_in items

-- The answer of a unit goes out when its last request is answered, or later: what was said until then stands before it.
pub record GoesOutAfter (history : History) (front : List Item) (place : ℕ) (answer_text : List ℕ) : Type 0 where
  pub more : List Happening
  pub past : History
  pub whole : history ≡ more ++ past
  pub due : slice_get (dues past) place ≡ Some (text answer_text)
  pub said : said_in front ≡ said_of past
