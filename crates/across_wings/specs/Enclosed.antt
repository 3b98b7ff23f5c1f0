-- How the text of a message begins and ends.
use Rattle.std.specs.Prelude.{◌≡◌, ◌⊎◌, ℕ, List, ◌++◌, codes}

-- It stands in braces, or in brackets.
abbrev pub IsEnclosed : List ℕ → Type 0
IsEnclosed text = (inner : List ℕ) × ((text ≡ codes "{" ++ inner ++ codes "}") ⊎ (text ≡ codes "[" ++ inner ++ codes "]"))
