-- What the owed answers keep.
use Rattle.std.specs.Prelude.{ℕ, List, [], ◌∷◌}
use Rattle.number_windows.specs.declared.number_window.NumberWindow.{NumberWindow}
use Rattle.number_windows.specs.Windows.{IsWindow, window_entries}
use Rattle.number_windows.specs.Numbered.{Below}
use Rattle.owed_answers.specs.Owed.{OwedUnit}

pub record IsOwed (places : ℕ) (owed : NumberWindow OwedUnit) : Type 0 where
  pub window : IsWindow owed
  pub numbered : Below places (window_entries owed)

-- ---- the text of a batch

-- an answer behind this mark, where there is one
abbrev pub behind : ℕ → List ℕ → List ℕ
behind mark [] = []
behind mark (b ∷ bs) = mark ∷ b ∷ bs

-- the mark of the next answer: the first stands behind a bracket, the others behind a comma
abbrev pub next_mark : ℕ → List ℕ → ℕ
next_mark mark [] = mark
next_mark mark (b ∷ bs) = 44
