-- Texts one behind another, bracketed from the left and from the right.
use Rattle.std.proofs.Common.{◌≡◌, ℕ, List, ◌++◌, ◌∙◌, append_assoc}

pub flat_four : (a b c d : List ℕ) → a ++ b ++ c ++ d ≡ a ++ (b ++ (c ++ d))
flat_four a b c d = append_assoc (a ++ b) c d ∙ append_assoc a b (c ++ d)

pub flat_five : (a b c d e : List ℕ) → a ++ b ++ c ++ d ++ e ≡ a ++ (b ++ (c ++ (d ++ e)))
flat_five a b c d e = append_assoc (a ++ b ++ c) d e ∙ flat_four a b c (d ++ e)
