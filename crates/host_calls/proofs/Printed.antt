-- The text of one token.
use Rattle.std.proofs.Common.{◌≡◌, ℕ, List, [], ◌∷◌}
use Rattle.std.proofs.lemmas.List.{append-nil}
use Rattle.json.specs.Token as token
use Rattle.json.specs.Print.{print, print_from, quoted}

pub print-string : (s : List ℕ) → print (token.string s ∷ []) ≡ quoted s
unfolding print_from
print-string s = append-nil (quoted s)
