-- The elements of an array, read one by one.
use Rattle.std.proofs.Common.{◌≡◌, List, [], ◌∷◌, ◌++◌, refl, ap}
use Rattle.serde_json.specs.Data.{Data, Items, item}

-- the elements ds before others
abbrev pub elements_before : List Data → Items → Items
elements_before [] rest = rest
elements_before (d ∷ ds) rest = item d (elements_before ds rest)

pub push : (ds : List Data) (d : Data) (rest : Items) → elements_before ds (item d rest) ≡ elements_before (ds ++ d ∷ []) rest
push [] d rest = refl
push (e ∷ ds) d rest = ap (item e) (push ds d rest)
