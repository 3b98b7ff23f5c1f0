-- Which values params may be (JSON-RPC 2.0, section 4.2).
use Rattle.std.specs.Prelude.{ℕ, List, [], ◌∷◌, Bool, false, ◌||◌, ◌==◌}

-- a compact text of an array or an object begins with its bracket
abbrev pub is_structured : List ℕ → Bool
is_structured [] = false
is_structured (b ∷ bytes) = b == 91 || b == 123
