-- Worked rows: small messages, and what they are.
use Rattle.std.specs.Prelude.{ℕ, List, [], ◌∷◌, codes}
use Rattle.json.specs.Json.{Json, number, string, object, Members, no_members, member}

abbrev pub members_of : List (List ℕ × Json) → Members
members_of [] = no_members
members_of (m ∷ ms) = member m.0 m.1 (members_of ms)

-- an object of these members, with `"jsonrpc":"2.0"` before them
abbrev pub message : List (List ℕ × Json) → Json
message ms = object (members_of ((codes "jsonrpc", string (codes "2.0")) ∷ ms))

abbrev pub method : List ℕ × Json
method = (codes "method", string (codes "a"))

-- an id of these digits
abbrev pub id : List ℕ → List ℕ × Json
id digits = (codes "id", number digits)

abbrev pub outcome : List ℕ × Json
outcome = (codes "result", object no_members)

-- an error with this code
abbrev pub failure : List ℕ → List ℕ × Json
failure code = (codes "error", object (members_of ((codes "code", number code) ∷ (codes "message", string (codes "m")) ∷ [])))
