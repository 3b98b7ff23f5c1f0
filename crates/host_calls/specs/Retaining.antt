-- What a call leaves as it is: what was fed and not read stays, and so does what is written and not taken.
use Rattle.std.specs.Prelude.{◌≡◌}
use Rattle.connection.specs.Connections.{Connection, SamePieces, output}

-- The settings, all that was fed and how much of it was read, and how much of the output was taken are the same.
abbrev pub Retains : Connection → Connection → Type 0
Retains c d = (d.settings ≡ c.settings) × (d.stream ≡ c.stream) × ((output d).taken ≡ (output c).taken)

-- The same, but more of what was fed may have been read.
abbrev pub RetainsPieces : Connection → Connection → Type 0
RetainsPieces c d = (d.settings ≡ c.settings) × SamePieces c.stream d.stream × ((output d).taken ≡ (output c).taken)
