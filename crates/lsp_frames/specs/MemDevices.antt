-- A source and a sink in memory.
use Rattle.std.specs.Prelude.{ℕ, ◌-◌, min, List, [], ◌∷◌, length, drop, Option, Some, None, option_map, Vec, map}
use Rattle.std.specs.List.{flat_map}
use Rattle.std.specs.declared.alloc.Global.{Global}

pub record Giving : Type 0 where
  -- what isn't given yet, piece by piece; the first may have been given in part
  pub pieces : List (List ℕ)
  -- how many calls there are before all fail
  pub calls_left : Option ℕ
  pub failures : ℕ

abbrev pub bytes_of : List (List ℕ) → List ℕ
bytes_of pieces = flat_map (λ piece. piece) pieces

-- from the first piece on that has a byte
abbrev pub from_first_byte : List (List ℕ) → List (List ℕ)
from_first_byte [] = []
from_first_byte ([] ∷ pieces) = from_first_byte pieces
from_first_byte ((b ∷ bytes) ∷ pieces) = (b ∷ bytes) ∷ pieces

abbrev pub first_piece : List (List ℕ) → List ℕ
first_piece [] = []
first_piece (piece ∷ pieces) = piece

-- the pieces without so many bytes of the first
abbrev pub behind_bytes : ℕ → List (List ℕ) → List (List ℕ)
behind_bytes n [] = []
behind_bytes n (piece ∷ pieces) = drop n piece ∷ pieces

-- the pieces from this one on, and this far into it
abbrev pub pieces_from : List (Vec ℕ Global) → ℕ → ℕ → List (List ℕ)
pieces_from pieces at start = behind_bytes start (map (λ piece. piece.items) (drop at pieces))

pub record Taking : Type 0 where
  pub taken : List ℕ
  -- how many bytes it takes in all, and how many at once
  pub stop : Option ℕ
  pub most : Option ℕ
  pub failures : ℕ

abbrev pub at_most : Option ℕ → ℕ → ℕ
at_most None n = n
at_most (Some most) n = min n most

-- how many of so many bytes it takes at once
abbrev pub room_for : Taking → ℕ → ℕ
room_for sink wanted = at_most sink.most (at_most (option_map (λ stop. stop - length sink.taken) sink.stop) wanted)
