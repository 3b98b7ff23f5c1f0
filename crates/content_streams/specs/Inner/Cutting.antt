-- What a cutter knows of a stream of lines.
use Rattle.std.specs.Prelude.{ℕ, Bool, Option, Some, None, List, [], ◌∷◌, map, if◌then◌else◌}
use Rattle.lsp_frames.specs.declared.frame.Frame.{Frame}
use Rattle.lsp_frames.specs.declared.frame.FrameFault.{FrameFault}
use Rattle.lsp_frames.specs.declared.frame.FrameFault.TheVariants.{TooLarge}
use Rattle.content_streams.specs.Lines.{parts, ended_lines, without_cr, fits, all_fit, line_contents, placed_line_contents}
use Rattle.content_streams.specs.Streams.{capped, plain}

-- behind the last LF: this much of a line, or some line is too long
pub data LineStanding : Type 0 where
  Within : List ℕ → LineStanding
  Over : LineStanding

pub record LineCutting : Type 0 where
  pub limit : ℕ
  pub standing : LineStanding
  -- where the line under way begins, or the one that is too long
  pub start : ℕ

-- the last of the lines
abbrev pub last_line : List (List ℕ) → List ℕ
last_line [] = []
last_line (line ∷ []) = line
last_line (line ∷ next ∷ lines) = last_line (next ∷ lines)

abbrev pub line_standing : ℕ → List (List ℕ) → LineStanding
line_standing limit lines = if all_fit limit lines then Within (last_line lines) else Over

-- the same of a text
abbrev pub text_standing : ℕ → List ℕ → LineStanding
text_standing limit bytes = line_standing limit (parts bytes)

abbrev pub standing_at : Bool → List ℕ → LineStanding
standing_at is_over line = if is_over then Over else Within line

-- with these bytes of the same line behind
abbrev pub grown : ℕ → List ℕ → LineStanding
grown limit line = if fits limit (without_cr line) then Within line else Over

abbrev pub IsWithin : LineStanding → Type 0
IsWithin (Within line) = Unit {0}
IsWithin Over = ⊥

-- the contents of the lines whose LF has come
abbrev pub ended_contents : ℕ → List ℕ → List Frame
ended_contents limit bytes = map plain (line_contents limit (ended_lines bytes))

-- where the contents of lines begin, whose first begins at `start`
abbrev pub places_from : ℕ → ℕ → List (List ℕ) → List ℕ
places_from limit start lines = map (λ placed. capped placed.0) (placed_line_contents limit start lines)

abbrev pub ended_places : ℕ → List ℕ → List ℕ
ended_places limit bytes = places_from limit 0 (ended_lines bytes)

-- the content of an unfinished line, once the input is closed
abbrev pub last_contents : ℕ → LineStanding → List Frame
last_contents limit (Within line) = map plain (line_contents limit (line ∷ []))
last_contents limit Over = []

abbrev pub line_fault : LineStanding → Option FrameFault
line_fault (Within line) = None
line_fault Over = Some TooLarge
