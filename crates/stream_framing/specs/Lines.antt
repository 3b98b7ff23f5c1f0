-- Whole lines: only an LF cuts, and only empty lines are passed over. A CR belongs to its line.
use Rattle.std.specs.Prelude.{◌≡◌, ℕ, Bool, true, false, not, List, [], ◌∷◌, map, filter, take_while, if◌then◌else◌}
use Rattle.std.specs.List.{list_all}
use Rattle.lsp_frames.specs.Contents.{Standing, Open, Broken}
use Rattle.lsp_frames.specs.Frames.{HasNoLf}
use Rattle.lsp_frames.specs.declared.frame.Frame.{Frame}
use Rattle.lsp_frames.specs.declared.frame.FrameFault.TheVariants.{TooLarge}
use Rattle.content_streams.specs.Lines.{parts, ended_lines, fits}
use Rattle.content_streams.specs.Streams.{plain}
use Rattle.content_streams.specs.Inner.Cutting.{last_line}

abbrev pub is_empty : List ℕ → Bool
is_empty [] = true
is_empty (b ∷ bytes) = false

-- no line is too long, whether its LF has come or not
unfoldable pub all_fit : ℕ → List (List ℕ) → Bool
all_fit limit lines = list_all (fits limit) lines

-- the contents of the lines before the first that is too long
unfoldable pub whole_contents : ℕ → List (List ℕ) → List Frame
whole_contents limit lines = map plain (filter (λ line. not (is_empty line)) (take_while (fits limit) lines))

-- what is left behind the last LF: that much of a line; or a line was too long
abbrev pub line_standing : ℕ → List (List ℕ) → Standing
line_standing limit lines = if all_fit limit lines then Open (last_line lines) else Broken TooLarge

-- The bytes hold these contents, of the lines whose LF has come, and this is left.
abbrev pub HoldsLines : ℕ → List ℕ → List Frame → Standing → Type 0
HoldsLines limit bytes frames standing =
    (frames ≡ whole_contents limit (ended_lines bytes)) × (standing ≡ line_standing limit (parts bytes))

-- The text is a line: it has a byte and no LF, and isn't too long.
pub record IsLine (limit : ℕ) (text : List ℕ) : Type 0 where
  pub one : HasNoLf text
  pub some : is_empty text ≡ false
  pub short : fits limit text ≡ true
