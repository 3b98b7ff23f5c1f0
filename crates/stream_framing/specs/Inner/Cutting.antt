-- What a cutter of lines knows.
use Rattle.std.specs.Prelude.{ℕ, Bool, List, [], ◌∷◌, if◌then◌else◌}
use Rattle.lsp_frames.specs.Contents.{Standing, Open, Broken}
use Rattle.lsp_frames.specs.declared.frame.Frame.{Frame}
use Rattle.lsp_frames.specs.declared.frame.FrameFault.TheVariants.{TooLarge}
use Rattle.content_streams.specs.Lines.{parts, ended_lines, fits}
use Rattle.stream_framing.specs.Lines.{line_standing, whole_contents}

pub record LineCutting : Type 0 where
  pub limit : ℕ
  pub standing : Standing

abbrev pub standing_at : Bool → List ℕ → Standing
standing_at is_over line = if is_over then Broken TooLarge else Open line

-- with these bytes of the same line
abbrev pub grown : ℕ → List ℕ → Standing
grown limit line = if fits limit line then Open line else Broken TooLarge

abbrev pub IsWithin : Standing → Type 0
IsWithin (Open line) = Unit {0}
IsWithin (Broken fault) = ⊥

-- the contents of the lines whose LF has come
abbrev pub ended_contents : ℕ → List ℕ → List Frame
ended_contents limit bytes = whole_contents limit (ended_lines bytes)

abbrev pub text_standing : ℕ → List ℕ → Standing
text_standing limit bytes = line_standing limit (parts bytes)

-- the content of a whole line
abbrev pub line_content : ℕ → List ℕ → List Frame
line_content limit line = whole_contents limit (line ∷ [])
