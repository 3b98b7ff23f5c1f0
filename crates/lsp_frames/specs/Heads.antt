-- A head, read byte by byte (LSP 3.17, "Base Protocol", "Header Part").
use Rattle.std.specs.Prelude.{ℕ, ◌-◌, Bool, List, [], ◌∷◌, ◌++◌, nat_le, ◌==◌, if◌then◌else◌}
use Rattle.lsp_frames.specs.Lines.{no_fields, line_meaning}
use Rattle.lsp_frames.specs.declared.frame.FrameFault.{FrameFault}
use Rattle.lsp_frames.specs.declared.frame.FrameFault.TheVariants.{HeadTooLong}
use Rattle.lsp_frames.specs.declared.limits.TheConstants.{LONGEST_HEAD}
use Rattle.lsp_frames.specs.declared.line.Fields.{Fields}
use Rattle.lsp_frames.specs.declared.line.Line.{Line}
use Rattle.lsp_frames.specs.declared.line.Line.TheVariants as lines

-- How far a head was read: the fields of its lines, this much of a line, and room for so many bytes more.
pub record Reading : Type 0 where
  pub fields : Fields
  pub line : List ℕ
  pub room : ℕ

-- A head and the bytes after it, with the content's length and whether it is foreign; a fault; or less than a head.
pub data HeadRead : Type 0 where
  Ends : ℕ → Bool → List ℕ → HeadRead
  Breaks : FrameFault → HeadRead
  Unended : Reading → HeadRead

-- What a byte does: it goes on, with these fields and this much of a line; or it ends the head; or it shows a fault.
pub data Step : Type 0 where
  Goes : Fields → List ℕ → Step
  Completes : ℕ → Bool → Step
  Shows : FrameFault → Step

-- It goes on, where more bytes than this one have room.
abbrev pub within : ℕ → Fields → List ℕ → Step
within room fields line = if nat_le room 1 then Shows HeadTooLong else Goes fields line

-- A line ended by its LF says more fields, the head's end, or a fault.
abbrev pub line_step : ℕ → Line → Step
line_step room (lines.More fields) = within room fields []
line_step room (lines.End n foreign) = Completes n foreign
line_step room (lines.Fault fault) = Shows fault

-- The byte after these fields and this much of a line, where the head has room for so many bytes more.
unfoldable pub step : ℕ → Fields → List ℕ → ℕ → ℕ → Step
step limit fields line room b = if b == 10 then line_step room (line_meaning limit fields line) else within room fields (line ++ b ∷ [])

-- The bytes after these fields and this much of a line.
unfoldable pub head_from : ℕ → Fields → List ℕ → ℕ → List ℕ → HeadRead
head_from limit fields line room [] = Unended (record { fields = fields; line = line; room = room })
head_from limit fields line room (b ∷ bytes) =
    elim (step limit fields line room b) [
      | Goes next more ↦ head_from limit next more (room - 1) bytes
      | Completes n foreign ↦ Ends n foreign bytes
      | Shows fault ↦ Breaks fault
    ]

-- What stands at the front of the bytes, where a head has at most 4,096 bytes with its empty line.
unfoldable pub head_at : ℕ → List ℕ → HeadRead
head_at limit bytes = head_from limit no_fields [] LONGEST_HEAD bytes
