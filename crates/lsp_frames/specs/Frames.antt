-- Frames as whole byte strings (LSP 3.17, "Base Protocol").
use Rattle.std.specs.Prelude.{◌≡◌, ℕ, ◌≤◌, Bool, not, List, [], ◌∷◌, ◌++◌, length, take, drop, Some, Ok, ◌==◌, nat_le, if◌then◌else◌, ◌⊎◌, flat_map, codes, decimal, IsTrue}
use Rattle.std.specs.List.{list_all}
use Rattle.lsp_frames.specs.Lines.{no_fields, fields_after, line_meaning}
use Rattle.lsp_frames.specs.Heads.{HeadRead, Ends, Breaks, Unended, head_at}
use Rattle.lsp_frames.specs.declared.frame.Frame.{Frame}
use Rattle.lsp_frames.specs.declared.frame.FrameFault.{FrameFault}
use Rattle.lsp_frames.specs.declared.frame.FrameFault.TheVariants.{HeadTooLong}
use Rattle.lsp_frames.specs.declared.limits.TheConstants.{LONGEST_HEAD}
use Rattle.lsp_frames.specs.declared.line.Fields.{Fields}
use Rattle.lsp_frames.specs.declared.line.Line.TheVariants.{Fault}

-- lines, each with its CR LF
abbrev pub lines_text : List (List ℕ) → List ℕ
lines_text lines = flat_map (λ line. line ++ codes "\r\n") lines

-- a head: its lines and the empty line
abbrev pub head_text : List (List ℕ) → List ℕ
head_text lines = lines_text lines ++ codes "\r\n"

-- The lines, read one after another from these fields, say those.
abbrev pub Say : ℕ → Fields → List (List ℕ) → Fields → Type 0
Say limit before [] after = before ≡ after
Say limit before (line ∷ lines) after = (next : Fields) × (fields_after limit before line ≡ Ok next) × Say limit next lines after

-- The bytes are a frame: a head of at most 4,096 bytes, whose lines say the length of the content and whether it is
-- foreign, and then the content.
pub record HasForm (limit : ℕ) (bytes : List ℕ) (frame : Frame) : Type 0 where
  pub lines : List (List ℕ)
  pub say : Say limit no_fields lines (record { content_length = Some (length frame.content); foreign = frame.foreign })
  pub short : length (head_text lines) ≤ LONGEST_HEAD
  pub whole : bytes ≡ head_text lines ++ frame.content

-- no byte is an LF
abbrev pub HasNoLf : List ℕ → Type 0
HasNoLf bytes = IsTrue (list_all (λ b. not (b == 10)) bytes)

-- The last line of the text, ended by its LF, shows the fault; the lines before it show none.
pub record ShowsInLine (limit : ℕ) (text : List ℕ) (fault : FrameFault) : Type 0 where
  pub lines : List (List ℕ)
  pub fields : Fields
  pub say : Say limit no_fields lines fields
  pub line : List ℕ
  pub one_line : HasNoLf line
  pub shows : line_meaning limit fields line ≡ Fault fault
  pub short : length text ≤ LONGEST_HEAD
  pub whole : text ≡ lines_text lines ++ line ++ 10 ∷ []

-- The text is 4,096 bytes of lines that show no fault, with no empty line.
pub record IsTooLong (limit : ℕ) (text : List ℕ) : Type 0 where
  pub lines : List (List ℕ)
  pub fields : Fields
  pub say : Say limit no_fields lines fields
  pub part : List ℕ
  pub one_line : HasNoLf part
  pub long : length text ≡ LONGEST_HEAD
  pub whole : text ≡ lines_text lines ++ part

-- The text is the shortest front of a head that shows the fault.
abbrev pub ShowsFault : ℕ → List ℕ → FrameFault → Type 0
ShowsFault limit text fault = ShowsInLine limit text fault ⊎ ((fault ≡ HeadTooLong) × IsTooLong limit text)

-- What stands at the front of some bytes: a frame and the bytes after it, a fault, or less than either.
pub data Front : Type 0 where
  Whole : Frame → List ℕ → Front
  Faulty : FrameFault → Front
  Less : Front

-- the content behind its head, where so many bytes have come
unfoldable pub content_front : ℕ → Bool → List ℕ → Front
content_front n foreign bytes = if nat_le n (length bytes)
    then Whole (record { content = take n bytes; foreign = foreign }) (drop n bytes) else Less

abbrev pub front_of : HeadRead → Front
front_of (Ends n foreign rest) = content_front n foreign rest
front_of (Breaks fault) = Faulty fault
front_of (Unended reading) = Less

-- peels one frame off the front
unfoldable pub front : ℕ → List ℕ → Front
front limit bytes = front_of (head_at limit bytes)

-- the frame that is written for a content
abbrev pub written : List ℕ → List ℕ
written content = codes "Content-Length: " ++ decimal (length content) ++ codes "\r\n\r\n" ++ content
