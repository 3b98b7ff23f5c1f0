-- What one line of a head says, in the order of the checks (LSP 3.17, "Base Protocol", "Header Part").
use Rattle.std.specs.Prelude.{ℕ, ◌-◌, Bool, false, ◌||◌, List, [], ◌∷◌, length, take, Option, Some, None, Result, Ok, Err, nat_lt, ◌==◌, if◌then◌else◌, codes, slice_index}
use Rattle.lsp_frames.specs.Fields.{field_of, is_named, length_of, is_long_number, is_foreign}
use Rattle.lsp_frames.specs.declared.frame.FrameFault.{FrameFault}
use Rattle.lsp_frames.specs.declared.frame.FrameFault.TheVariants.{BadHead, BadLength, TwoLengths, TooLarge, NoLength, LongLength}
use Rattle.lsp_frames.specs.declared.line.Fields.{Fields}
use Rattle.lsp_frames.specs.declared.line.Line.{Line}
use Rattle.lsp_frames.specs.declared.line.Line.TheVariants.{More, End, Fault}

-- before a head's first line
abbrev pub no_fields : Fields
no_fields = record { content_length = None; foreign = false }

-- what is wrong with a `Content-Length` that isn't read
abbrev pub length_fault : Bool → FrameFault
length_fault is_long = if is_long then LongLength else BadLength

-- a `Content-Length` that is read as this number, or as none
abbrev pub with_length : ℕ → Fields → Bool → Option ℕ → Result Fields FrameFault
with_length limit fields is_long None = Err (length_fault is_long)
with_length limit fields is_long (Some n) = if nat_lt limit n then Err TooLarge else Ok (record fields { content_length = Some n })

-- a `Content-Length` after the lines before it
abbrev pub fields_with_length : ℕ → Fields → Option ℕ → List ℕ → Result Fields FrameFault
fields_with_length limit fields (Some before) value = Err TwoLengths
fields_with_length limit fields None value = with_length limit fields (is_long_number value) (length_of value)

abbrev pub fields_with : ℕ → Fields → Option (List ℕ × List ℕ) → Result Fields FrameFault
fields_with limit fields None = Err BadHead
fields_with limit fields (Some (name, value)) =
    if is_named name (codes "Content-Length") then fields_with_length limit fields fields.content_length value
    else (if is_named name (codes "Content-Type") then Ok (record fields { foreign = fields.foreign || is_foreign value }) else Ok fields)

-- what a line `name:value` adds to the lines before it, or the first of its faults
unfoldable pub fields_after : ℕ → Fields → List ℕ → Result Fields FrameFault
fields_after limit fields line = fields_with limit fields (field_of line)

-- the empty line
abbrev pub head_end : Fields → Option ℕ → Line
head_end fields None = Fault NoLength
head_end fields (Some n) = End n fields.foreign

abbrev pub line_of : Result Fields FrameFault → Line
line_of (Ok fields) = More fields
line_of (Err fault) = Fault fault

-- a line without its CR LF
abbrev pub meaning_of : ℕ → Fields → List ℕ → Line
meaning_of limit fields [] = head_end fields fields.content_length
meaning_of limit fields (b ∷ bytes) = line_of (fields_after limit fields (b ∷ bytes))

-- what a line says once its LF has come, after the lines before it: `text` is all of it before the LF
unfoldable pub line_meaning : ℕ → Fields → List ℕ → Line
line_meaning limit fields text = if slice_index text (length text - 1) == 13
    then meaning_of limit fields (take (length text - 1) text) else Fault BadHead
