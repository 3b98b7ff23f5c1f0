-- What a stream holds, and what it is read from.
use Rattle.std.specs.Prelude.{◌≡◌, ℕ, false, List, ◌++◌, Option, Some, None, length, not}
use Rattle.std.specs.List.{list_all}
use Rattle.lsp_frames.specs.Decoding.{StandsAfter}
use Rattle.lsp_frames.specs.declared.frame.Frame.{Frame}
use Rattle.lsp_frames.specs.declared.frame.FrameFault.{FrameFault}
use Rattle.lsp_frames.specs.declared.frame.FrameFault.TheVariants.{Truncated}
use Rattle.lsp_frames.specs.declared.frame.End.{End}
use Rattle.lsp_frames.specs.declared.frame.End.TheVariants.{Clean, Fault}
use Rattle.content_streams.specs.Framed.{frames_of, standing_of, place_of_rest}
use Rattle.content_streams.specs.Lines.{ended_lines, fits, line_place, place_behind}
use Rattle.content_streams.specs.Streams.{joined, contents_of, placed_contents_of, capped, capped_places, fault_of}
use Rattle.content_streams.specs.Inner.Cutting.{IsWithin, LineCutting, line_fault, text_standing}
use Rattle.content_streams.specs.Inner.Heads.{StandsAt}
use Rattle.content_streams.specs.Inner.Rows.{row_items, place_items}
use Rattle.content_streams.specs.declared.frames.FrameCutter.{FrameCutter}
use Rattle.content_streams.specs.declared.places.Places.{Places}
use Rattle.content_streams.specs.declared.ending.HowEnded.{HowEnded}
use Rattle.content_streams.specs.declared.cutter.Cutter.{Cutter}
use Rattle.content_streams.specs.declared.cutter.Cutter.TheVariants.{Frames, Lines, Contents}
use Rattle.content_streams.specs.declared.framing.Framing.{Framing}
use Rattle.content_streams.specs.declared.framing.Framing.TheVariants as framings
use Rattle.content_streams.specs.declared.row.Row.{Row}

abbrev pub framing_of : Cutter → Framing
framing_of (Frames cutter) = framings.Frames
framing_of (Lines cutter) = framings.Lines
framing_of (Contents cutter) = framings.Contents

abbrev pub limit_of : Cutter → ℕ
limit_of (Frames cutter) = cutter.decoder.limit
limit_of (Lines cutter) = cutter.limit
limit_of (Contents cutter) = cutter.limit

-- the fault of an end that is more than the end inside a frame
abbrev pub fault_at_end : End → Option FrameFault
fault_at_end Clean = None
fault_at_end (Fault Truncated) = None
fault_at_end (Fault fault) = Some fault

-- It stands behind these bytes, and knows where what is left begins.
abbrev pub FramesStand : FrameCutter → List ℕ → Type 0
FramesStand cutter bytes =
    let limit = cutter.decoder.limit in
    StandsAfter cutter.decoder bytes (frames_of limit bytes) × StandsAt cutter.under_way (place_of_rest limit bytes) (standing_of limit bytes)

abbrev pub LinesStartAt : LineCutting → List ℕ → Type 0
LinesStartAt cutter bytes = cutter.start ≡ capped (line_place cutter.limit 0 (ended_lines bytes))

-- It knows the fault of the pieces, how frames end, and where what is left begins.
abbrev pub Tells : Cutter → List (List ℕ) → Type 0
Tells (Frames cutter) pieces = FramesStand cutter (joined pieces)
Tells (Lines cutter) pieces = (line_fault cutter.standing ≡ fault_of framings.Lines cutter.limit pieces) × LinesStartAt cutter (joined pieces)
Tells (Contents cutter) pieces =
    (cutter.is_over ≡ not (list_all (fits cutter.limit) pieces)) × (cutter.start ≡ capped (place_behind (fits cutter.limit) 0 0 pieces))

-- It knows what is left of the pieces, so that more may come.
abbrev pub Stands : Cutter → List (List ℕ) → Type 0
Stands (Frames cutter) pieces = Tells (Frames cutter) pieces
Stands (Lines cutter) pieces = (cutter.standing ≡ text_standing cutter.limit (joined pieces)) × LinesStartAt cutter (joined pieces)
Stands (Contents cutter) pieces = Tells (Contents cutter) pieces

-- A piece may be fed: no line and no piece was too large. A decoder of frames takes pieces in any case.
abbrev pub MayFeed : Cutter → Type 0
MayFeed (Frames cutter) = Unit {0}
MayFeed (Lines cutter) = IsWithin cutter.standing
MayFeed (Contents cutter) = cutter.is_over ≡ false

-- the contents that the pieces complete
abbrev pub read_by : Cutter → List (List ℕ) → Option HowEnded → List Frame
read_by cutter pieces ended = contents_of (framing_of cutter) (limit_of cutter) pieces ended

-- What is held of a stream: the contents behind those that were taken, and what the next ones are read from.
pub record IsStream (cutter : Cutter) (row : Row) (pieces : List (List ℕ)) (ended : Option HowEnded) (taken : ℕ) : Type 0 where
  pub passed : List Frame
  pub counted : length passed ≡ taken
  pub whole : read_by cutter pieces ended ≡ passed ++ row_items row
  pub tells : Tells cutter pieces
  pub stands : ended ≡ None → Stands cutter pieces
  pub last : ended ≡ None → row.last ≡ None

-- where the contents begin that the pieces complete
abbrev pub places_by : Cutter → List (List ℕ) → Option HowEnded → List ℕ
places_by cutter pieces ended = capped_places (placed_contents_of (framing_of cutter) (limit_of cutter) pieces ended)

-- The same of the places.
pub record IsPlaced (cutter : Cutter) (places : Places) (pieces : List (List ℕ)) (ended : Option HowEnded) (taken : ℕ) : Type 0 where
  pub passed : List ℕ
  pub counted : length passed ≡ taken
  pub whole : places_by cutter pieces ended ≡ passed ++ place_items places
  pub last : ended ≡ None → places.last ≡ None

pub record IsHeld (cutter : Cutter) (row : Row) (places : Places) (pieces : List (List ℕ)) (ended : Option HowEnded) (taken : ℕ) : Type 0 where
  pub stream : IsStream cutter row pieces ended taken
  pub placed : IsPlaced cutter places pieces ended taken
