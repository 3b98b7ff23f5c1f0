-- A stream: what it was fed, and the contents and the end that are read of that.
use Rattle.std.specs.Prelude.{ℕ, ◌-◌, ◌^◌, min, false, List, Option, Some, None, map, take_while, slice_get, if◌then◌else◌}
use Rattle.std.specs.List.{list_all, concat}
use Rattle.lsp_frames.specs.Contents as frames
use Rattle.lsp_frames.specs.Contents.{Standing}
use Rattle.lsp_frames.specs.declared.frame.End.{End}
use Rattle.lsp_frames.specs.declared.frame.End.TheVariants as ends
use Rattle.lsp_frames.specs.declared.frame.Frame.{Frame}
use Rattle.lsp_frames.specs.declared.frame.FrameFault.{FrameFault}
use Rattle.lsp_frames.specs.declared.frame.FrameFault.TheVariants.{TooLarge}
use Rattle.content_streams.specs.Framed.{frames_of, standing_of, placed_frames, place_of_rest}
use Rattle.content_streams.specs.Lines.{parts, ended_lines, fits, all_fit, line_contents, placed_texts, place_behind, placed_line_contents, line_place}
use Rattle.content_streams.specs.declared.ending.HowEnded.{HowEnded}
use Rattle.content_streams.specs.declared.ending.HowEnded.TheVariants as how
use Rattle.content_streams.specs.declared.ending.StreamEnd.{StreamEnd}
use Rattle.content_streams.specs.declared.ending.StreamEnd.TheVariants.{Clean, Fault, ReadFailed}
use Rattle.content_streams.specs.declared.framing.Framing.{Framing}
use Rattle.content_streams.specs.declared.framing.Framing.TheVariants.{Frames, Lines, Contents}

-- The pieces that a stream was fed, what the host has said of their end, and how many of the contents were taken.
pub record Stream : Type 0 where
  pub framing : Framing
  pub limit : ℕ
  pub pieces : List (List ℕ)
  pub ended : Option HowEnded
  pub taken : ℕ

abbrev pub joined : List (List ℕ) → List ℕ
joined pieces = concat pieces

-- a content that has no head
abbrev pub plain : List ℕ → Frame
plain content = record { content = content; foreign = false }

-- The lines that are read: those whose LF has come. The last one needs no LF where the input was closed.
abbrev pub lines_read : Option HowEnded → List ℕ → List (List ℕ)
lines_read None bytes = ended_lines bytes
lines_read (Some how.ReadFailed) bytes = ended_lines bytes
lines_read (Some how.Closed) bytes = parts bytes

-- the contents of a stream
abbrev pub contents_of : Framing → ℕ → List (List ℕ) → Option HowEnded → List Frame
contents_of Frames limit pieces ended = frames_of limit (joined pieces)
contents_of Lines limit pieces ended = map plain (line_contents limit (lines_read ended (joined pieces)))
contents_of Contents limit pieces ended = map plain (take_while (fits limit) pieces)

-- the fault that frames have shown
abbrev pub fault_left : Standing → Option FrameFault
fault_left (frames.Open rest) = None
fault_left (frames.Broken fault) = Some fault

-- the fault that a stream has shown
abbrev pub fault_of : Framing → ℕ → List (List ℕ) → Option FrameFault
fault_of Frames limit pieces = fault_left (standing_of limit (joined pieces))
fault_of Lines limit pieces = if all_fit limit (parts (joined pieces)) then None else Some TooLarge
fault_of Contents limit pieces = if list_all (fits limit) pieces then None else Some TooLarge

abbrev pub stream_end : End → StreamEnd
stream_end ends.Clean = Clean
stream_end (ends.Fault fault) = Fault fault

-- how a stream ends that is closed before it has shown a fault: frames may end inside one
abbrev pub closed_end : Framing → ℕ → List (List ℕ) → StreamEnd
closed_end Frames limit pieces = stream_end (frames.end_of (standing_of limit (joined pieces)))
closed_end Lines limit pieces = Clean
closed_end Contents limit pieces = Clean

abbrev pub end_at : Option FrameFault → Option HowEnded → StreamEnd → Option StreamEnd
end_at (Some fault) ended closed = Some (Fault fault)
end_at None None closed = None
end_at None (Some how.ReadFailed) closed = Some ReadFailed
end_at None (Some how.Closed) closed = Some closed

-- How a stream has ended: by the first fault that it has shown, or else as the host has said.
abbrev pub end_of : Framing → ℕ → List (List ℕ) → Option HowEnded → Option StreamEnd
end_of framing limit pieces ended = end_at (fault_of framing limit pieces) ended (closed_end framing limit pieces)

-- ---- places: offsets from the first byte that was fed, from 0

abbrev pub plain_at : ℕ × List ℕ → ℕ × Frame
plain_at placed = (placed.0, plain placed.1)

-- the contents of a stream, each with the offset of its first byte
abbrev pub placed_contents_of : Framing → ℕ → List (List ℕ) → Option HowEnded → List (ℕ × Frame)
placed_contents_of Frames limit pieces ended = placed_frames limit (joined pieces)
placed_contents_of Lines limit pieces ended = map plain_at (placed_line_contents limit 0 (lines_read ended (joined pieces)))
placed_contents_of Contents limit pieces ended = map plain_at (take_while (λ placed. fits limit placed.1) (placed_texts 0 0 pieces))

-- Where the first begins of what gave no content yet: a frame that isn't whole or is at fault, a line that is too long or
-- whose LF hasn't come, a content that is too large.
abbrev pub place_left : Framing → ℕ → List (List ℕ) → ℕ
place_left Frames limit pieces = place_of_rest limit (joined pieces)
place_left Lines limit pieces = line_place limit 0 (ended_lines (joined pieces))
place_left Contents limit pieces = place_behind (fits limit) 0 0 pieces

abbrev pub place_at_fault : Option StreamEnd → ℕ → Option ℕ
place_at_fault None place = None
place_at_fault (Some Clean) place = None
place_at_fault (Some (Fault fault)) place = Some place
place_at_fault (Some ReadFailed) place = None

-- Where a stream that has ended by a fault has the frame, line or content at fault: the offset of its first byte.
abbrev pub fault_place_of : Framing → ℕ → List (List ℕ) → Option HowEnded → Option ℕ
fault_place_of framing limit pieces ended = place_at_fault (end_of framing limit pieces ended) (place_left framing limit pieces)

-- an offset as it is told, in 64 bits
abbrev pub capped : ℕ → ℕ
capped place = min place (2 ^ 64 - 1)

abbrev pub capped_places : List (ℕ × Frame) → List ℕ
capped_places contents = map (λ placed. capped placed.0) contents

-- of a stream: its contents, the next that wasn't taken, and how it has ended
abbrev pub contents : Stream → List Frame
contents stream = contents_of stream.framing stream.limit stream.pieces stream.ended

abbrev pub next_content : Stream → Option Frame
next_content stream = slice_get (contents stream) stream.taken

abbrev pub close_of : Stream → Option StreamEnd
close_of stream = end_of stream.framing stream.limit stream.pieces stream.ended

-- the same with places
abbrev pub placed_contents : Stream → List (ℕ × Frame)
placed_contents stream = placed_contents_of stream.framing stream.limit stream.pieces stream.ended

abbrev pub next_placed : Stream → Option (ℕ × Frame)
next_placed stream = slice_get (placed_contents stream) stream.taken

abbrev pub fault_place : Stream → Option ℕ
fault_place stream = fault_place_of stream.framing stream.limit stream.pieces stream.ended
