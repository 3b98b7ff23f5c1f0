-- Frames that stand behind one another in one block of memory.
use Rattle.std.specs.Prelude.{ℕ, ◌+◌, List, [], ◌∷◌, take, drop}
use Rattle.lsp_frames.specs.declared.frame.Frame.{Frame}
use Rattle.lsp_frames.specs.declared.frames.Content.{Content}
use Rattle.lsp_frames.specs.declared.frames.Size.{Size}

abbrev pub frame_of_content : Content → Frame
frame_of_content content = record { content = content.bytes.now; foreign = content.foreign }

-- how many bytes contents of these sizes have
abbrev pub total : List Size → ℕ
total [] = 0
total (size ∷ sizes) = size.bytes + total sizes

-- the frames whose contents are these bytes, one behind the other
abbrev pub frames_by : List ℕ → List Size → List Frame
frames_by bytes [] = []
frames_by bytes (size ∷ sizes) = record { content = take size.bytes bytes; foreign = size.foreign } ∷ frames_by (drop size.bytes bytes) sizes
