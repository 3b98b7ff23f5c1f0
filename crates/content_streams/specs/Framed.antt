-- The frames of a byte string as a function (LSP 3.17, "Base Protocol").
use Rattle.std.specs.Prelude.{ℕ, zero, suc, ◌+◌, ◌-◌, List, [], ◌∷◌, length}
use Rattle.lsp_frames.specs.Contents.{Standing, Open, Broken}
use Rattle.lsp_frames.specs.Frames.{Front, front, Whole, Faulty, Less}
use Rattle.lsp_frames.specs.declared.frame.Frame.{Frame}

-- what stands at the front of the bytes, and the frames behind it
abbrev pub with_front : (List ℕ → List Frame × Standing) → List ℕ → Front → List Frame × Standing
with_front others bytes (Whole frame rest) = (frame ∷ (others rest).0, (others rest).1)
with_front others bytes (Faulty fault) = ([], Broken fault)
with_front others bytes Less = ([], Open bytes)

-- the frames that are peeled off the front one after another, at most so many, and what is left
unfoldable pub peeled : ℕ → ℕ → List ℕ → List Frame × Standing
peeled zero limit bytes = ([], Open bytes)
peeled (suc most) limit bytes = with_front (peeled most limit) bytes (front limit bytes)

-- all frames: each has a byte at least
unfoldable pub frames_of : ℕ → List ℕ → List Frame
frames_of limit bytes = (peeled (length bytes) limit bytes).0

-- what is left behind them
unfoldable pub standing_of : ℕ → List ℕ → Standing
standing_of limit bytes = (peeled (length bytes) limit bytes).1

-- The same with places: each frame with the offset of its content's first byte, and the offset of what is left, where the
-- bytes themselves begin at `start`. A frame ends where the rest begins, and its content is its end.
abbrev pub place_front : (ℕ → List ℕ → List (ℕ × Frame) × ℕ) → ℕ → List ℕ → Front → List (ℕ × Frame) × ℕ
place_front others start bytes (Whole frame rest) =
    let next = start + (length bytes - length rest) in
    ((next - length frame.content, frame) ∷ (others next rest).0, (others next rest).1)
place_front others start bytes (Faulty fault) = ([], start)
place_front others start bytes Less = ([], start)

unfoldable pub placed : ℕ → ℕ → ℕ → List ℕ → List (ℕ × Frame) × ℕ
placed zero limit start bytes = ([], start)
placed (suc most) limit start bytes = place_front (placed most limit) start bytes (front limit bytes)

-- all frames, each with the offset of its content's first byte
unfoldable pub placed_frames : ℕ → List ℕ → List (ℕ × Frame)
placed_frames limit bytes = (placed (length bytes) limit 0 bytes).0

-- where what is left behind them begins
unfoldable pub place_of_rest : ℕ → List ℕ → ℕ
place_of_rest limit bytes = (placed (length bytes) limit 0 bytes).1
