-- What is known of the frame under way beside its decoder: where it began, and how far its bytes have come.
use Rattle.std.specs.Prelude.{◌≡◌, ℕ, ◌+◌, ◌-◌, ◌^◌, ◌<◌, List, [], ◌∷◌, length, drop, ◌==◌, if◌then◌else◌}
use Rattle.lsp_frames.specs.Contents.{Standing, Open, Broken}
use Rattle.lsp_frames.specs.declared.frame.Frame.{Frame}
use Rattle.content_streams.specs.Streams.{capped}
use Rattle.content_streams.specs.declared.under_way.HeadStage.{HeadStage}
use Rattle.content_streams.specs.declared.under_way.HeadStage.TheVariants.{LineStart, Cr, Line, Whole}
use Rattle.content_streams.specs.declared.under_way.UnderWay.{UnderWay}

-- a head's stage behind one byte more
abbrev pub stage_after : HeadStage → ℕ → HeadStage
stage_after LineStart b = if b == 10 then LineStart else (if b == 13 then Cr else Line)
stage_after Cr b = if b == 10 then Whole else Line
stage_after Line b = if b == 10 then LineStart else Line
stage_after Whole b = Whole

-- a byte in front of so many bytes of a head
abbrev pub in_front : HeadStage → ℕ × HeadStage → ℕ × HeadStage
in_front LineStart head = (head.0 + 1, head.1)
in_front Cr head = (head.0 + 1, head.1)
in_front Line head = (head.0 + 1, head.1)
in_front Whole head = (0, Whole)

-- how many of these bytes the head under way has, and its stage behind them
abbrev pub head_bytes : HeadStage → List ℕ → ℕ × HeadStage
head_bytes stage [] = (0, stage)
head_bytes stage (b ∷ bytes) = in_front stage (head_bytes (stage_after stage b) bytes)

-- the frame that begins here
abbrev pub at_start : ℕ → UnderWay
at_start start = record { start = start; head_end = start; stage = LineStart; content = 0 }

-- the same with these bytes more, that don't complete it
abbrev pub with_bytes : UnderWay → List ℕ → UnderWay
with_bytes under bytes =
    let head = head_bytes under.stage bytes in
    record under {
      head_end = capped (under.head_end + head.0);
      stage = head.1;
      content = capped (under.content + (length bytes - head.0));
    }

-- Where the content of so many bytes begins, whose last are among these, and what is behind it.
abbrev pub content_place : UnderWay → List ℕ → ℕ
content_place under bytes = capped (under.head_end + (head_bytes under.stage bytes).0)

abbrev pub behind_content : UnderWay → ℕ → List ℕ → List ℕ
behind_content under size bytes = drop (size - under.content) (drop (head_bytes under.stage bytes).0 bytes)

-- the places of the contents of these frames, which the bytes complete, and what is under way behind them
abbrev pub followed : UnderWay → List ℕ → List Frame → List ℕ × UnderWay
followed under bytes [] = ([], with_bytes under bytes)
followed under bytes (frame ∷ frames) =
    let place = content_place under bytes in
    let size = length frame.content in
    let others = followed (at_start (capped (place + size))) (behind_content under size bytes) frames in
    (place ∷ others.0, others.1)

-- what is under way of a frame that begins here, of which these bytes have come
abbrev pub seen : ℕ → List ℕ → UnderWay
seen start bytes = with_bytes (at_start (capped start)) bytes

-- What is left begins here.
abbrev pub StandsAt : UnderWay → ℕ → Standing → Type 0
StandsAt under place (Open left) = under ≡ seen place left
StandsAt under place (Broken fault) = under.start ≡ capped place

-- The contents have no more bytes than a usize counts.
abbrev pub SmallFrames : List Frame → Type 0
SmallFrames [] = Unit {0}
SmallFrames (frame ∷ frames) = (length frame.content < 2 ^ 64) × SmallFrames frames
