-- What the bytes of a stream hold, and how texts are written, in each framing.
use Rattle.std.specs.Prelude.{◌≡◌, ℕ, List, [], ◌∷◌, ◌++◌}
use Rattle.lsp_frames.specs.Contents.{Standing, IsContents}
use Rattle.lsp_frames.specs.Contents as contents
use Rattle.lsp_frames.specs.Decoding.{known}
use Rattle.lsp_frames.specs.Devices.{Ending, Unfinished, Finished, Failed}
use Rattle.lsp_frames.specs.Frames.{written}
use Rattle.lsp_frames.specs.declared.frame.Frame.{Frame}
use Rattle.stream_framing.specs.Lines.{HoldsLines}
use Rattle.stream_framing.specs.declared.cutter.Cutter.{Cutter}
use Rattle.stream_framing.specs.declared.cutter.Cutter.TheVariants as cutters
use Rattle.stream_framing.specs.declared.framing.Framing.{Framing}
use Rattle.stream_framing.specs.declared.framing.Framing.TheVariants.{Frames, Lines}

-- ---- what comes

-- The bytes hold these contents, and this is left behind them.
abbrev pub Holds : Framing → ℕ → List ℕ → List Frame → Standing → Type 0
Holds Frames limit bytes frames standing = IsContents limit bytes frames standing
Holds Lines limit bytes frames standing = HoldsLines limit bytes frames standing

-- The text that is read of an input that came to this ending. Where it was closed, its last line needs no LF: one ends it.
abbrev pub read_text : Framing → Ending → List ℕ → List ℕ
read_text Frames ending bytes = bytes
read_text Lines Unfinished bytes = bytes
read_text Lines Failed bytes = bytes
read_text Lines Finished bytes = bytes ++ 10 ∷ []

-- ---- what goes out

-- a text as it is written: in a frame of its own, or as a line with its LF
abbrev pub framed : Framing → List ℕ → List ℕ
framed Frames text = written text
framed Lines text = text ++ 10 ∷ []

-- ---- a cutter

abbrev pub framing_of : Cutter → Framing
framing_of (cutters.Frames decoder) = Frames
framing_of (cutters.Lines cutter) = Lines

abbrev pub limit_of : Cutter → ℕ
limit_of (cutters.Frames decoder) = decoder.limit
limit_of (cutters.Lines cutter) = cutter.limit

-- It knows what is left: of frames what all of its bytes say, of lines the bytes themselves.
abbrev pub Knows : Cutter → Standing → Type 0
Knows (cutters.Frames decoder) left = decoder.standing ≡ known decoder.limit left
Knows (cutters.Lines cutter) left = cutter.standing ≡ left

-- It stands after these bytes, and has given these contents.
abbrev pub StandsBehind : Cutter → List ℕ → List Frame → Type 0
StandsBehind cutter bytes frames =
    (left : Standing) × Holds (framing_of cutter) (limit_of cutter) bytes frames left × Knows cutter left

-- More bytes may make more contents.
abbrev pub IsOpenLeft : Standing → Type 0
IsOpenLeft (contents.Open rest) = Unit {0}
IsOpenLeft (contents.Broken fault) = ⊥
