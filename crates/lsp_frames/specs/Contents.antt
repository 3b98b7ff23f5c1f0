-- The frames of a byte string, and what is left (LSP 3.17, "Base Protocol").
use Rattle.std.specs.Prelude.{◌≡◌, ℕ, List, [], ◌∷◌}
use Rattle.lsp_frames.specs.Frames.{front, Whole, Faulty, Less}
use Rattle.lsp_frames.specs.declared.frame.Frame.{Frame}
use Rattle.lsp_frames.specs.declared.frame.FrameFault.{FrameFault}
use Rattle.lsp_frames.specs.declared.frame.FrameFault.TheVariants.{Truncated}
use Rattle.lsp_frames.specs.declared.frame.End.{End}
use Rattle.lsp_frames.specs.declared.frame.End.TheVariants.{Clean, Fault}

-- What is left behind the last frame: less than a frame, or a fault.
pub data Standing : Type 0 where
  Open : List ℕ → Standing
  Broken : FrameFault → Standing

-- The bytes are these frames one after another, and then what is left.
abbrev pub IsContents : ℕ → List ℕ → List Frame → Standing → Type 0
IsContents limit bytes [] (Open rest) = (front limit bytes ≡ Less) × (rest ≡ bytes)
IsContents limit bytes [] (Broken fault) = front limit bytes ≡ Faulty fault
IsContents limit bytes (frame ∷ frames) standing =
    (rest : List ℕ) × (front limit bytes ≡ Whole frame rest) × IsContents limit rest frames standing

-- how the stream has ended, if no more bytes come
abbrev pub end_of : Standing → End
end_of (Open []) = Clean
end_of (Open (b ∷ bytes)) = Fault Truncated
end_of (Broken fault) = Fault fault
