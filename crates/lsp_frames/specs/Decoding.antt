-- A decoder: its limit, and what it knows of the bytes that are left.
use Rattle.std.specs.Prelude.{◌≡◌, ℕ, List, Result, Ok, Err, Vec, ◌==◌, if◌then◌else◌}
use Rattle.std.specs.declared.alloc.Global.{Global}
use Rattle.lsp_frames.specs.Heads.{HeadRead, Ends, Breaks, Unended, head_at}
use Rattle.lsp_frames.specs.Contents as contents
use Rattle.lsp_frames.specs.Contents.{Standing, IsContents}
use Rattle.lsp_frames.specs.declared.frame.Frame.{Frame}
use Rattle.lsp_frames.specs.declared.frame.FrameFault.{FrameFault}
use Rattle.lsp_frames.specs.declared.frame.FrameFault.TheVariants.{Truncated}
use Rattle.lsp_frames.specs.declared.frame.End.{End}
use Rattle.lsp_frames.specs.declared.frame.End.TheVariants.{Clean, Fault}
use Rattle.lsp_frames.specs.declared.fault.FeedFault.{FeedFault}
use Rattle.lsp_frames.specs.declared.fault.FeedFault.TheVariants.{Memory, Ended}
use Rattle.lsp_frames.specs.declared.limits.TheConstants.{LONGEST_HEAD}

-- What was read of bytes that are less than a frame, or the fault.
pub data Known : Type 0 where
  Open : HeadRead → Known
  Broken : FrameFault → Known

pub record Decoding : Type 0 where
  pub limit : ℕ
  pub standing : Known

-- what is known of what is left
abbrev pub known : ℕ → Standing → Known
known limit (contents.Open rest) = Open (head_at limit rest)
known limit (contents.Broken fault) = Broken fault

-- The decoder stands after these bytes, and has given these frames: it knows of what is left what all of its bytes say.
abbrev pub StandsAfter : Decoding → List ℕ → List Frame → Type 0
StandsAfter decoder bytes frames =
    (left : Standing) × IsContents decoder.limit bytes frames left × (decoder.standing ≡ known decoder.limit left)

-- More bytes may make more frames.
abbrev pub IsOpen : Known → Type 0
IsOpen (Open read) = Unit {0}
IsOpen (Broken fault) = ⊥

-- how the stream has ended, if no more bytes come: clean where a head has all its room
abbrev pub end_known : Known → End
end_known (Open (Unended reading)) = if reading.room == LONGEST_HEAD then Clean else Fault Truncated
end_known (Open (Ends n foreign content)) = Fault Truncated
end_known (Open (Breaks fault)) = Fault Truncated
end_known (Broken fault) = Fault fault

-- A fact for the frames that a feed gives, with a fault or without. At Memory it gives none and takes nothing.
abbrev pub IfFed : Result (Vec Frame Global) FeedFault → (List Frame → Type 0) → Type 0
IfFed (Ok frames) P = P frames.items
IfFed (Err (Ended fault frames)) P = P frames
IfFed (Err Memory) P = Unit {0}

-- A fact for the fault behind which a feed gives no more frames.
abbrev pub IfEnded : Result (Vec Frame Global) FeedFault → (FrameFault → Type 0) → Type 0
IfEnded (Ok frames) P = Unit {0}
IfEnded (Err (Ended fault frames)) P = P fault
IfEnded (Err Memory) P = Unit {0}
