use Rattle.std.proofs.Common.{◌≡◌, ◌++◌, length}
use Rattle.lsp_frames.proofs.frames.Frames.append.Given as goal

-- Some have moved.
abbrev pub invariant-loop-content : goal.invariant-loop-content
invariant-loop-content l = record { moved : l.self ++ l.other ≡ l.initial.self ++ l.initial.other }

abbrev pub decreases-loop-content : goal.decreases-loop-content
decreases-loop-content l = length l.other
