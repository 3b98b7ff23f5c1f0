use Rattle.std.proofs.Common.{◌≡◌, ◌++◌, length}
use Rattle.stream_framing.specs.Inner.Cutting.{ended_contents, text_standing}
use Rattle.stream_framing.proofs.line_cutter.cut.Given as goal

-- the contents so far and those of the rest; how the rest stands
abbrev pub invariant-loop-end : goal.invariant-loop-end
invariant-loop-end l = record {
  contents : l.contents.items ++ ended_contents l.limit l.rest ≡ l.initial.contents.items ++ ended_contents l.limit l.bytes;
  standing : text_standing l.limit l.rest ≡ text_standing l.limit l.bytes;
}

abbrev pub decreases-loop-end : goal.decreases-loop-end
decreases-loop-end l = length l.rest
