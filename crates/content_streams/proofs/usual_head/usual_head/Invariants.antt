use Rattle.std.proofs.Common.{◌≡◌, ◌-◌, ◌≤◌, length, drop}
use Rattle.content_streams.specs.Inner.Heads.{head_bytes}
use Rattle.content_streams.specs.declared.under_way.HeadStage.TheVariants.{LineStart, Line}
use Rattle.content_streams.proofs.HeadSteps.{behind}
use Rattle.content_streams.proofs.usual_head.usual_head.Given as goal

-- the bytes so far, and those of the head behind them
abbrev pub invariant-loop-at : goal.invariant-loop-at
invariant-loop-at l = record {
  within : l.at ≤ length l.bytes;
  are : head_bytes LineStart l.bytes ≡ behind l.at (head_bytes Line (drop l.at l.bytes));
}

abbrev pub decreases-loop-at : goal.decreases-loop-at
decreases-loop-at l = length l.bytes - l.at
