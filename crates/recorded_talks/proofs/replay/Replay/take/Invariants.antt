-- What is left of the piece becomes less by a line.
use Rattle.std.proofs.Common.{ℕ, List, [], ◌++◌, length}
use Rattle.conversation_rules.specs.declared.finding.Finding.{Finding}
use Rattle.recorded_talks.specs.Replays.{Replays}
use Rattle.recorded_talks.specs.declared.options.TalkOptions.{TalkOptions}
use Rattle.recorded_talks.proofs.replay.Replay.take.Given as goal

abbrev pub invariant-loop-end : goal.invariant-loop-end
invariant-loop-end l = (options : TalkOptions) (text : List ℕ) (told : List Finding) → Replays options text [] told l.initial.self → Replays options (text ++ l.piece) l.left told l.self

abbrev pub decreases-loop-end : goal.decreases-loop-end
decreases-loop-end l = length l.left
