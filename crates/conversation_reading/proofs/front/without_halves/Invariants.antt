use Rattle.std.proofs.Common.{◌≡◌, ◌++◌, drop}
use Rattle.conversation_reading.specs.Fronts.{without_halves}
use Rattle.conversation_reading.proofs.front.without_halves.Given as goal

abbrev pub invariant-loop-byte : goal.invariant-loop-byte
invariant-loop-byte l = l.whole.items ++ without_halves l.seen (drop l.byte-index l.text) ≡ without_halves 0 l.text
