use Rattle.std.proofs.Common.{◌≡◌, ◌++◌, drop, option_map}
use Rattle.conversation_reading.specs.Fronts.{front_from, front_of}
use Rattle.conversation_reading.proofs.front.front_of.Given as goal

abbrev pub invariant-loop-byte : goal.invariant-loop-byte
invariant-loop-byte l = option_map (λ f. l.front.items ++ f) (front_from l.closers.items l.place (drop l.byte-index l.text)) ≡ front_of l.text
