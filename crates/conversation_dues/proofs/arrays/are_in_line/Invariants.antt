use Rattle.std.proofs.Common.{◌≡◌, drop}
use Rattle.conversation_dues.specs.Left.{are_in_line}
use Rattle.conversation_dues.proofs.arrays.are_in_line.Given as goal

abbrev pub invariant-loop-id : goal.invariant-loop-id
invariant-loop-id l = are_in_line l.left (drop l.id-index l.ids) ≡ are_in_line l.entries l.ids
