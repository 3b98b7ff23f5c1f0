use Rattle.std.proofs.Common.{◌≡◌, ◌++◌, drop}
use Rattle.conversation_rules.specs.Dues.{in_order}
use Rattle.conversation_dues.proofs.arrays.in_order.Given as goal

-- what is told, and then what isn't yet
abbrev pub invariant-loop-id : goal.invariant-loop-id
invariant-loop-id l = l.fits.items ++ in_order (drop l.id-index l.ids) l.left_named l.left_nulls ≡ in_order l.ids l.named l.nulls
