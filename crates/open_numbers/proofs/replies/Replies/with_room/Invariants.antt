use Rattle.std.proofs.Common.{◌≡◌, replicate}
use Rattle.open_numbers.specs.declared.replies.Slot.TheVariants.{Empty}
use Rattle.open_numbers.proofs.replies.Replies.with_room.Given as goal

-- the turns so far have empty slots
abbrev pub invariant-loop-turn : goal.invariant-loop-turn
invariant-loop-turn l = l.slots.items ≡ replicate l._turn Empty
