use Rattle.std.proofs.Common.{◌≡◌, ◌^◌, take}
use Rattle.std.specs.Prelude.{min}
use Rattle.conversation_reading.specs.Numbers.{number_of}
use Rattle.conversation_ids.proofs.digits.number_up_to_beyond.Given as goal

abbrev pub invariant-loop-digit : goal.invariant-loop-digit
invariant-loop-digit l = l.number ≡ min (number_of (take l.digit-index l.digits)) (2 ^ 104)
