use Rattle.std.proofs.Common.{◌≡◌, ◌<◌, ◌^◌, drop}
use Rattle.conversation_reading.specs.Numbers.{number_after}
use Rattle.conversation_reading.proofs.whole.appended.Given as goal

abbrev pub invariant-loop-digit : goal.invariant-loop-digit
invariant-loop-digit l = (l.so_far < 2 ^ 64) × (number_after l.so_far (drop l.digit-index l.digits) ≡ number_after l.number l.digits)
