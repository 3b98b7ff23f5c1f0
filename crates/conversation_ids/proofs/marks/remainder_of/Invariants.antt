use Rattle.std.proofs.Common.{◌≡◌, ◌%◌, ◌++◌, take}
use Rattle.conversation_reading.specs.Numbers.{number_of}
use Rattle.conversation_ids.specs.Marks.{most_marks}
use Rattle.conversation_ids.proofs.marks.remainder_of.Given as goal

abbrev pub invariant-loop-digit : goal.invariant-loop-digit
invariant-loop-digit l = l.number ≡ number_of (take l.digit-index l.digits) % most_marks

abbrev pub invariant-loop-other : goal.invariant-loop-other
invariant-loop-other l = l.number ≡ number_of (l.digits ++ take l.other-index l.behind) % most_marks
