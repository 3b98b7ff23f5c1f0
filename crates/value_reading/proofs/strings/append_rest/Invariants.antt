use Rattle.std.proofs.Common.{◌-◌, ◌≤◌, length, string_bytes}
use Rattle.std.specs.Str.{IsCharBoundary}
use Rattle.value_reading.specs.Lexed.{HasBytes}
use Rattle.value_reading.proofs.strings.append_rest.Given as goal

abbrev pub invariant-loop-at : goal.invariant-loop-at
invariant-loop-at l = record {
  order : l.fn.at ≤ l.at;
  boundary : IsCharBoundary l.text l.at;
  bytes : HasBytes l.text l.fn.at (string_bytes l.copy) l.at;
}

abbrev pub decreases-loop-at : goal.decreases-loop-at
decreases-loop-at l = length l.text - l.at
