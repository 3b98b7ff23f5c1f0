use Rattle.std.proofs.Common.{◌≡◌, ◌<◌, ◌++◌, ◌∷◌, [], ℕ, take}
use Rattle.std.specs.List.{join_with_byte}
use Rattle.message_texts.proofs.arrays.put_array.Given as goal

abbrev pub invariant-loop-place : goal.invariant-loop-place
invariant-loop-place g l = record {
  text : l.bytes.items ≡ (l.fn.bytes.items ++ 91 ∷ []) ++ join_with_byte 44 (take l.place (g.E.Entries.texts l.entries));
  known : (i : ℕ) → i < l.place → g.E.Entries.known l.entries i;
}
