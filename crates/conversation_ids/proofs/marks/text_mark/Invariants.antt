use Rattle.std.proofs.Common.{◌≡◌, ◌<◌, ◌^◌, drop}
use Rattle.conversation_ids.specs.Marks.{text_mark_behind}
use Rattle.conversation_ids.proofs.marks.text_mark.Given as goal

abbrev pub invariant-loop-byte : goal.invariant-loop-byte
invariant-loop-byte l = record {
  same : text_mark_behind l.mark (drop l.byte-index l.text) ≡ text_mark_behind 1 l.text;
  bound : l.mark < 2 ^ 64;
}
