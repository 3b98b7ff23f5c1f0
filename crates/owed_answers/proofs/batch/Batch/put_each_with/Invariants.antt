use Rattle.std.proofs.Common.{◌≡◌, ◌++◌, Some, drop, set}
use Rattle.std.specs.Io.{StartsWith}
use Rattle.owed_answers.specs.Owed.{slot_texts}
use Rattle.owed_answers.proofs.OwedTexts.{marked}
use Rattle.owed_answers.proofs.batch.Batch.put_each_with.Given as goal

-- the text so far, and then the answers that are left
abbrev pub invariant-loop-index : goal.invariant-loop-index
invariant-loop-index l =
    let slots = set l.self l.slot (Some l.text) in
    record {
      text : l.bytes.items ++ marked l.mark (slot_texts (drop l.index slots)) ≡ l.fn.bytes.items ++ marked 91 (slot_texts slots);
      front : StartsWith l.bytes.items l.fn.bytes.items;
    }
