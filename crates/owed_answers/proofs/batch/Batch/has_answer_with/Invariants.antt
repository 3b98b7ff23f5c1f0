use Rattle.std.proofs.Common.{◌≡◌, Some, drop, set}
use Rattle.owed_answers.specs.Owed.{slot_texts}
use Rattle.owed_answers.proofs.batch.Batch.has_answer_with.Given as goal

-- no answer stands in the slots so far
abbrev pub invariant-loop-index : goal.invariant-loop-index
invariant-loop-index l =
    let slots = set l.self l.slot (Some l.text) in
    slot_texts (drop l.index slots) ≡ slot_texts slots
