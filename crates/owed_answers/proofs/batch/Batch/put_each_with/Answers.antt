-- One slot more, and all of them.
use Rattle.std.proofs.Common.{◌≤◌, ◌<◌, ◌++◌, Some, length, set, ap, sym, ◌∙◌, arith}
use Rattle.std.proofs.lemmas.List.{length-set}
use Rattle.owed_answers.specs.Owed.{slot_texts}
use Rattle.owed_answers.proofs.OwedTexts.{marked, next_text, none_left, array_marked, OnOk-map, starts_with_trans, put_last}
use Rattle.owed_answers.proofs.batch.Batch.put_each_with.Goals as goal

pub loop-index-preserved : goal.loop-index-preserved
loop-index-preserved c =
    let slots = set c.args.self.now c.args.slot (Some c.args.text.now) in
    let inside : c.loop-index.index < length slots = omega (arith, length-set c.args.self.now c.args.slot (Some c.args.text.now)) in
    record {
      text = next_text slots c.loop-index.index c.text_with.result.now c.loop-index.bytes.items c.put_answer.new.bytes.items c.loop-index.mark c.in_ok-mark.mark
          inside c.text_with.ensures c.in_ok-mark.ensures.next c.in_ok-mark.ensures.ok
          ∙ c.loop-index.invariant.text;
      front = starts_with_trans c.put_answer.new.bytes.items c.loop-index.bytes.items c.args.bytes.now.items c.put_answer.ensures.front c.loop-index.invariant.front;
    }

pub returns-clause-ok : goal.returns-clause-ok
returns-clause-ok c =
    let slots = set c.args.self.now c.args.slot (Some c.args.text.now) in
    let all : length slots ≤ c.loop-index.index = omega (arith, length-set c.args.self.now c.args.slot (Some c.args.text.now)) in
    OnOk-map c.extend_from_slice.result
    (λ last. last
    ∙ ap (λ left. c.loop-index.bytes.items ++ marked c.loop-index.mark left) (sym (none_left slots c.loop-index.index all))
    ∙ c.loop-index.invariant.text
    ∙ ap (λ array. c.args.bytes.now.items ++ array) (array_marked (slot_texts slots) c.requires))
    (put_last c.extend_from_slice.result _ _ _ c.extend_from_slice.ensures.items)
