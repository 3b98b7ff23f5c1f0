-- One is found, or none is.
use Rattle.std.proofs.Common.{◌<◌, Some, length, set, ap, sym, ◌∙◌, arith}
use Rattle.std.proofs.lemmas.List.{length-set}
use Rattle.owed_answers.specs.Owed.{some_text}
use Rattle.owed_answers.proofs.OwedTexts.{found_one, passed_one}
use Rattle.owed_answers.proofs.batch.Batch.has_answer_with.Goals as goal

pub returns-then-not-is_empty : goal.returns-then-not-is_empty
returns-then-not-is_empty c =
    let slots = set c.args.self.now c.args.slot (Some c.args.text.now) in
    let inside : c.loop-index.index < length slots = omega (arith, length-set c.args.self.now c.args.slot (Some c.args.text.now)) in
    let found = found_one slots c.loop-index.index c.text_with.result.now c.is_empty.result inside c.text_with.ensures c.is_empty.ensures c.if-not-is_empty.true in
    ap some_text (sym found ∙ c.loop-index.invariant)

pub loop-index-preserved : goal.loop-index-preserved
loop-index-preserved c =
    let slots = set c.args.self.now c.args.slot (Some c.args.text.now) in
    let inside : c.loop-index.index < length slots = omega (arith, length-set c.args.self.now c.args.slot (Some c.args.text.now)) in
    passed_one slots c.loop-index.index c.text_with.result.now c.is_empty.result inside c.text_with.ensures c.is_empty.ensures c.if-not-is_empty.false
    ∙ c.loop-index.invariant
