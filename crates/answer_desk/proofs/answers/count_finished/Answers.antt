use Rattle.std.proofs.Common.{length, sym, ◌∙◌, arith, add-one}
use Rattle.answer_desk.specs.Waiting.{is_finished}
use Rattle.answer_desk.specs.Seen.{part_of}
use Rattle.answer_desk.proofs.Finished.{finished_more, unfinished_at, other_place}
use Rattle.answer_desk.proofs.answers.count_finished.Goals as goal

pub returns-then-not-is_part_finished-clause-whole : goal.returns-then-not-is_part_finished-clause-whole
returns-then-not-is_part_finished-clause-whole c =
    other_place c.loop-index.index (length c.args.dues.now) (omega arith)
    ∙ sym (unfinished_at is_finished (part_of c.args.numbers.now) c.args.dues.now c.loop-index.index _ (omega arith) c.if-not-is_part_finished.ensures)

pub loop-index-preserved : goal.loop-index-preserved
loop-index-preserved c =
    rw add-one (finished_more is_finished (part_of c.args.numbers.now) c.args.dues.now c.loop-index.index _ (omega arith) c.loop-index.invariant c.if-not-is_part_finished.ensures)
