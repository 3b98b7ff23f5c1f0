use Rattle.std.proofs.Common.{◌≡◌, sym, ◌∙◌, ap, false}
use Rattle.answer_desk.specs.Seen.{part_of}
use Rattle.answer_desk.specs.Waiting.{is_finished}
use Rattle.answer_desk.proofs.Finished.{unfinished_at}
use Rattle.answer_desk.proofs.answers.may_be_finished.Goals as goal

pub returns-in-Some : goal.returns-in-Some
returns-in-Some c = λ open_still.
    let read = c.in-Some.ensures.lookup in
    let here : false ≡ is_finished (part_of c.args.numbers.now c.in-Some.due.now) = sym open_still ∙ c.is_part_finished.ensures in
    unfinished_at is_finished (part_of c.args.numbers.now) c.args.dues.now c.args.from c.in-Some.due.now read.3.0
    (here ∙ ap (λ due. is_finished (part_of c.args.numbers.now due)) read.1)
