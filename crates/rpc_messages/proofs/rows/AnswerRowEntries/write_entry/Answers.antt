use Rattle.std.proofs.Common.{◌<◌, ◌++◌, length, sym, ap, ◌∙◌, arith}
use Rattle.rpc_messages.specs.Dues.{answer_seen, text_of}
use Rattle.rpc_messages.proofs.AnswerTexts.{OnOk-map}
use Rattle.rpc_messages.proofs.Placed.{length_answers, answer_at}
use Rattle.rpc_messages.proofs.rows.AnswerRowEntries.write_entry.Goals as goal

pub returns-clause-text : goal.returns-clause-text
returns-clause-text c =
    let answers = c.args.self.now.answers.now in
    let same = length_answers answers in
    let inside : c.args.place < length answers = omega (arith, c.requires, same) in
    OnOk-map c.put_one_answer.result
    (λ put. put ∙ ap (λ a. c.args.bytes.now.items ++ text_of (answer_seen a)) (sym c.index-self-place.is) ∙ ap (λ text. c.args.bytes.now.items ++ text) (sym (answer_at c.args.place answers c.index-self-place.result inside c.index-self-place.is)))
    c.put_one_answer.ensures.text
