use Rattle.std.proofs.Common.{◌++◌, ap, sym, ◌∙◌}
use Rattle.rpc_messages.specs.Dues.{answer_seen, text_of}
use Rattle.rpc_messages.proofs.AnswerTexts.{OnOk-map}
use Rattle.rpc_messages.proofs.unit_answer.put_one_answer.Goals as goal

pub returns-in-Reply-clause-text : goal.returns-in-Reply-clause-text
returns-in-Reply-clause-text c =
    OnOk-map c.put_answer.result (λ put. put ∙ ap (λ answer. c.args.bytes.now.items ++ text_of (answer_seen answer)) (sym c.in-Reply.is)) c.put_answer.ensures.text

pub returns-in-Error-clause-text : goal.returns-in-Error-clause-text
returns-in-Error-clause-text c =
    OnOk-map c.put_answer-put.result (λ put. put ∙ ap (λ answer. c.args.bytes.now.items ++ text_of (answer_seen answer)) (sym c.in-Error.is)) c.put_answer-put.ensures.text
