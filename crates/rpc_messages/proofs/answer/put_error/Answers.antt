use Rattle.std.proofs.Common.{◌≡◌, ◌++◌, ◌∙◌, OnOk, ap, arith}
use Rattle.std.specs.Prelude.{option_copied, option_map}
use Rattle.serde_json.specs.Written.{compact_text}
use Rattle.message_texts.specs.Texts.{error_answer_text, error_text}
use Rattle.rpc_messages.proofs.AnswerTexts.{OnOk-map}
use Rattle.rpc_messages.proofs.answer.put_error.Goals as goal

pub returns-clause-text : goal.returns-clause-text
returns-clause-text c =
    let id = c.args.id.now in
    let e = c.args.error.now in
    let written : OnOk c.write_error.result (c.write_error.new.bytes.items ≡ c.args.bytes.now.items ++ error_answer_text id (error_text e.code c.as_str-message.result.now (option_copied c.lent.result))) = grind arith in
    OnOk-map c.write_error.result
    (λ put. put ∙ ap (λ text. c.args.bytes.now.items ++ error_answer_text id text) (ap (λ x. error_text e.code c.as_str-message.result.now x) (c.lent.ensures ∙ c.in_ok-extra.ensures.text)
    ∙ ap (λ m. error_text e.code m (option_map compact_text e.extra)) c.as_str-message.ensures))
    written
