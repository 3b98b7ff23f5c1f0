use Rattle.std.proofs.Common.{◌++◌, ◌∙◌, ap}
use Rattle.std.specs.Prelude.{option_map}
use Rattle.serde_json.specs.Written.{compact_text}
use Rattle.message_texts.specs.Texts.{notice_text}
use Rattle.rpc_messages.proofs.AnswerTexts.{OnOk-map, always}
use Rattle.rpc_messages.proofs.CallTexts.{notice_is, notice_reads_back}
use Rattle.rpc_messages.proofs.our_calls.put_notice.Goals as goal

pub returns-clause-text : goal.returns-clause-text
returns-clause-text c =
    let o = c.args.outgoing.now in
    OnOk-map c.write_notice.result
    (λ put. put ∙ ap (λ text. c.args.bytes.now.items ++ text) (ap (λ p. notice_text c.as_str.result.now p) (c.lent.ensures ∙ c.in_ok-params.ensures.text)
    ∙ ap (λ m. notice_text m (option_map compact_text o.params)) c.as_str.ensures ∙ notice_is o))
    c.write_notice.ensures.text

pub returns-clause-reads_back : goal.returns-clause-reads_back
returns-clause-reads_back c = always c.write_notice.result (notice_reads_back c.args.outgoing.now c.in_ok-params.ensures.reads_back)
