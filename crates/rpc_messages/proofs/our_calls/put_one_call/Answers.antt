use Rattle.std.proofs.Common.{◌≡◌, ◌++◌, ◌∙◌, OnOk, ap, arith}
use Rattle.std.specs.Prelude.{option_copied, option_map}
use Rattle.serde_json.specs.Written.{compact_text}
use Rattle.message_texts.specs.Texts.{call_text}
use Rattle.message_texts.specs.declared.keys.CallKey.TheVariants.{Pair}
use Rattle.rpc_messages.proofs.AnswerTexts.{OnOk-map}
use Rattle.rpc_messages.proofs.CallTexts.{call_is}
use Rattle.rpc_messages.proofs.our_calls.put_one_call.Goals as goal

pub returns-clause-text : goal.returns-clause-text
returns-clause-text c =
    let o = c.args.outgoing.now in
    let key = Pair c.args.number c.args.turn in
    let written : OnOk c.write_call.result (c.write_call.new.bytes.items ≡ c.args.bytes.now.items ++ call_text key c.as_str.result.now (option_copied c.lent.result)) = grind arith in
    OnOk-map c.write_call.result
    (λ put. put ∙ ap (λ text. c.args.bytes.now.items ++ text) (ap (λ p. call_text key c.as_str.result.now p) (c.lent.ensures ∙ c.in_ok-params.ensures.text)
    ∙ ap (λ m. call_text key m (option_map compact_text o.params)) c.as_str.ensures ∙ call_is c.args.number c.args.turn o (omega arith) (omega arith)))
    written
