use Rattle.std.proofs.Common.{◌≡◌, ◌++◌, ◌∙◌, OnOk, ap, codes, arith}
use Rattle.message_texts.specs.Texts.{withdrawal_text}
use Rattle.message_texts.specs.declared.keys.CallKey.TheVariants.{Pair}
use Rattle.rpc_messages.proofs.AnswerTexts.{OnOk-map}
use Rattle.rpc_messages.proofs.CallTexts.{withdrawal_is, withdrawal_reads_back}
use Rattle.rpc_messages.proofs.our_calls.put_withdrawal.Goals as goal

pub returns-clause-text : goal.returns-clause-text
returns-clause-text c =
    let key = Pair c.args.number c.args.turn in
    let written : OnOk c.write_withdrawal.result (c.write_withdrawal.new.bytes.items ≡ c.args.bytes.now.items ++ withdrawal_text (codes "$/cancelRequest") (codes "id") key) = grind arith in
    OnOk-map c.write_withdrawal.result (λ put. put ∙ ap (λ text. c.args.bytes.now.items ++ text) (withdrawal_is c.args.number c.args.turn (omega arith) (omega arith))) written

pub returns-clause-reads_back : goal.returns-clause-reads_back
returns-clause-reads_back c = withdrawal_reads_back c.args.number c.args.turn
