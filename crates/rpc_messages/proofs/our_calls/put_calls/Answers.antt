use Rattle.std.proofs.Common.{◌++◌, ◌∙◌, ap}
use Rattle.rpc_messages.specs.Texts.{calls_of}
use Rattle.rpc_messages.proofs.AnswerTexts.{OnOk-map}
use Rattle.rpc_messages.proofs.BatchReadBack.{batch_text-values}
use Rattle.rpc_messages.proofs.CallTexts.{calls_read_back}
use Rattle.rpc_messages.proofs.Placed.{all_read_back}
use Rattle.rpc_messages.proofs.our_calls.put_calls.Goals as goal

pub returns-clause-text : goal.returns-clause-text
returns-clause-text c =
    OnOk-map c.write_array.result (λ put. put ∙ ap (λ text. c.args.bytes.now.items ++ text) (batch_text-values (calls_of c.args.number c.args.first c.args.calls.now))) c.write_array.ensures.text

pub returns-clause-reads_back : goal.returns-clause-reads_back
returns-clause-reads_back c =
    OnOk-map c.write_array.result (λ known. calls_read_back c.args.number c.args.first c.args.calls.now (all_read_back c.args.number c.args.first c.args.calls.now known)) c.write_array.ensures.known
