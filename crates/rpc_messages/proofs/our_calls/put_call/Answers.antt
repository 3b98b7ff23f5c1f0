use Rattle.rpc_messages.proofs.AnswerTexts.{OnOk-map}
use Rattle.rpc_messages.proofs.CallTexts.{call_reads_back}
use Rattle.rpc_messages.proofs.our_calls.put_call.Goals as goal

pub returns-clause-reads_back : goal.returns-clause-reads_back
returns-clause-reads_back c = OnOk-map c.put_one_call.result (call_reads_back c.args.number c.args.turn c.args.outgoing.now) c.put_one_call.ensures.params
