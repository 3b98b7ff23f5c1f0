-- What the crew has served is told, to the caller and to the hook.
use Rattle.std.proofs.Common.{sym, subst}
use Rattle.std.specs.Prelude.{Result}
use Rattle.peer_session.specs.declared.report.Close.{Close}
use Rattle.rpc_peer.specs.declared.fault.ServeFault.{ServeFault}
use Rattle.stream_session.specs.Framings.{IsServedIn, IsServedInPartIn}
use Rattle.rpc_peer.proofs.Served.{serving-of, told-possible}
use Rattle.rpc_peer.proofs.server.serve_in.Goals as goal

pub returns-in-Ok-clause-serving : goal.returns-in-Ok-clause-serving
returns-in-Ok-clause-serving g c =
    let table = c.args.table.now in
    let gave = g.S.Source.gave c.args.source in
    let served = c.in-Ok.ensures.served in
    serving-of g.K.Sink.handed_on g.K.Sink.bytes_taken g.K.Sink.failures (IsServedIn c.args.framing table c.args.limits gave) (IsServedInPartIn c.args.framing table c.args.limits gave)
    c.args.crew.workers c.args.sink c.tell.result
    (told-possible c.args.crew.workers c.is_possible.result c.is_possible.ensures c.if-not-is_possible.false)
    (c.tell.ensures.ok c.args.framing table c.args.limits c.args.source c.args.sink c.in-Ok.ensures.reads served)
    (c.tell.ensures.in_part c.args.framing table c.args.limits c.args.source c.args.sink c.in-Ok.ensures.reads served)
    c.tell.ensures.possible
    (c.tell.ensures.failures c.args.framing table c.args.limits c.args.sink served)
    (c.tell.ensures.cause c.args.framing table c.args.limits c.args.sink served)
    (c.tell.ensures.flushed c.args.framing table c.args.limits c.args.sink served)
    (c.tell.ensures.flushed_until c.args.framing table c.args.limits c.args.sink served)

pub returns-in-Ok-clause-told : goal.returns-in-Ok-clause-told
returns-in-Ok-clause-told g c = subst (λ (end : Result Close ServeFault). g.H.EndHook.was_told c.args.hook.now end) (sym c.tell.ensures.end) c.in-Ok.ensures.told
