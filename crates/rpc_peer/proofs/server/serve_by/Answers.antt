-- What was served in frames was served.
use Rattle.stream_framing.specs.declared.framing.Framing.TheVariants.{Frames}
use Rattle.stream_session.specs.Framings.{IsServedIn, IsServedInPartIn}
use Rattle.stream_session.specs.Promise.{IsServed, IsServedInPart}
use Rattle.rpc_peer.proofs.Served.{serving-in}
use Rattle.rpc_peer.proofs.server.serve_by.Goals as goal

pub returns : goal.returns
returns g c =
    let table = c.args.table.now in
    let gave = g.S.Source.gave c.args.source in
    serving-in g.K.Sink.handed_on g.K.Sink.bytes_taken g.K.Sink.failures (IsServedIn Frames table c.args.limits gave) (IsServed table c.args.limits gave)
    (IsServedInPartIn Frames table c.args.limits gave) (IsServedInPart table c.args.limits gave) c.args.crew.workers c.args.sink c.serve_in.result
    (c.served_in_frames_is_served.ensures.whole table c.args.limits c.args.source)
    (c.served_in_frames_is_served.ensures.part table c.args.limits c.args.source)
    c.serve_in.ensures.serving
