-- What is due is written, as the session's drain tells.
use Rattle.std.proofs.Common.{subst}
use Rattle.peer_session.specs.Events.{DrainsIn}
use Rattle.peer_session.specs.Session.{view}
use Rattle.stream_framing.specs.declared.framing.Framing.{Framing}
use Rattle.stream_session.specs.Stream.{stream_of}
use Rattle.stream_session.proofs.Shorts.{drained, short-drain}
use Rattle.stream_session.proofs.stream.StreamSession.drain.Goals as goal

pub returns-clause-drained : goal.returns-clause-drained
returns-clause-drained g c = λ fed jobs had.
    drained c.known.ensures fed jobs (stream_of c.args.self.now) (g.S.Sink.bytes_taken c.args.sink.now) had (view c.drain_in.new.self)
    (g.S.Sink.bytes_taken c.drain_in.new.sink) c.drain_in.result (subst (λ (f : Framing). DrainsIn f (view c.args.self.now.session) (g.S.Sink.bytes_taken c.args.sink.now) c.drain_in.result (view c.drain_in.new.self) (g.S.Sink.bytes_taken c.drain_in.new.sink)) c.framing.ensures c.drain_in.ensures.drains)

pub returns-clause-short : goal.returns-clause-short
returns-clause-short g c = λ fed jobs had.
    short-drain c.known.ensures fed jobs (stream_of c.args.self.now) (g.S.Sink.bytes_taken c.args.sink.now) had (view c.drain_in.new.self)
    (g.S.Sink.bytes_taken c.drain_in.new.sink) c.drain_in.result (subst (λ (f : Framing). DrainsIn f (view c.args.self.now.session) (g.S.Sink.bytes_taken c.args.sink.now) c.drain_in.result (view c.drain_in.new.self) (g.S.Sink.bytes_taken c.drain_in.new.sink)) c.framing.ensures c.drain_in.ensures.drains)
