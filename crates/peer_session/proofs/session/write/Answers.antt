use Rattle.std.proofs.Common.{length}
use Rattle.peer_session.proofs.Drains.{appends-whole}
use Rattle.peer_session.proofs.session.write.Goals as goal

pub returns-in-Ok-clause-part : goal.returns-in-Ok-clause-part
returns-in-Ok-clause-part g c = λ failed. (
  length c.args.bytes.now,
  appends-whole (g.S.Sink.bytes_taken c.args.sink.now) (g.S.Sink.bytes_taken c.put_all.new.sink) (g.S.Sink.bytes_taken c.flush.new.self) c.args.bytes.now c.in-Ok.ensures.all c.flush.ensures.bytes,
)
