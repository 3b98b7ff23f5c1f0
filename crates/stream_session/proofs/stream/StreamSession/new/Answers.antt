use Rattle.std.proofs.Common.{None, sym, subst}
use Rattle.peer_session.specs.Session.{view}
use Rattle.stream_session.specs.Stream.{StreamStands, fed_nothing}
use Rattle.stream_session.proofs.Streams.{stream-starts}
use Rattle.stream_session.proofs.stream.StreamSession.new.Goals as goal

pub returns : goal.returns
returns c = record {
  stands = λ before.
      subst (λ contents. StreamStands (fed_nothing c.args.framing c.args.table.now c.args.limits before) (λ n. None)
      (record { cutter = c.new.result; waiting = contents; last = None; session = view c.in_ok-new.field-0 }) before) (sym c.new-2.ensures.items)
      (stream-starts c.known.ensures c.args.framing c.args.table.now c.args.limits before c.new.result (view c.in_ok-new.field-0) c.new.ensures.framing c.new.ensures.limit c.in_ok-new.ensures c.new.ensures.stands);
}
