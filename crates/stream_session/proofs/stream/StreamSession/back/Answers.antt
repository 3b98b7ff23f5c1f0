-- A job that comes back is one more event of the session.
use Rattle.std.proofs.Common.{sym, subst}
use Rattle.peer_output.specs.Events.{with_at}
use Rattle.std.specs.Prelude.{None}
use Rattle.stream_session.specs.Stream.{StreamStands, stream_of}
use Rattle.stream_session.proofs.Streams.{comes-back}
use Rattle.stream_session.proofs.stream.StreamSession.back.Goals as goal

pub returns-clause-back : goal.returns-clause-back
returns-clause-back c = λ fed jobs sink n sent had out unpolled turns.
    let s = stream_of c.args.self.now in
    subst (λ x. StreamStands fed (with_at n None jobs) (record { cutter = s.cutter; waiting = s.waiting; last = s.last; session = x }) sink) (sym c.back.ensures)
    (comes-back c.known.ensures fed jobs s sink had n sent c.args.job out unpolled turns)
