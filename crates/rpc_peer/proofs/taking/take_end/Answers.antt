use Rattle.std.proofs.Common.{subst}
use Rattle.stream_framing.specs.Framed.{read_text}
use Rattle.stream_session.specs.Stream.{StreamStands, stream_of, with_end}
use Rattle.rpc_peer.proofs.Results.{on-ok}
use Rattle.rpc_peer.proofs.taking.take_end.Goals as goal

pub returns-clause-takes : goal.returns-clause-takes
returns-clause-takes c = on-ok c.take_all.result (λ fed jobs sink had goes_on.
    subst (λ ending. StreamStands (record fed { bytes = read_text fed.framing ending fed.bytes; ending = ending }) jobs (stream_of c.take_all.new.self) sink) c.in_ok-told_end.ensures.told
    (c.take_all.ensures.stands (with_end fed c.in_ok-told_end.field-0) jobs sink (c.in_ok-end.ensures.ended fed jobs sink had goes_on)))
