use Rattle.stream_session.specs.Stream.{with_piece}
use Rattle.rpc_peer.proofs.Results.{on-ok}
use Rattle.rpc_peer.proofs.taking.take_piece.Goals as goal

pub returns-clause-takes : goal.returns-clause-takes
returns-clause-takes c = on-ok c.take_all.result (λ fed jobs sink had goes_on.
    c.take_all.ensures.stands (with_piece fed c.args.piece.now) jobs sink (c.in_ok-feed.ensures.fed fed jobs sink had goes_on))
