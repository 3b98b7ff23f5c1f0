use Rattle.std.proofs.Common.{rules, sym, refl, subst}
use Rattle.rtrb.specs.Ring.{sent}
use Rattle.rpc_peer.specs.Arriving.{Reads}
use Rattle.rpc_peer.proofs.Sent.{ReadsOn, is-read, reads-nothing, reads-piece, reads-or-ended, ends-if, same-again}
use Rattle.rpc_peer.proofs.reader.read_into.Goals as goal

pub loop-init : goal.loop-init
loop-init g c = (
  ((refl, refl, refl, refl), refl),
  search rules,
  reads-nothing (g.S.Source.gave c.args.source) (sent c.args.ring.now) c.requires (g.met.S.Source.nothing_at_first c.args.source),
)

pub loop-preserved : goal.loop-preserved
loop-preserved g c = (
  same-again c.args.ring.now c.loop.ring c.send-in-Piece.new.ring c.loop.invariant.0 c.send-in-Piece.ensures.ring,
  c.loop.invariant.1,
  subst (λ items. ReadsOn (g.S.Source.gave c.args.source) (g.S.Source.gave c.next_arrival.new.source) items) (sym c.in_ok-send-in-Piece.ensures.sent)
      (reads-piece (g.S.Source.gave c.args.source) (g.S.Source.gave c.loop.source) (sent c.loop.ring) c.loop.invariant.2 (g.S.Source.gave c.next_arrival.new.source) c.in-Piece.bytes
      c.in-Piece.ensures (g.met.S.Source.nothing_at_first c.next_arrival.new.source)),
)

pub returns-in_err-send-in-Piece-clause-reads : goal.returns-in_err-send-in-Piece-clause-reads
returns-in_err-send-in-Piece-clause-reads g c =
    subst (λ items. Reads (g.S.Source.gave c.args.source) items) (sym c.in_err-send-in-Piece.ensures.stopped)
    (is-read (g.S.Source.gave c.args.source) (g.S.Source.gave c.loop.source) (sent c.loop.ring) c.loop.invariant.2)

pub returns-in-End-clause-reads : goal.returns-in-End-clause-reads
returns-in-End-clause-reads g c =
    reads-or-ended (g.S.Source.gave c.args.source) (g.S.Source.gave c.loop.source) (sent c.loop.ring) c.loop.invariant.2 c.in-End.end c.in-End.ensures
    c.send-in-End.result (sent c.send-in-End.new.ring) c.send-in-End.ensures.sent c.send-in-End.ensures.stopped

pub returns-in-End-clause-ended : goal.returns-in-End-clause-ended
returns-in-End-clause-ended g c =
    ends-if (sent c.loop.ring) (sent c.send-in-End.new.ring) c.in-End.end c.send-in-End.result c.send-in-End.ensures.sent
