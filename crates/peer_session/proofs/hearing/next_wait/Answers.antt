use Rattle.std.proofs.Common.{◌≡◌, ◌<◌, length, get_or, ap, sym, ◌∙◌, arith}
use Rattle.peer_session.proofs.Waits.{stands-alone, get-any}
use Rattle.peer_session.proofs.hearing.next_wait.Goals as goal

pub returns-then-place-waits-clause-next : goal.returns-then-place-waits-clause-next
returns-then-place-waits-clause-next c =
    let h = c.args.handler.now in
    let place = c.args.place in
    let value : c.waits-waits.result.now ≡ h.waits = c.waits-waits.ensures.value in
    let below : place < length h.waits = omega (arith, c.if-place-waits.true, ap length value) in
    stands-alone h.heard h.messages h.waits place (get_or c.waits-waits.result.now place 0) (sym value ∙ c.waits-waits.ensures.last) below
    (ap (λ ws. get_or ws place 0) value ∙ get-any h.waits place 0 (get_or c.waits-waits.result.now place 0) below)
