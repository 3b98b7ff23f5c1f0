use Rattle.peer_player.proofs.Results.{OnOk-map}
use Rattle.peer_player.proofs.playing.Playing.settle_if_eager.Goals as goal

pub returns-clause-ok : goal.returns-clause-ok
returns-clause-ok g c = λ fed had. OnOk-map c.settle.result (λ settled. settled.written.plays) (c.settle.ensures.ok fed had)
