use Rattle.peer_player.proofs.player.Player.in_framing.Goals as goal

pub returns-in-Ok-clause-unbroken : goal.returns-in-Ok-clause-unbroken
returns-in-Ok-clause-unbroken g c = (c.in-Ok.ensures.stands (g.S.Sink.bytes_taken c.args.sink)).session.unbroken
