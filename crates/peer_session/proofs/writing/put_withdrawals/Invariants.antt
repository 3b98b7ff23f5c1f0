use Rattle.std.proofs.Common.{◌≡◌, ◌++◌, map, take}
use Rattle.peer_output.specs.Course.{withdrawal}
use Rattle.peer_output.specs.Items.{sent}
use Rattle.peer_session.specs.Framings.{bytes_in}
use Rattle.peer_session.proofs.writing.put_withdrawals.Given as goal

abbrev pub invariant-loop-turn : goal.invariant-loop-turn
invariant-loop-turn l = l.bytes.items ≡ l.initial.bytes.items ++ bytes_in l.framing (map (sent l.number) (map withdrawal (take l.turn-index l.turns)))
