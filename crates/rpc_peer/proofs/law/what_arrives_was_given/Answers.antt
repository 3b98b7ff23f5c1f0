use Rattle.rpc_peer.proofs.Sent.{arrived-was-given}
use Rattle.rpc_peer.proofs.law.what_arrives_was_given.Goals as goal

pub returns : goal.returns
returns g c = λ source sent arrived rest. arrived-was-given (g.S.Source.gave source) sent arrived rest
