use Rattle.call_laws.proofs.Talking.{talking}
use Rattle.call_laws.proofs.talks.joined_connections_talk.Goals as goal

pub returns : goal.returns
returns c = talking c.two_connections_understand_each_other.ensures
