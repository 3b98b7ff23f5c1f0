use Rattle.connection_messages.proofs.Counted.{within_the_limit}
use Rattle.connection_messages.proofs.law.a_batch_within_the_limit_is_read_as_without_one.Goals as goal

pub returns : goal.returns
returns c = within_the_limit
