use Rattle.connection.proofs.Conversed.{whole, cut_short}
use Rattle.connection.proofs.law.a_connection_has_a_conversation.Goals as goal

pub returns-clause-whole : goal.returns-clause-whole
returns-clause-whole c = whole

pub returns-clause-cut_short : goal.returns-clause-cut_short
returns-clause-cut_short c = cut_short
