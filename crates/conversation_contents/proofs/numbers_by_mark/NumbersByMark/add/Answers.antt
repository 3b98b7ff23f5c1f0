use Rattle.std.proofs.Common.{true}
use Rattle.conversation_contents.proofs.Pairs.{key_put}
use Rattle.conversation_contents.proofs.numbers_by_mark.NumbersByMark.add.Goals as goal

pub returns-clause-ok : goal.returns-clause-ok
returns-clause-ok c = key_put c.args.self.now.pairs c.insert.new.self c.args.mark c.args.number true c.in_ok-insert.ensures.updates
