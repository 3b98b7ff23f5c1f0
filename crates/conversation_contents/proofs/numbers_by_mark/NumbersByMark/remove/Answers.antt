use Rattle.std.proofs.Common.{false}
use Rattle.conversation_contents.proofs.Pairs.{key_put}
use Rattle.conversation_contents.proofs.numbers_by_mark.NumbersByMark.remove.Goals as goal

pub returns : goal.returns
returns c = key_put c.args.self.now.pairs c.remove.new.self c.args.mark c.args.number false c.remove.ensures.updates
