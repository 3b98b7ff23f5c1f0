use Rattle.std.proofs.Common.{false}
use Rattle.open_calls.proofs.Pairs.{key_put}
use Rattle.open_calls.proofs.keys_by_caller.KeysByCaller.remove.Goals as goal

pub returns : goal.returns
returns c = key_put c.args.self.now.pairs c.remove.new.self c.args.caller c.args.key false c.remove.ensures.updates
