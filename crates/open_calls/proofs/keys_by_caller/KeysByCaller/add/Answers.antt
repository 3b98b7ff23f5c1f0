use Rattle.std.proofs.Common.{true}
use Rattle.open_calls.proofs.Pairs.{key_put}
use Rattle.open_calls.proofs.keys_by_caller.KeysByCaller.add.Goals as goal

pub returns-clause-ok : goal.returns-clause-ok
returns-clause-ok c = key_put c.args.self.now.pairs c.insert.new.self c.args.caller c.args.key true c.in_ok-insert.ensures.updates
