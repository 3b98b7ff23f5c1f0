use Rattle.std.proofs.Common.{arith}
use Rattle.owed_answers.proofs.BatchLemmas.{lacking_read}
use Rattle.owed_answers.proofs.batch.Batch.is_lacking.Goals as goal

pub returns-then-slot-len : goal.returns-then-slot-len
returns-then-slot-len c =
    let d = c.self.inside in
    λ text. lacking_read d.given.items d.held.items c.args.self.now c.args.slot c.index.result.now c.is_lacking.result text c.self.view_is (omega arith) c.index.ensures (c.is_lacking.ensures d.given.items)
