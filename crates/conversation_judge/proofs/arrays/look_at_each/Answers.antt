use Rattle.std.proofs.Common.{◌≤◌, ◌∙◌, sym, length, arith}
use Rattle.std.specs.Prelude.{min}
use Rattle.conversation_judge.specs.Said.{each}
use Rattle.conversation_judge.proofs.Ends.{each_end}
use Rattle.conversation_judge.proofs.arrays.look_at_each.Goals as goal

pub returns : goal.returns
returns c =
    let replies = c.args.replies.now in
    let ids = c.args.ids.now in
    let end : min (length replies) (length ids) ≤ c.loop-at.at = omega arith in
    sym (each_end c.args.protocol c.args.sight c.args.message replies ids c.loop-at.at (each c.loop-at.owed c.loop-at.looked) end) ∙ c.loop-at.invariant
