use Rattle.std.proofs.Common.{◌≤◌, ◌∙◌, sym, length, arith}
use Rattle.std.specs.Prelude.{min}
use Rattle.conversation_judge.proofs.Ends.{found_end}
use Rattle.conversation_judge.proofs.arrays.put_fits.Goals as goal

pub returns : goal.returns
returns c =
    let replies = c.args.replies.now in
    let fits = c.args.fits.now in
    let end : min (length replies) (length fits) ≤ c.loop-at.at = omega arith in
    sym (found_end c.args.protocol c.args.sight c.args.message replies fits c.loop-at.at c.loop-at.findings.items end) ∙ c.loop-at.invariant
