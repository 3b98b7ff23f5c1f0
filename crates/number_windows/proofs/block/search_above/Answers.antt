use Rattle.std.proofs.Common.{ap, sym}
use Rattle.number_windows.specs.Numbered.{first_above}
use Rattle.number_windows.proofs.block.search_above.Goals as goal

pub loop-entry-init : goal.loop-entry-init
loop-entry-init g c = ap (first_above c.args.after) (sym c.into_iter-entry-iterator.ensures.into_iter_gives.0)
