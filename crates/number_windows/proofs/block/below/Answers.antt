use Rattle.std.proofs.Common.{◌<◌, length, subst, arith, add-one}
use Rattle.number_windows.proofs.Rows.{below_one_more}
use Rattle.number_windows.proofs.block.below.Goals as goal

pub loop-index-preserved : goal.loop-index-preserved
loop-index-preserved g c =
    let items = c.args.block.now.items in
    let n = c.args.number in
    let lt : c.loop-index.index < length items = omega (arith, c.loop-index-test.true, c.len.ensures, c.args.block.now.ok.0) in
    record {
      within = omega (arith, lt);
      below = rw add-one (below_one_more n c.loop-index.index items c.index.result.now lt c.loop-index.invariant.below
          (subst (λ e. e.0 < n) c.index.ensures c.if-index-number.true));
    }
