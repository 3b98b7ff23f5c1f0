use Rattle.std.proofs.Common.{◌+◌, ◌<◌, sym, ap, ◌∙◌, arith, add-one, length, set, get_or, suc}
use Rattle.number_windows.proofs.Rows.{moved_up, next_up}
use Rattle.number_windows.proofs.block.take_at.Goals as goal

pub loop-i-preserved : goal.loop-i-preserved
loop-i-preserved g c =
    let items = c.args.block.now.items in
    let i = c.loop-i.i in
    let was = c.loop-i.invariant in
    let lt : suc i < length items = omega (arith, c.loop-i-test.true, c.if-index-len.false, c.len.ensures, c.requires, c.args.block.now.ok.0) in
    let value = c.replace-taken.ensures.value in
    let next = c.index_mut.result.now in
    record {
      items = ap (λ e. set c.loop-i.block.items i e) (c.replace-taken.ensures.after ∙ was.taken)
          ∙ ap (λ es. set es i (get_or items i c.loop-i.taken)) was.items
          ∙ rw add-one (moved_up i items c.loop-i.taken lt);
      taken = value ∙ c.index_mut.ensures.value ∙ ap (λ es. get_or es i next) was.items
          ∙ rw add-one (next_up i items next lt) ∙ ap (λ d. get_or items (i + 1) d) (sym value);
      len = was.len;
      room = was.room;
    }
