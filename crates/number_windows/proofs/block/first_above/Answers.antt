use Rattle.std.proofs.Common.{◌+◌, sym, ◌∙◌, arith, add-one}
use Rattle.number_windows.proofs.PageLemmas.{index_above, got_at}
use Rattle.number_windows.proofs.block.first_above.Goals as goal

pub returns-in-Some : goal.returns-in-Some
returns-in-Some g c =
    let block = c.args.block.now in
    got_at c.get.result (c.in-Some.index + 1) block.items (λ some. omega (arith, c.get.ensures.variant.0 some, block.ok.0)) (λ lt. c.get.ensures.variant.1 (omega (arith, lt, block.ok.0)))
    c.get.ensures.lookup
    ∙ rw add-one (sym (index_above c.args.after c.in-Some.index block.items c.requires c.in-Some.ensures.0 c.in-Some.ensures.1))
