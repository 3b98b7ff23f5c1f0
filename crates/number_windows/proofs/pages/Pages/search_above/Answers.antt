use Rattle.std.proofs.Common.{ap, sym, ◌∙◌}
use Rattle.number_windows.specs.Numbered.{first_above}
use Rattle.number_windows.specs.Windows.{flat}
use Rattle.number_windows.proofs.PageLemmas.{above_part, front_above, rest_above}
use Rattle.number_windows.proofs.pages.Pages.search_above.Goals as goal

pub loop-block-init : goal.loop-block-init
loop-block-init g c =
    above_part c.args.after c.args.self.now.pages.entries c.into_iter-block-iterator.result c.requires.paged
    (c.into_iter-block-iterator.ensures.into_iter_gives ∙ c.range-block-items.ensures.between tt)

pub returns-in-Some-search_above : goal.returns-in-Some-search_above
returns-in-Some-search_above g c =
    front_above c.args.after c.in-Some-search_above.entry.now c.in-Some.block.now.items (flat c.next.new.self) c.in-Some-search_above.ensures
    ∙ sym (c.loop-block.invariant ∙ ap (λ ps. first_above c.args.after (flat ps)) c.in-Some.ensures.steps)

pub loop-block-preserved : goal.loop-block-preserved
loop-block-preserved g c =
    c.loop-block.invariant ∙ ap (λ ps. first_above c.args.after (flat ps)) c.in-Some.ensures.steps
    ∙ sym (rest_above c.args.after c.in-Some.block.now.items (flat c.next.new.self) c.in_default.ensures)
