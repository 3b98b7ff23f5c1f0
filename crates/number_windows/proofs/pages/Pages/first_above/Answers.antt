use Rattle.std.proofs.Common.{◌≡◌, ◌/◌, Some, sym, ◌∙◌}
use Rattle.number_windows.specs.Numbered.{at}
use Rattle.number_windows.proofs.Numbered.{at-get}
use Rattle.number_windows.proofs.PageLemmas.{block_order, page_above}
use Rattle.number_windows.proofs.pages.Pages.first_above.Goals as goal

pub first_above-requires : goal.first_above-requires
first_above-requires g c =
    let ps = c.args.self.now.pages.entries in
    block_order (c.args.after / 32) ps c.in-Some.block.now c.requires.ordered (sym (at-get (c.args.after / 32) ps) ∙ sym c.in-Some.ensures.value)

pub returns-in-Some-first_above : goal.returns-in-Some-first_above
returns-in-Some-first_above g c =
    let ps = c.args.self.now.pages.entries in
    let block = c.in-Some.block.now in
    let there : at (c.args.after / 32) ps ≡ Some block = sym (at-get (c.args.after / 32) ps) ∙ sym c.in-Some.ensures.value in
    page_above c.args.after c.in-Some-first_above.entry.now ps block c.requires.sorted c.requires.paged there c.in-Some-first_above.ensures
