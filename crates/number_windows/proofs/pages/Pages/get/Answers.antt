use Rattle.std.proofs.Common.{◌/◌, sym, ◌∙◌}
use Rattle.number_windows.proofs.Numbered.{at-get}
use Rattle.number_windows.proofs.PageLemmas.{found_on, no_page, block_order}
use Rattle.number_windows.proofs.pages.Pages.get.Goals as goal

pub get-requires-in-Some : goal.get-requires-in-Some
get-requires-in-Some g c =
    let ps = c.args.self.now.pages.entries in
    block_order (c.args.number / 32) ps c.in-Some.block.now c.requires.ordered (sym (at-get (c.args.number / 32) ps) ∙ sym c.in-Some.ensures.value)

pub returns-in-Some : goal.returns-in-Some
returns-in-Some g c =
    let ps = c.args.self.now.pages.entries in
    c.get-in-Some.ensures ∙ sym (found_on c.args.number ps c.in-Some.block.now c.requires (sym (at-get (c.args.number / 32) ps) ∙ sym c.in-Some.ensures.value))

pub returns-in-None : goal.returns-in-None
returns-in-None g c =
    let ps = c.args.self.now.pages.entries in
    sym (no_page c.args.number ps c.requires.paged (sym (at-get (c.args.number / 32) ps) ∙ sym c.in-None.ensures.value))
