use Rattle.std.proofs.Common.{◌∙◌}
use Rattle.number_windows.specs.Windows.{page_entries}
use Rattle.number_windows.proofs.PageLemmas.{front_above, rest_above, none_before}
use Rattle.number_windows.proofs.Rows.{ascending_behind}
use Rattle.number_windows.proofs.number_window.NumberWindow.first_above.Goals as goal

pub first_above-requires : goal.first_above-requires
first_above-requires g c = ascending_behind (page_entries c.args.self.now.older) c.args.self.now.recent.items c.requires.ordered

pub returns-then-begins_up_to : goal.returns-then-begins_up_to
returns-then-begins_up_to g c =
    let now = c.args.self.now in
    let begins = c.begins_up_to.ensures c.if-begins_up_to.true in
    c.first_above.ensures ∙ rest_above c.args.after (page_entries now.older) now.recent.items
    (none_before c.args.after (page_entries now.older) now.recent.items c.requires.ordered begins.0 begins.1)

pub first_above-requires-in-None : goal.first_above-requires-in-None
first_above-requires-in-None g c = ascending_behind (page_entries c.args.self.now.older) c.args.self.now.recent.items c.requires.ordered

pub returns-in-Some : goal.returns-in-Some
returns-in-Some g c =
    let now = c.args.self.now in
    front_above c.args.after c.in-Some.entry.now (page_entries now.older) now.recent.items c.in-Some.ensures

pub returns-in-None : goal.returns-in-None
returns-in-None g c =
    let now = c.args.self.now in
    c.first_above-in-None.ensures ∙ rest_above c.args.after (page_entries now.older) now.recent.items c.in-None.ensures
