use Rattle.std.proofs.Common.{sym, ◌∙◌}
use Rattle.number_windows.specs.Windows.{page_entries}
use Rattle.number_windows.proofs.Rows.{ascending_behind, got_behind, at_front}
use Rattle.number_windows.proofs.number_window.NumberWindow.get.Goals as goal

pub get-requires : goal.get-requires
get-requires g c = ascending_behind (page_entries c.args.self.now.older) c.args.self.now.recent.items c.requires.ordered

pub returns-in-Some : goal.returns-in-Some
returns-in-Some g c =
    let now = c.args.self.now in
    sym (got_behind c.args.number c.in-Some.value.now (page_entries now.older) now.recent.items c.requires.ordered (sym c.in-Some.ensures))

pub returns-in-None : goal.returns-in-None
returns-in-None g c =
    let now = c.args.self.now in
    c.get-in-None.ensures ∙ sym (at_front c.args.number (page_entries now.older) now.recent.items (sym c.in-None.ensures))
