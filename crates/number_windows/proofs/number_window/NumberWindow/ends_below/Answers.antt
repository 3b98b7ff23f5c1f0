use Rattle.std.proofs.Common.{◌<◌, suc, arith}
use Rattle.std.proofs.lemmas.Bool.{ltb-true}
use Rattle.number_windows.specs.Windows.{window_entries}
use Rattle.number_windows.proofs.Numbered.{below_more}
use Rattle.number_windows.proofs.number_window.NumberWindow.ends_below.Goals as goal

pub returns-else-self-eq0 : goal.returns-else-self-eq0
returns-else-self-eq0 g c =
    let now = c.args.self.now in
    λ over. below_more (suc now.top) c.args.number (window_entries now) (let lt : now.top < c.args.number = ltb-true now.top c.args.number over in omega arith) c.requires.topped
