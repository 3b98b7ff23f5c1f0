use Rattle.std.proofs.Common.{◌≡◌, ◌++◌, ◌∷◌, subst, arith}
use Rattle.number_windows.specs.Numbered.{Ascending}
use Rattle.number_windows.specs.Windows.{page_entries}
use Rattle.number_windows.proofs.Rows.{below_seam}
use Rattle.number_windows.proofs.number_window.NumberWindow.move_first.Goals as goal

pub push-requires-clause-above : goal.push-requires-clause-above
push-requires-clause-above g c =
    let now = c.args.self.now in
    let first = c.in-Some.first in
    let rest = c.pop_front.new.self.items in
    let was : now.recent.items ≡ first ∷ rest = c.in-Some.ensures.items in
    below_seam (page_entries now.older) (first ∷ rest) 0 first (subst (λ t. Ascending (page_entries now.older ++ t)) was c.requires.window.ordered) (omega arith)
