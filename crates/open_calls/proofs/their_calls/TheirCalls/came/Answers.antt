use Rattle.std.proofs.Common.{◌≡◌, subst}
use Rattle.number_windows.specs.Windows.{window_entries}
use Rattle.number_windows.specs.Numbered.{up_to, Ascending}
use Rattle.open_calls.specs.Theirs.{TheirState}
use Rattle.number_windows.proofs.Numbered.{up_to_all}
use Rattle.open_calls.proofs.their_calls.TheirCalls.came.Goals as goal

pub returns-clause-numbers : goal.returns-clause-numbers
returns-clause-numbers c =
    subst (λ (s : TheirState). up_to s.came s.calls ≡ s.calls) c.self.view_is (up_to_all c.self.inside.came (window_entries c.self.inside.calls) c.self.invariant.numbered)

pub returns-clause-ascending : goal.returns-clause-ascending
returns-clause-ascending c = subst (λ (s : TheirState). Ascending s.calls) c.self.view_is c.self.invariant.window.ordered
