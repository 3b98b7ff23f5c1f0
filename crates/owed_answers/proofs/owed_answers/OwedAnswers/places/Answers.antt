use Rattle.std.proofs.Common.{◌≡◌, subst}
use Rattle.number_windows.specs.Windows.{window_entries}
use Rattle.number_windows.specs.Numbered.{without}
use Rattle.owed_answers.specs.Owed.{OwedState}
use Rattle.number_windows.proofs.Numbered.{without_below}
use Rattle.owed_answers.proofs.owed_answers.OwedAnswers.places.Goals as goal

pub returns-clause-owed : goal.returns-clause-owed
returns-clause-owed c =
    subst (λ (s : OwedState). without s.places s.owed ≡ s.owed) c.self.view_is
    (without_below c.self.inside.places (window_entries c.self.inside.owed) c.self.invariant.numbered)
