use Rattle.std.proofs.Common.{subst, sym, not, ◌==◌}
use Rattle.number_windows.specs.Windows.{window_entries}
use Rattle.number_windows.specs.Numbered.{without, Below}
use Rattle.number_windows.proofs.Numbered.{below_filter}
use Rattle.owed_answers.proofs.OwedLemmas.{through, state_of, same_owed}
use Rattle.owed_answers.proofs.owed_answers.OwedAnswers.remove.Goals as goal

pub invariant_of-self : goal.invariant_of-self
invariant_of-self c = record {
  window = c.remove.ensures.window;
  numbered = subst (λ fs. Below c.self.inside.places fs) (sym c.remove.ensures.entries)
      (below_filter c.self.inside.places (λ e. not (c.args.place == e.0)) (window_entries c.self.inside.owed) c.self.invariant.numbered);
}

pub returns-clause-state : goal.returns-clause-state
returns-clause-state c =
    through (λ s. state_of s.places (without c.args.place s.owed)) _ _ c.args.self.now c.self.view_is
    (same_owed c.self.inside.places (window_entries c.remove.new.self) (without c.args.place (window_entries c.self.inside.owed)) c.remove.ensures.entries)
