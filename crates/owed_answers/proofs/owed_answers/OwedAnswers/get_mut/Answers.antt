use Rattle.std.proofs.Common.{subst, sym}
use Rattle.number_windows.specs.Windows.{window_entries}
use Rattle.number_windows.specs.Numbered.{Below}
use Rattle.number_windows.proofs.Numbered.{below_changed}
use Rattle.owed_answers.proofs.owed_answers.OwedAnswers.get_mut.Goals as goal

pub invariant_of-self-lent : goal.invariant_of-self-lent
invariant_of-self-lent c =
    let places = c.self.inside.places in
    let es = window_entries c.self.inside.owed in
    let holds = c.get_mut.follows.holds in
    let none = c.get_mut.follows.holds-at-none in
    λ _. (
      (λ w. record {
        window = (holds w).1;
        numbered = subst (λ fs. Below places fs) (sym (holds w).0) (below_changed places c.args.place (λ _. w) es c.self.invariant.numbered);
      }),
      record { window = none.1; numbered = subst (λ fs. Below places fs) (sym none.0) c.self.invariant.numbered },
    )
