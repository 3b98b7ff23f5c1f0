use Rattle.std.proofs.Common.{◌≡◌, ◌∷◌, ◌∙◌, ap, sym, subst}
use Rattle.number_windows.specs.Windows.{window_entries}
use Rattle.number_windows.specs.Numbered.{without}
use Rattle.open_calls.specs.Own.{OwnState}
use Rattle.number_windows.proofs.StandIns.{first_goes, none_first}
use Rattle.open_calls.proofs.own_calls.OwnCalls.pop_first.Goals as goal

pub returns-clause-first : goal.returns-clause-first
returns-clause-first c =
    let key = c.in-Some.key in
    let es = window_entries c.self.inside.waiting in
    let seen : es ≡ c.args.self.now.waiting = ap (λ (s : OwnState). s.waiting) c.self.view_is in
    let first = first_goes key es c.self.invariant.window.ordered c.in-Some.ensures in
    (first.0, subst (λ fs. fs ≡ (key, first.0) ∷ without key fs) seen first.1 ∙ ap (λ fs. (key, first.0) ∷ fs) (sym (ap (λ (s : OwnState). s.waiting) c.remove.ensures.state)))

pub returns-in-None-clause-first : goal.returns-in-None-clause-first
returns-in-None-clause-first c =
    let es = window_entries c.self.inside.waiting in
    sym (ap (λ (s : OwnState). s.waiting) c.self.view_is) ∙ none_first es c.in-None.ensures
