use Rattle.std.proofs.Common.{◌≡◌, ap, ◌-◌, suc, subst, sym, arith}
use Rattle.number_windows.specs.Windows.{window_entries}
use Rattle.number_windows.specs.Numbered.{without, Below}
use Rattle.owed_answers.specs.Owed.{OwedState}
use Rattle.number_windows.proofs.Numbered.{below_without}
use Rattle.owed_answers.proofs.OwedLemmas.{through, state_of, same_owed}
use Rattle.owed_answers.proofs.owed_answers.OwedAnswers.undo_unit.Goals as goal

pub invariant_of-self : goal.invariant_of-self
invariant_of-self c =
    let place = c.self.inside.places - 1 in
    let es = window_entries c.self.inside.owed in
    let places : c.self.inside.places ≡ suc place = let seen : c.self.inside.places ≡ c.args.self.now.places = ap (λ (s : OwedState). s.places) c.self.view_is in omega (arith, c.requires) in
    record {
      window = c.remove.ensures.window;
      numbered = subst (λ fs. Below place fs) (sym c.remove.ensures.entries) (below_without place es (subst (λ n. Below n es) places c.self.invariant.numbered));
    }

pub returns : goal.returns
returns c =
    let place = c.self.inside.places - 1 in
    through (λ s. state_of (s.places - 1) (without (s.places - 1) s.owed)) _ _ c.args.self.now c.self.view_is
    (same_owed place (window_entries c.remove.new.self) (without place (window_entries c.self.inside.owed)) c.remove.ensures.entries)
