use Rattle.std.proofs.Common.{◌≡◌, suc, Some, ◌∙◌, ◌==◌, not, ap, is_some, subst, sym}
use Rattle.number_windows.specs.Windows.{window_entries}
use Rattle.number_windows.specs.Numbered.{at, without, up_to, Above, Below}
use Rattle.open_calls.specs.Own.{OwnState}
use Rattle.open_calls.specs.Inner.{IsKeyIndex}
use Rattle.number_windows.proofs.Numbered.{below_filter, above_filter}
use Rattle.number_windows.proofs.Rows.{at_gone, without_missing}
use Rattle.open_calls.proofs.States.{through}
use Rattle.open_calls.proofs.Own.{state_of, same_waiting, forgotten}
use Rattle.open_calls.proofs.own_calls.OwnCalls.remove.Goals as goal

pub invariant_of-self-2 : goal.invariant_of-self-2
invariant_of-self-2 c =
    let es = window_entries c.self.inside.waiting in
    let now = window_entries c.remove.new.self in
    let call = c.in-Some.call in
    let is : now ≡ without c.args.key es = c.remove.ensures.entries in
    let there : at c.args.key es ≡ Some call = sym c.in-Some.ensures.value in
    let changes = at_gone c.args.key es now is in
    record {
      window = c.remove.ensures.window;
      positive = subst (λ fs. Above 0 fs) (sym is) (above_filter 0 (λ e. not (c.args.key == e.0)) es c.self.invariant.positive);
      numbered = subst (λ fs. Below (suc c.self.inside.made) fs) (sym is) (below_filter (suc c.self.inside.made) (λ e. not (c.args.key == e.0)) es c.self.invariant.numbered);
      within = c.self.invariant.within;
      few = c.self.invariant.few;
      by_caller = forgotten c.self.inside.by_caller c.forget.new.by_caller c.self.inside.indexed es now c.args.key call c.forget.ensures.older c.forget.ensures.newer
          c.self.invariant.by_caller changes there;
    }

pub invariant_of-self : goal.invariant_of-self
invariant_of-self c =
    let es = window_entries c.self.inside.waiting in
    let same : window_entries c.remove.new.self ≡ es = c.remove.ensures.entries ∙ without_missing c.args.key es (sym c.in_default.ensures.value) in
    record {
      window = c.remove.ensures.window;
      positive = subst (λ fs. Above 0 fs) (sym same) c.self.invariant.positive;
      numbered = subst (λ fs. Below (suc c.self.inside.made) fs) (sym same) c.self.invariant.numbered;
      within = c.self.invariant.within;
      few = c.self.invariant.few;
      by_caller = subst (λ fs. IsKeyIndex c.self.inside.by_caller (up_to c.self.inside.indexed fs)) (sym same) c.self.invariant.by_caller;
    }

pub returns-in_default-clause-was : goal.returns-in_default-clause-was
returns-in_default-clause-was c =
    ap is_some (c.in_default.ensures.value ∙ ap (λ (s : OwnState). at c.args.key s.waiting) c.self.view_is)

pub returns-in_default-clause-state : goal.returns-in_default-clause-state
returns-in_default-clause-state c =
    let es = window_entries c.self.inside.waiting in
    through (λ s. state_of s.made (without c.args.key s.waiting)) _ _ c.args.self.now c.self.view_is
    (same_waiting c.self.inside.made (window_entries c.remove.new.self) (without c.args.key es) c.remove.ensures.entries)

pub returns-clause-was : goal.returns-clause-was
returns-clause-was c =
    ap is_some (c.in-Some.ensures.value ∙ ap (λ (s : OwnState). at c.args.key s.waiting) c.self.view_is)

pub returns-clause-state : goal.returns-clause-state
returns-clause-state c =
    let es = window_entries c.self.inside.waiting in
    through (λ s. state_of s.made (without c.args.key s.waiting)) _ _ c.args.self.now c.self.view_is
    (same_waiting c.self.inside.made (window_entries c.remove.new.self) (without c.args.key es) c.remove.ensures.entries)
