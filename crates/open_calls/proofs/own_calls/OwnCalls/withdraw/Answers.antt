use Rattle.std.proofs.Common.{◌≡◌, suc, Some, ◌∙◌, subst, sym, refl}
use Rattle.number_windows.specs.Windows.{window_entries}
use Rattle.number_windows.specs.Numbered.{at, up_to, changed_at, Above, Below}
use Rattle.open_calls.specs.Own.{withdrawn}
use Rattle.open_calls.specs.Inner.{IsKeyIndex}
use Rattle.number_windows.proofs.Numbered.{unchanged, below_changed, above_changed}
use Rattle.number_windows.proofs.Rows.{at_replaced}
use Rattle.open_calls.proofs.States.{through}
use Rattle.open_calls.proofs.Own.{state_of, same_waiting, index_same}
use Rattle.number_windows.proofs.StandIns.{put}
use Rattle.open_calls.proofs.own_calls.OwnCalls.withdraw.Goals as goal

pub invariant_of-self : goal.invariant_of-self
invariant_of-self c =
    let none = c.get_mut.follows.holds-at-none in
    record {
      window = none.1;
      positive = subst (λ fs. Above 0 fs) (sym none.0) c.self.invariant.positive;
      numbered = subst (λ fs. Below (suc c.self.inside.made) fs) (sym none.0) c.self.invariant.numbered;
      within = c.self.invariant.within;
      few = c.self.invariant.few;
      by_caller = subst (λ fs. IsKeyIndex c.self.inside.by_caller (up_to c.self.inside.indexed fs)) (sym none.0) c.self.invariant.by_caller;
    }

pub returns-in_default : goal.returns-in_default
returns-in_default c =
    let es = window_entries c.self.inside.waiting in
    through (λ s. state_of s.made (changed_at c.args.key withdrawn s.waiting)) _ _ c.args.self.now c.self.view_is
    (same_waiting c.self.inside.made (window_entries c.get_mut.follows.lender-at-none) (changed_at c.args.key withdrawn es)
    (c.get_mut.follows.holds-at-none.0 ∙ unchanged c.args.key withdrawn es (sym c.in_default.ensures.value)))

pub invariant_of-self-2 : goal.invariant_of-self-2
invariant_of-self-2 c =
    let es = window_entries c.self.inside.waiting in
    let call = c.in-Some.call.now in
    let window = c.get_mut.follows.lender (withdrawn call) in
    let holds = c.get_mut.follows.holds (withdrawn call) in
    let now = window_entries window in
    let there : at c.args.key es ≡ Some call = sym c.in-Some.ensures.value in
    let is : now ≡ changed_at c.args.key withdrawn es = holds.0 ∙ put c.args.key withdrawn call (withdrawn call) es c.self.invariant.window.ordered there refl in
    let changes = at_replaced c.args.key withdrawn call es now is there in
    record {
      window = holds.1;
      positive = subst (λ fs. Above 0 fs) (sym is) (above_changed 0 c.args.key withdrawn es c.self.invariant.positive);
      numbered = subst (λ fs. Below (suc c.self.inside.made) fs) (sym is) (below_changed (suc c.self.inside.made) c.args.key withdrawn es c.self.invariant.numbered);
      within = c.self.invariant.within;
      few = c.self.invariant.few;
      by_caller = index_same c.self.inside.by_caller c.self.inside.indexed es now c.args.key call (withdrawn call) c.self.invariant.by_caller changes there refl;
    }

pub returns : goal.returns
returns c =
    let es = window_entries c.self.inside.waiting in
    let call = c.in-Some.call.now in
    let holds = c.get_mut.follows.holds (withdrawn call) in
    let there : at c.args.key es ≡ Some call = sym c.in-Some.ensures.value in
    through (λ s. state_of s.made (changed_at c.args.key withdrawn s.waiting)) _ _ c.args.self.now c.self.view_is
    (same_waiting c.self.inside.made (window_entries (c.get_mut.follows.lender (withdrawn call))) (changed_at c.args.key withdrawn es)
    (holds.0 ∙ put c.args.key withdrawn call (withdrawn call) es c.self.invariant.window.ordered there refl))
