use Rattle.std.proofs.Common.{◌≡◌, suc, Some, ◌∙◌, ◌==◌, not, subst, sym}
use Rattle.number_windows.specs.Windows.{window_entries}
use Rattle.number_windows.specs.Numbered.{at, without, up_to, Below}
use Rattle.open_calls.specs.Inner.{IsNumberIndex}
use Rattle.number_windows.proofs.Numbered.{below_filter}
use Rattle.open_calls.proofs.States.{through}
use Rattle.number_windows.proofs.Rows.{at_gone, without_missing}
use Rattle.open_calls.proofs.Theirs.{state_of, same_calls, forgotten}
use Rattle.open_calls.proofs.their_calls.TheirCalls.close.Goals as goal

pub returns-in-None-clause-state : goal.returns-in-None-clause-state
returns-in-None-clause-state c =
    let es = window_entries c.self.inside.calls in
    through (λ s. state_of s.came (without c.args.number s.calls)) _ _ c.args.self.now c.self.view_is
    (same_calls c.self.inside.came (window_entries c.remove.new.self) (without c.args.number es) c.remove.ensures.entries)

pub invariant_of-self : goal.invariant_of-self
invariant_of-self c =
    let es = window_entries c.self.inside.calls in
    let same : window_entries c.remove.new.self ≡ es = c.remove.ensures.entries ∙ without_missing c.args.number es (sym c.in-None.ensures.value) in
    record {
      window = c.remove.ensures.window;
      numbered = subst (λ fs. Below (suc c.self.inside.came) fs) (sym same) c.self.invariant.numbered;
      within = c.self.invariant.within;
      few = c.self.invariant.few;
      by_id = subst (λ fs. IsNumberIndex c.self.inside.by_id (up_to c.self.inside.indexed fs)) (sym same) c.self.invariant.by_id;
    }

pub invariant_of-self-2 : goal.invariant_of-self-2
invariant_of-self-2 c =
    let es = window_entries c.self.inside.calls in
    let now = window_entries c.remove.new.self in
    let call = c.in-Some.call in
    let there : at c.args.number es ≡ Some call = sym c.in-Some.ensures.value in
    record {
      window = c.remove.ensures.window;
      numbered = subst (λ fs. Below (suc c.self.inside.came) fs) (sym c.remove.ensures.entries) (below_filter (suc c.self.inside.came) (λ e. not (c.args.number == e.0)) es c.self.invariant.numbered);
      within = c.self.invariant.within;
      few = c.self.invariant.few;
      by_id = forgotten c.self.inside.by_id c.forget_call.new.by_id c.self.inside.indexed es now c.args.number call
          c.forget_call.ensures.older c.forget_call.ensures.newer c.self.invariant.by_id (at_gone c.args.number es now c.remove.ensures.entries) there;
    }

pub returns-clause-state : goal.returns-clause-state
returns-clause-state c =
    let es = window_entries c.self.inside.calls in
    through (λ s. state_of s.came (without c.args.number s.calls)) _ _ c.args.self.now c.self.view_is
    (same_calls c.self.inside.came (window_entries c.remove.new.self) (without c.args.number es) c.remove.ensures.entries)
