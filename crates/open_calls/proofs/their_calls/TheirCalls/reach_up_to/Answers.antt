use Rattle.std.proofs.Common.{◌≡◌, suc, true, ◌∙◌, ap, subst, sym, arith}
use Rattle.number_windows.specs.Windows.{window_entries}
use Rattle.number_windows.specs.Numbered.{changed_at, Below, Ascending}
use Rattle.open_calls.specs.Theirs.{TheirState, cancelled, cancelled_at}
use Rattle.number_windows.proofs.Numbered.{below_changed}
use Rattle.open_calls.proofs.States.{through}
use Rattle.open_calls.proofs.Theirs.{state_of, same_calls, can_reach, reached_gone, none_up_to, first_up_to}
use Rattle.open_calls.proofs.their_calls.TheirCalls.reach_up_to.Goals as goal
use Rattle.open_calls.proofs.their_calls.TheirCalls.reach_up_to.Goals.{in_default-via-in-Some+else-number-most, in_default-via-in_default}

pub returns-in_default-clause-number : goal.returns-in_default-clause-number
returns-in_default-clause-number c =
    let order : Ascending c.args.self.now.calls = subst (λ (s : TheirState). Ascending s.calls) c.self.view_is c.self.invariant.window.ordered in
    elim c.in_default.branch [
      | in_default-via-in-Some+else-number-most w ↦ none_up_to c.args.self.now.calls c.args.id.now c.args.most order (λ k within. w.in-Some.ensures.1 k (omega (arith, within, w.if-number-most.false)))
      | in_default-via-in_default w ↦ none_up_to c.args.self.now.calls c.args.id.now c.args.most order (λ k within. w.in_default.ensures k)
    ]

pub returns-in_default-clause-state : goal.returns-in_default-clause-state
returns-in_default-clause-state c =
    ap (λ n. state_of c.args.self.now.came (cancelled_at n c.args.self.now.calls)) (returns-in_default-clause-number c)

pub invariant_of-self : goal.invariant_of-self
invariant_of-self c =
    let es = window_entries c.self.inside.calls in
    let now = window_entries c.cancel.new.calls in
    let number = c.in-Some.number in
    let seen : es ≡ c.args.self.now.calls = ap (λ (s : TheirState). s.calls) c.self.view_is in
    record {
      window = c.cancel.ensures.window;
      numbered = subst (λ fs. Below (suc c.self.inside.came) fs) (sym c.cancel.ensures.entries) (below_changed (suc c.self.inside.came) number cancelled es c.self.invariant.numbered);
      within = c.self.invariant.within;
      few = c.self.invariant.few;
      by_id = reached_gone c.self.inside.by_id c.forget.new.by_id c.self.inside.indexed es now number c.args.id.now c.forget.ensures.older c.forget.ensures.newer c.self.invariant.by_id
          c.cancel.ensures.entries (subst (λ fs. can_reach c.args.id.now fs number ≡ true) (sym seen) c.in-Some.ensures.0);
    }

pub returns-clause-number : goal.returns-clause-number
returns-clause-number c =
    let order : Ascending c.args.self.now.calls = subst (λ (s : TheirState). Ascending s.calls) c.self.view_is c.self.invariant.window.ordered in
    first_up_to c.args.self.now.calls c.args.id.now c.in-Some.number c.args.most order c.if-number-most.true c.in-Some.ensures.0 c.in-Some.ensures.1

pub returns-clause-state : goal.returns-clause-state
returns-clause-state c =
    let es = window_entries c.self.inside.calls in
    let number = c.in-Some.number in
    through (λ s. state_of s.came (changed_at number cancelled s.calls)) _ _ c.args.self.now c.self.view_is
    (same_calls c.self.inside.came (window_entries c.cancel.new.calls) (changed_at number cancelled es) c.cancel.ensures.entries)
    ∙ ap (λ n. state_of c.args.self.now.came (cancelled_at n c.args.self.now.calls)) (returns-clause-number c)
