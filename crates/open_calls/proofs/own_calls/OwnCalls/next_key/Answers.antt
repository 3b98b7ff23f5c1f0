use Rattle.std.proofs.Common.{◌+◌, Some, subst, add-one}
use Rattle.number_windows.specs.Numbered.{Above, Below, Ascending}
use Rattle.number_windows.specs.Windows.{window_entries}
use Rattle.open_calls.specs.Own.{OwnState}
use Rattle.open_calls.specs.Inner.{has_key, is_of, IsNext}
use Rattle.open_calls.proofs.Newest.{passing, next_listed, next_newer}
use Rattle.open_calls.proofs.own_calls.OwnCalls.next_key.Goals as goal

pub returns-in-Some-clause-next : goal.returns-in-Some-clause-next
returns-in-Some-clause-next c =
    let caller = c.args.caller in
    subst (λ (s : OwnState). IsNext (passing (is_of caller) s.waiting) c.args.after (Some c.in-Some.key)) c.self.view_is
    (next_listed (has_key c.self.inside.by_caller caller) (is_of caller) c.self.inside.indexed c.args.after (window_entries c.self.inside.waiting) c.in-Some.key
    (c.self.invariant.by_caller caller) c.in-Some.ensures)

pub returns-in-None-clause-next : goal.returns-in-None-clause-next
returns-in-None-clause-next c =
    let caller = c.args.caller in
    let es = window_entries c.self.inside.waiting in
    let r = c.first_behind.result in
    subst (λ (s : OwnState). IsNext (passing (is_of caller) s.waiting) c.args.after r) c.self.view_is
    (next_newer (has_key c.self.inside.by_caller caller) (is_of caller) c.self.inside.indexed c.args.after es r (c.self.invariant.by_caller caller) c.in-None.ensures
    (subst (λ m. IsNext (passing (is_of caller) es) m r) c.max.ensures c.first_behind.ensures))

pub returns-in-Some-clause-positive : goal.returns-in-Some-clause-positive
returns-in-Some-clause-positive c = subst (λ (s : OwnState). Above 0 s.waiting) c.self.view_is c.self.invariant.positive

pub returns-in-Some-clause-numbered : goal.returns-in-Some-clause-numbered
returns-in-Some-clause-numbered c = subst (λ (s : OwnState). Below (s.made + 1) s.waiting) c.self.view_is (rw add-one c.self.invariant.numbered)

pub returns-in-Some-clause-ascending : goal.returns-in-Some-clause-ascending
returns-in-Some-clause-ascending c = subst (λ (s : OwnState). Ascending s.waiting) c.self.view_is c.self.invariant.window.ordered

pub returns-in-None-clause-positive : goal.returns-in-None-clause-positive
returns-in-None-clause-positive c = subst (λ (s : OwnState). Above 0 s.waiting) c.self.view_is c.self.invariant.positive

pub returns-in-None-clause-numbered : goal.returns-in-None-clause-numbered
returns-in-None-clause-numbered c = subst (λ (s : OwnState). Below (s.made + 1) s.waiting) c.self.view_is (rw add-one c.self.invariant.numbered)

pub returns-in-None-clause-ascending : goal.returns-in-None-clause-ascending
returns-in-None-clause-ascending c = subst (λ (s : OwnState). Ascending s.waiting) c.self.view_is c.self.invariant.window.ordered
