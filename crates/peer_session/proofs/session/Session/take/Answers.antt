-- A unit that needs more numbers than are left is full, and any other is taken.
use Rattle.std.proofs.Common.{◌≡◌, ◌≤◌, ◌<◌, ◌-◌, Result, Ok, Err, refl, sym, ap, ◌∙◌, subst, nat_le, arith}
use Rattle.std.specs.Prelude.{OnErr}
use Rattle.rpc_messages.specs.Numbering.{unit_numbers}
use Rattle.rpc_messages.specs.Unit.{unit_seen}
use Rattle.peer_session.specs.Session.{view}
use Rattle.peer_session.specs.SessionState.{numbers_left, with_core}
use Rattle.peer_session.proofs.Ended.{nat_le-yes, nat_le-no}
use Rattle.peer_session.proofs.session.Session.take.Goals as goal

-- what holds after every answer holds after an error
at-error : {A B P : Type 0} (answer : Result A B) → P → OnErr answer P
at-error (Ok value) p = tt
at-error (Err error) p = p

-- Only the reader's room has changed, of which nothing is shown.
pub returns-in_err-unit-clause-err : goal.returns-in_err-unit-clause-err
unfolding view
returns-in_err-unit-clause-err c = at-error c.from_residual.result refl

pub returns-in_err-take_unit-clause-err : goal.returns-in_err-take_unit-clause-err
unfolding view
returns-in_err-take_unit-clause-err c = at-error c.from_residual-in_err-take_unit.result (ap (with_core (view c.args.self.now)) c.in_err-take_unit.ensures.err)

pub returns-then-numbers_of-left-clause-ok : goal.returns-then-numbers_of-left-clause-ok
unfolding view
returns-then-numbers_of-left-clause-ok c =
    let left : c.saturating_sub-left.result ≡ numbers_left (view c.args.self.now) =
    c.saturating_sub-left.ensures ∙ ap (λ n. c.args.self.now.limits.numbers - (n - 1)) c.next_number.ensures.next in
    let more = subst (λ n. n < unit_numbers (unit_seen c.in_ok-unit.unit)) left (subst (λ n. c.saturating_sub-left.result < n) c.numbers_of.ensures c.if-numbers_of-left.true) in (
      ap (λ n. nat_le n (numbers_left (view c.args.self.now))) (sym c.in_ok-unit.ensures.numbers) ∙ nat_le-no (unit_numbers (unit_seen c.in_ok-unit.unit)) (numbers_left (view c.args.self.now)) more,
      c.end.ensures,
    )

pub take_unit-requires : goal.take_unit-requires
unfolding view
take_unit-requires c =
    omega (
      arith,
      c.if-numbers_of-left.false,
      c.numbers_of.ensures,
      c.saturating_sub-left.ensures,
      c.next_number.ensures.next,
      c.next_number.ensures.few,
      c.next_number.ensures.some,
      c.args.self.now.limits.numbers_in_range,
    )

pub returns-clause-ok : goal.returns-clause-ok
unfolding view
returns-clause-ok c =
    let left : c.saturating_sub-left.result ≡ numbers_left (view c.args.self.now) =
    c.saturating_sub-left.ensures ∙ ap (λ n. c.args.self.now.limits.numbers - (n - 1)) c.next_number.ensures.next in
    let fits = subst (λ n. unit_numbers (unit_seen c.in_ok-unit.unit) ≤ n) left (subst (λ n. n ≤ c.saturating_sub-left.result) c.numbers_of.ensures c.if-numbers_of-left.false) in (
      ap (λ n. nat_le n (numbers_left (view c.args.self.now))) (sym c.in_ok-unit.ensures.numbers) ∙ nat_le-yes (unit_numbers (unit_seen c.in_ok-unit.unit)) (numbers_left (view c.args.self.now)) fits,
      (c.take_unit.new.runs, c.in_ok-unit.ensures.takes c.args.self.now.runs c.take_unit.new.runs c.in_ok-take_unit.ensures.ok, refl),
    )
