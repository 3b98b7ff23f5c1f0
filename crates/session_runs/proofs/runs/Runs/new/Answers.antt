use Rattle.std.proofs.Common.{◌≡◌, Some, ap, sym, ◌∙◌}
use Rattle.handler_future.specs.State.{opening_state}
use Rattle.session_runs.proofs.Starting.{AreRuns-started, started, number-zero, no-waits, no-messages, is-start, none-start}
use Rattle.session_runs.proofs.runs.Runs.new.Goals as goal

pub invariant_of-result-in-Some : goal.invariant_of-result-in-Some
invariant_of-result-in-Some c =
    let steps = c.args.table.now.opening in
    let h = c.in-Some.handler in
    let is : Some h ≡ opening_state steps = sym c.in-Some.is ∙ c.in_ok-opening.ensures in
    let r = c.in_ok-set_with_zero-in-Some in
    let u = c.in_ok-set_with_room-in-Some in
    rw (c.in_ok-with_first-in-Some.ensures, c.in_ok-with_opening-in-Some.ensures)
    (AreRuns-started h c.opening_most.result r.field-0 u.field-0 (number-zero steps h is) (no-waits steps h is) (no-messages steps h is)
    r.ensures.room r.ensures.zero r.ensures.others u.ensures.room u.ensures.none)

pub returns-in_ok-with_opening-in-Some : goal.returns-in_ok-with_opening-in-Some
returns-in_ok-with_opening-in-Some c =
    let steps = c.args.table.now.opening in
    let h = c.in-Some.handler in
    let is : Some h ≡ opening_state steps = sym c.in-Some.is ∙ c.in_ok-opening.ensures in
    rw (c.in_ok-with_first-in-Some.ensures, c.in_ok-with_opening-in-Some.ensures) (ap (started h) c.opening_most.ensures.number ∙ is-start steps h is)

pub returns-in_ok-new-in-None : goal.returns-in_ok-new-in-None
returns-in_ok-new-in-None c =
    let steps = c.args.table.now.opening in
    rw (c.new.ensures, c.new-in-None.ensures) (none-start steps (sym c.in-None.is ∙ c.in_ok-opening.ensures))
