use Rattle.std.proofs.Common.{subst}
use Rattle.connection.specs.Inner.{HasDone, with_untold}
use Rattle.connection.proofs.Asked.{gone_none, gone_on, refused_there, reported_there, stays_still}
use Rattle.connection.proofs.Stands.{on_err}
use Rattle.connection.proofs.connection.Connection.next_event.Goals as goal

pub loop-event-init : goal.loop-event-init
loop-event-init c = gone_none c.args.self.now

pub returns-in-Some-clause-told : goal.returns-in-Some-clause-told
returns-in-Some-clause-told c = λ history told stands.
    let g = c.loop-event.invariant.gone history told stands in
    (g.history, g.steps, c.in-Some.ensures.told g.history told g.stands)

pub returns-in_err-step-clause-err : goal.returns-in_err-step-clause-err
returns-in_err-step-clause-err c = λ history told stands.
    let n = c.next_untold.ensures.none c.in_default.is in
    on_err c.from_residual.result (refused_there c.args.self.now c.loop-event.self c.next_untold.new.self c.go_on.new.self history told c.loop-event.invariant n.0 n.1 c.in_err-step.ensures.err stands)

pub returns-in-Stayed-clause-none : goal.returns-in-Stayed-clause-none
returns-in-Stayed-clause-none c = λ history told stands e.
    let n = c.next_untold.ensures.none c.in_default.is in
    let done = subst (λ step. HasDone step c.next_untold.new.self c.go_on.new.self) c.in-Stayed.is c.in_ok-step.ensures.step in
    stays_still c.args.self.now c.loop-event.self c.next_untold.new.self c.go_on.new.self history told c.loop-event.invariant n.0 n.1 done stands

pub loop-event-preserved : goal.loop-event-preserved
loop-event-preserved c =
    let n = c.next_untold.ensures.none c.in_default.is in
    let done = subst (λ step. HasDone step c.next_untold.new.self c.go_on.new.self) c.in-Moved.is c.in_ok-step.ensures.step in
    gone_on c.args.self.now c.loop-event.self c.next_untold.new.self c.go_on.new.self c.loop-event.invariant n.0 n.1 done

pub returns-in-Told-clause-told : goal.returns-in-Told-clause-told
returns-in-Told-clause-told c = λ history told stands.
    let event = c.in-Told.event in
    let n = c.next_untold.ensures.none c.in_default.is in
    let done = subst (λ step. HasDone step c.next_untold.new.self c.go_on.new.self) c.in-Told.is c.in_ok-step.ensures.step in
    let gone = gone_on c.args.self.now c.loop-event.self c.next_untold.new.self (with_untold event c.go_on.new.self) c.loop-event.invariant n.0 n.1 done.moved in
    reported_there c.args.self.now c.go_on.new.self event history told gone done.none stands
