use Rattle.std.proofs.Common.{◌≡◌, ◌<◌, get_or, sym, subst, ◌∙◌, arith}
use Rattle.method_templates.specs.Steps.{Step}
use Rattle.handler_future.specs.declared.course.Progress.{Progress}
use Rattle.handler_future.specs.declared.course.Progress.TheVariants.{Going}
use Rattle.handler_future.specs.Inner.Course.{Seen, seen, after_replies}
use Rattle.handler_future.specs.Inner.Standing.{Begins}
use Rattle.handler_future.proofs.Adds.{replies_add}
use Rattle.handler_future.proofs.Follows.{after_replies-leads, parked-begins, parked-heard}
use Rattle.handler_future.proofs.Runs.{here_in, after_replies_runnable, stays_after_replies, after_replies_room, if_ok, on_err, on_err-map}
use Rattle.handler_future.proofs.course.proceed.Goals as goal

pub returns-in_default : goal.returns-in_default
returns-in_default c =
    let steps = c.args.steps.now in
    let now : Seen = seen c.args.lent.now c.args.course.now in
    let new : Seen = seen c.args.lent.now c.take_replies.new.course in
    let s : Step = c.index-steps-course.result in
    let q : Progress = c.in_ok-halt.halt in
    let asked : 0 < now.asked = omega arith in
    let ready = c.requires.ready.take_replies asked in
    let here : get_or steps now.place s ≡ s = sym c.index-steps-course.is in
    let told = c.in_ok-halt.ensures in
    record {
      leads = λ p same under. after_replies-leads p s now new q (under.parked asked) (here_in p steps now.place s same ready.place here) ready.no_waits (told.course c.args.lent.now) (told.progress c.args.lent.now);
      halts = c.in_default.not-Going;
      err = tt;
      stays = stays_after_replies now new s (told.course c.args.lent.now);
      adds = replies_add s now new q (told.course c.args.lent.now) (told.progress c.args.lent.now);
      room = after_replies_room now s q c.take_replies.new.course (told.progress c.args.lent.now);
    }

pub returns-in_err-halt-clause-err : goal.returns-in_err-halt-clause-err
returns-in_err-halt-clause-err c =
    let now : Seen = seen c.args.lent.now c.args.course.now in
    let new : Seen = seen c.args.lent.now c.take_replies.new.course in
    let asked : 0 < now.asked = omega arith in
    let waits = (c.requires.ready.take_replies asked).no_waits in
    let same_course : new ≡ now = c.in_err-halt.ensures.err c.args.lent.now in
    on_err c.from_residual.result (λ p same under. let P : Seen → Type 0 = Begins p in
    subst P (sym same_course) (record { law = parked-begins p now (under.parked asked); heard = parked-heard p now (under.parked asked) waits; no_waits = waits }))

pub returns-in-Going-clause-leads : goal.returns-in-Going-clause-leads
returns-in-Going-clause-leads c =
    let steps = c.args.steps.now in
    let now : Seen = seen c.args.lent.now c.args.course.now in
    let new : Seen = seen c.args.lent.now c.take_replies.new.course in
    let s : Step = c.index-steps-course.result in
    let asked : 0 < now.asked = omega arith in
    let ready = c.requires.ready.take_replies asked in
    let here : get_or steps now.place s ≡ s = sym c.index-steps-course.is in
    let told = c.in_ok-halt.ensures in
    let going : Going ≡ (after_replies s now).1 = sym c.in-Going.is ∙ told.progress c.args.lent.now in
    if_ok c.run-in-Going.result (λ q leads p same under. leads p same
    (after_replies-leads p s now new Going (under.parked asked) (here_in p steps now.place s same ready.place here) ready.no_waits (told.course c.args.lent.now) going)) c.run-in-Going.ensures.leads

pub returns-in-Going-clause-err : goal.returns-in-Going-clause-err
returns-in-Going-clause-err c =
    let steps = c.args.steps.now in
    let now : Seen = seen c.args.lent.now c.args.course.now in
    let new : Seen = seen c.args.lent.now c.take_replies.new.course in
    let s : Step = c.index-steps-course.result in
    let asked : 0 < now.asked = omega arith in
    let ready = c.requires.ready.take_replies asked in
    let here : get_or steps now.place s ≡ s = sym c.index-steps-course.is in
    let told = c.in_ok-halt.ensures in
    let going : Going ≡ (after_replies s now).1 = sym c.in-Going.is ∙ told.progress c.args.lent.now in
    on_err-map c.run-in-Going.result (λ begins p same under. begins p same
    (after_replies-leads p s now new Going (under.parked asked) (here_in p steps now.place s same ready.place here) ready.no_waits (told.course c.args.lent.now) going)) c.run-in-Going.ensures.err

pub run-requires-in-Going-clause-ready : goal.run-requires-in-Going-clause-ready
run-requires-in-Going-clause-ready c =
    let now : Seen = seen c.args.lent.now c.args.course.now in
    let new : Seen = seen c.args.lent.now c.take_replies.new.course in
    let s : Step = c.index-steps-course.result in
    let asked : 0 < now.asked = omega arith in
    let told = c.in_ok-halt.ensures in
    let going : Going ≡ (after_replies s now).1 = sym c.in-Going.is ∙ told.progress c.args.lent.now in
    after_replies_runnable c.args.steps.now now new s (c.requires.ready.take_replies asked) (told.course c.args.lent.now) going
