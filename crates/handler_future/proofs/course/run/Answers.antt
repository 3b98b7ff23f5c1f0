use Rattle.std.proofs.Common.{◌≡◌, ℕ, ◌<◌, [], length, drop, get_or, sym, subst, ◌∙◌, arith, Ok, Option, IfSome}
use Rattle.rpc_messages.specs.declared.reply.Reply.{Reply}
use Rattle.method_templates.specs.Steps.{Step, KeepsLimits}
use Rattle.handler_future.specs.declared.course.Progress.{Progress}
use Rattle.handler_future.specs.declared.course.Progress.TheVariants.{Going}
use Rattle.handler_future.specs.Act.{act_of}
use Rattle.handler_future.specs.Evaluation.{Replies, eval, ended}
use Rattle.handler_future.specs.Inner.Course.{Seen, seen, after_act}
use Rattle.handler_future.proofs.Adds.{more_added, goes_on_adding, step_adds}
use Rattle.handler_future.proofs.Follows.{step-leads}
use Rattle.handler_future.proofs.Runs.{here_in, runnable_goes, stays_moved, stays_more}
use Rattle.handler_future.proofs.Sums.{comes-at-once, stays-ended, adds-ended}
use Rattle.handler_future.proofs.course.run.Goals as goal

pub steps-preserved : goal.steps-preserved
steps-preserved c =
    let steps = c.args.steps.now in
    let now : Seen = seen c.args.lent.now c.steps.course in
    let new : Seen = seen c.args.lent.now c.follow.new.course in
    let s : Step = c.index-steps-course.result in
    let here : get_or steps now.place s ≡ s = sym c.index-steps-course.is in
    let within : now.place < length steps = omega arith in
    let told = c.in_ok-halt.ensures in
    let is : new ≡ (after_act s now (act_of now.registers s)).0 = told.course in
    let going : Going ≡ (after_act s now (act_of now.registers s)).1 = sym c.in-Going.is ∙ told.progress in
    let limits : KeepsLimits s = subst KeepsLimits here (c.requires.limits.each now.place s within) in
    record {
      stands = λ p same first. step-leads p s now new Going limits (here_in p steps now.place s same within here) (c.steps.invariant.stands p same first) is going;
      stays = stays_more (seen c.args.lent.now c.args.course.now) now new c.steps.invariant.stays (stays_moved now new s is);
      adds = more_added c.args.course.now.messages.items now.messages new.messages [] c.steps.invariant.adds (step_adds s now new Going limits is going);
      runnable = runnable_goes steps now new s c.steps.invariant.runnable is going;
    }

pub returns-in_default-2 : goal.returns-in_default-2
returns-in_default-2 c =
    let steps = c.args.steps.now in
    let now : Seen = seen c.args.lent.now c.steps.course in
    let new : Seen = seen c.args.lent.now c.follow.new.course in
    let s : Step = c.index-steps-course.result in
    let q : Progress = c.in_ok-halt.halt in
    let here : get_or steps now.place s ≡ s = sym c.index-steps-course.is in
    let within : now.place < length steps = omega arith in
    let told = c.in_ok-halt.ensures in
    let limits : KeepsLimits s = subst KeepsLimits here (c.requires.limits.each now.place s within) in
    record {
      leads = λ p same first. step-leads p s now new q limits (here_in p steps now.place s same within here) (c.steps.invariant.stands p same first) told.course told.progress;
      halts = c.in_default-2.not-Going;
      err = tt;
      stays = stays_more (seen c.args.lent.now c.args.course.now) now new c.steps.invariant.stays (stays_moved now new s told.course);
      adds = goes_on_adding (Ok q) (seen c.args.lent.now c.args.course.now) now new c.steps.invariant.adds (step_adds s now new q limits told.course told.progress);
      room = told.room;
    }

-- the step and the next one have answered a sum
pub returns-in-Some-clause-leads : goal.returns-in-Some-clause-leads
returns-in-Some-clause-leads c = λ p same first.
    let lent = c.args.lent.now in
    let now : Seen = seen lent c.steps.course in
    let P : Option Reply → Type 0 = λ x. IfSome x (λ reply. (R : Replies) (turn : ℕ) → eval R 0 (drop now.place c.args.steps.now) now.registers turn ≡ ended reply) in
    comes-at-once p c.args.steps.now now (seen lent c.end.new.course) c.end.result c.in-Some.reply same (c.steps.invariant.stands p same first) (subst P c.in-Some.is c.in_ok-reply.ensures) (c.end.ensures.course lent) c.end.ensures.progress

pub returns-in-Some-clause-stays : goal.returns-in-Some-clause-stays
returns-in-Some-clause-stays c =
    let lent = c.args.lent.now in
    let now : Seen = seen lent c.steps.course in
    let new : Seen = seen lent c.end.new.course in
    stays_more (seen lent c.args.course.now) now new c.steps.invariant.stays (stays-ended now new (c.end.ensures.course lent))

pub returns-in-Some-clause-adds : goal.returns-in-Some-clause-adds
returns-in-Some-clause-adds c =
    let lent = c.args.lent.now in
    adds-ended (seen lent c.args.course.now) (seen lent c.steps.course) (seen lent c.end.new.course) c.end.result c.in-Some.reply c.steps.invariant.adds (c.end.ensures.course lent) c.end.ensures.progress
