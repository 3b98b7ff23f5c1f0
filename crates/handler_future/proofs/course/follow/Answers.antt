use Rattle.std.proofs.Common.{◌≡◌, List, OnOk, OnErr, IfOk, subst, sym}
use Rattle.serde_json.specs.Data.{Data}
use Rattle.method_templates.specs.Locals.{with_lent}
use Rattle.method_templates.specs.declared.locals.Row.{Row}
use Rattle.handler_future.specs.declared.act.Act.{Act}
use Rattle.handler_future.specs.Act.{act_of}
use Rattle.handler_future.specs.Inner.Course.{Course, Seen, seen, after_act}
use Rattle.handler_future.proofs.course.follow.Goals as goal

-- the act that it stands for, and what it makes of the course
pub returns-in-Some-clause-course : goal.returns-in-Some-clause-course
returns-in-Some-clause-course c =
    let lent : Data = c.args.lent.now in
    let now : Seen = seen lent c.args.course.now in
    let P : Act → Type 0 = λ a. seen lent c.end.new.course ≡ (after_act c.args.step.now now a).0 in
    subst P (sym (c.in-Some.ensures.some lent)) (c.end.ensures.course lent)

pub returns-in-Some-clause-progress : goal.returns-in-Some-clause-progress
returns-in-Some-clause-progress c =
    let lent : Data = c.args.lent.now in
    let now : Seen = seen lent c.args.course.now in
    let P : Act → Type 0 = λ a. c.end.result ≡ (after_act c.args.step.now now a).1 in
    subst P (sym (c.in-Some.ensures.some lent)) c.end.ensures.progress

-- nothing was taken
pub returns-in-None-clause-course : goal.returns-in-None-clause-course
returns-in-None-clause-course c =
    let lent : Data = c.args.lent.now in
    let at : List Row → Course = λ f. record c.args.course.now { registers = f } in
    let P : List Row → Type 0 = λ f. OnOk c.carry_out.result (seen lent c.carry_out.new.course ≡ (after_act c.args.step.now (seen lent (at f)) (act_of (with_lent lent f) c.args.step.now)).0) in
    subst P c.in-None.ensures.none c.carry_out.ensures.course

pub returns-in-None-clause-progress : goal.returns-in-None-clause-progress
returns-in-None-clause-progress c =
    let lent : Data = c.args.lent.now in
    let at : List Row → Course = λ f. record c.args.course.now { registers = f } in
    let P : List Row → Type 0 = λ f. IfOk c.carry_out.result (λ p. p ≡ (after_act c.args.step.now (seen lent (at f)) (act_of (with_lent lent f) c.args.step.now)).1) in
    subst P c.in-None.ensures.none c.carry_out.ensures.progress

pub returns-in-None-clause-err : goal.returns-in-None-clause-err
returns-in-None-clause-err c =
    let lent : Data = c.args.lent.now in
    let at : List Row → Course = λ f. record c.args.course.now { registers = f } in
    let P : List Row → Type 0 = λ f. OnErr c.carry_out.result (seen lent c.carry_out.new.course ≡ seen lent (at f)) in
    subst P c.in-None.ensures.none c.carry_out.ensures.err
