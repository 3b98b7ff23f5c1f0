use Rattle.std.proofs.Common.{◌≡◌, ◌≢◌, ◌<◌, [], length, Ok, Some, None, sym, ap, ◌∙◌, subst, arith}
use Rattle.std.proofs.lemmas.Bool.Decides.{nat_tests}
use Rattle.std.proofs.lemmas.Grind.{common_steps}
use Rattle.serde_json.specs.Data.{Data}
use Rattle.handler_future.specs.declared.phase.Phase.{Phase}
use Rattle.handler_future.specs.declared.phase.Phase.TheVariants as phases
use Rattle.handler_future.specs.Inner.Course.{Seen, seen}
use Rattle.handler_future.specs.Evaluation.{Program}
use Rattle.handler_future.specs.Inner.Handler.{program_of, seen_course}
use Rattle.handler_future.specs.declared.outcome.Outcome.TheVariants.{Answer, Failed}
use Rattle.handler_future.specs.declared.course.Progress.{Progress}
use Rattle.handler_future.specs.declared.course.Progress.TheVariants.{Waiting, Ended}
use Rattle.handler_future.specs.Inner.Running.{HasRoomToWait, Extends}
use Rattle.handler_future.proofs.Follows.{come-begins}
use Rattle.handler_future.specs.Inner.Standing.{Stands, IsUnderWay, IsParked, HasCome, Begins, Leads}
use Rattle.handler_future.specs.State.{HandlerState, IsPoll}
use Rattle.handler_future.proofs.Polls.{state_at, poll-again, poll-ended, poll-waits, poll-failed, poll-over, over-begins, parked-under_way}
use Rattle.handler_future.proofs.run.poll.Goals as goal

pub returns-in_default-clause-polled : goal.returns-in_default-clause-polled
returns-in_default-clause-polled c =
    let r = c.args.run.now in
    let p : Program = program_of r in
    let now : Seen = seen_course r in
    let over : r.phase ≢ phases.UnderWay = c.in_default.not-UnderWay in
    poll-over r.number p now r.phase over (over-begins p r.phase now over c.requires.stands)

pub returns-then-not-is_empty-clause-polled : goal.returns-then-not-is_empty-clause-polled
returns-then-not-is_empty-clause-polled c =
    let r = c.args.run.now in
    let p : Program = program_of r in
    let now : Seen = seen_course r in
    let S : Phase → Type 0 = λ b. Stands p b now in
    let under : IsUnderWay p now = subst S c.in-UnderWay.is c.requires.stands in
    let before : state_at r.number p now phases.UnderWay ≡ state_at r.number p now r.phase = ap (state_at r.number p now) (sym c.in-UnderWay.is) in
    let some : 0 < length now.waits = grind (arith, nat_tests, common_steps) in
    let P : HandlerState → Type 0 = λ x. IsPoll x x None in
    subst P before (poll-again r.number p now under some)

pub returns-in-Ok-Ended : goal.returns-in-Ok-Ended
returns-in-Ok-Ended c =
    let r = c.args.run.now in
    let p : Program = program_of r in
    let lent : Data = c.lent_params-lent.result.now in
    let now : Seen = seen lent r.course in
    let new : Seen = seen lent c.proceed-came.new.course in
    let M : Data → Type 0 = λ d. Stands p r.phase (seen d r.course) in
    let stands : Stands p r.phase now = subst M (sym c.lent_params-lent.ensures) c.requires.stands in
    let S : Phase → Type 0 = λ b. Stands p b now in
    let under : IsUnderWay p now = subst S c.in-UnderWay.is stands in
    let steps : c.as_slice.result.now ≡ p.steps = c.as_slice.ensures.value ∙ ap (λ v. v.items) c.deref.ensures in
    let before : state_at r.number p now phases.UnderWay ≡ state_at r.number p now r.phase = ap (state_at r.number p now) (sym c.in-UnderWay.is) in
    let told = c.in-Ok-Ended.ensures in
    let L : Progress → Type 0 = λ q. Leads p new q in
    let come : HasCome p new c.in-Ok-Ended.reply = subst L c.in-Ok-Ended.field-0-is (told.leads p (sym steps) under) in
    let none : now.waits ≡ [] = grind (arith, nat_tests, common_steps) in
    let X : Progress → Type 0 = λ q. Extends (Ok q) now new in
    let adds : Extends (Ok (Ended c.in-Ok-Ended.reply)) now new = subst X c.in-Ok-Ended.field-0-is told.adds in
    let P : HandlerState → Type 0 = λ x. IsPoll x (state_at r.number p new phases.Answered) (Some (Answer c.in-Ok-Ended.reply)) in
    let b = come-begins p new c.in-Ok-Ended.reply come in
    record {
      polled = subst P before (poll-ended r.number p now new c.in-Ok-Ended.reply none come told.stays adds);
      kept = record { limits = c.requires.limits; room = λ some. absurd (let e = ap length b.no_waits in omega arith); stands = (let K : Data → Type 0 = λ d. Begins p (seen d c.proceed-came.new.course) in subst K c.lent_params-lent.ensures b) };
    }

pub unreachable-requires : goal.unreachable-requires
unreachable-requires c = c.in-Ok-Going.ensures.halts c.in-Ok-Going.field-0-is

pub returns-in-Ok-Waiting : goal.returns-in-Ok-Waiting
returns-in-Ok-Waiting c =
    let r = c.args.run.now in
    let p : Program = program_of r in
    let lent : Data = c.lent_params-lent.result.now in
    let now : Seen = seen lent r.course in
    let new : Seen = seen lent c.proceed-came.new.course in
    let M : Data → Type 0 = λ d. Stands p r.phase (seen d r.course) in
    let stands : Stands p r.phase now = subst M (sym c.lent_params-lent.ensures) c.requires.stands in
    let S : Phase → Type 0 = λ b. Stands p b now in
    let under : IsUnderWay p now = subst S c.in-UnderWay.is stands in
    let steps : c.as_slice.result.now ≡ p.steps = c.as_slice.ensures.value ∙ ap (λ v. v.items) c.deref.ensures in
    let before : state_at r.number p now phases.UnderWay ≡ state_at r.number p now r.phase = ap (state_at r.number p now) (sym c.in-UnderWay.is) in
    let told = c.in-Ok-Waiting.ensures in
    let L : Progress → Type 0 = λ q. Leads p new q in
    let parked : IsParked p new × (0 < length new.waits) = subst L c.in-Ok-Waiting.field-0-is (told.leads p (sym steps) under) in
    let none : now.waits ≡ [] = grind (arith, nat_tests, common_steps) in
    let X : Progress → Type 0 = λ q. Extends (Ok q) now new in
    let adds : Extends (Ok Waiting) now new = subst X c.in-Ok-Waiting.field-0-is told.adds in
    let P : HandlerState → Type 0 = λ x. IsPoll x (state_at r.number p new phases.UnderWay) None in
    let Q : Phase → Type 0 = λ b. IsPoll (state_at r.number p now r.phase) (state_at r.number p new b) None in
    let T : Phase → Type 0 = λ b. Stands p b new in
    record {
      polled = subst Q (sym c.in-UnderWay.is) (subst P before (poll-waits r.number p now new none parked told.stays adds));
      kept = record {
        limits = c.requires.limits;
        room = λ some. (let R : Progress → Type 0 = λ q. HasRoomToWait q c.proceed-came.new.course in subst R c.in-Ok-Waiting.field-0-is told.room);
        stands = (let K : Data → Type 0 = λ d. Stands p r.phase (seen d c.proceed-came.new.course) in subst K c.lent_params-lent.ensures (subst T (sym c.in-UnderWay.is) (parked-under_way p new parked.0)));
      };
    }

pub returns-in-Err : goal.returns-in-Err
returns-in-Err c =
    let r = c.args.run.now in
    let p : Program = program_of r in
    let lent : Data = c.lent_params-lent.result.now in
    let now : Seen = seen lent r.course in
    let new : Seen = seen lent c.proceed-came.new.course in
    let M : Data → Type 0 = λ d. Stands p r.phase (seen d r.course) in
    let stands : Stands p r.phase now = subst M (sym c.lent_params-lent.ensures) c.requires.stands in
    let S : Phase → Type 0 = λ b. Stands p b now in
    let under : IsUnderWay p now = subst S c.in-UnderWay.is stands in
    let steps : c.as_slice.result.now ≡ p.steps = c.as_slice.ensures.value ∙ ap (λ v. v.items) c.deref.ensures in
    let before : state_at r.number p now phases.UnderWay ≡ state_at r.number p now r.phase = ap (state_at r.number p now) (sym c.in-UnderWay.is) in
    let told = c.in-Err.ensures in
    let none : now.waits ≡ [] = grind (arith, nat_tests, common_steps) in
    let P : HandlerState → Type 0 = λ x. IsPoll x (state_at r.number p new phases.Failed) (Some Failed) in
    let b : Begins p new = told.err p (sym steps) under in
    record {
      polled = subst P before (poll-failed r.number p now new none b told.stays told.adds);
      kept = record { limits = c.requires.limits; room = λ some. absurd (let e = ap length b.no_waits in omega arith); stands = (let K : Data → Type 0 = λ d. Begins p (seen d c.proceed-came.new.course) in subst K c.lent_params-lent.ensures b) };
    }
