use Rattle.std.proofs.Common.{◌≡◌, ◌-◌, [], length}
use Rattle.handler_future.specs.Inner.Course.{seen}
use Rattle.handler_future.specs.Evaluation.{Program}
use Rattle.handler_future.specs.Inner.Running.{Stays, IsRunnable}
use Rattle.handler_future.specs.Inner.Standing.{StandsBefore}
use Rattle.handler_future.specs.State.{AddsNotices}
use Rattle.handler_future.proofs.course.run.Given as goal

abbrev pub invariant-steps : goal.invariant-steps
invariant-steps l = record {
  stands : (program : Program) → program.steps ≡ l.steps → StandsBefore program (seen l.lent l.initial.course) → StandsBefore program (seen l.lent l.course);
  stays : Stays (seen l.lent l.initial.course) (seen l.lent l.course);
  adds : AddsNotices l.initial.course.messages.items l.course.messages.items [];
  runnable : IsRunnable l.steps (seen l.lent l.course);
}

abbrev pub decreases-steps : goal.decreases-steps
decreases-steps l = length l.steps - l.course.place
