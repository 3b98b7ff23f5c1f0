use Rattle.std.proofs.Common.{◌≡◌, Some, subst}
use Rattle.std.proofs.lemmas.Result.{on_ok_weaker}
use Rattle.recorded_talks.specs.Recorded.{said_by}
use Rattle.recorded_talks.specs.Replays.{Sees}
use Rattle.recorded_talks.proofs.Seeing.{sees_line}
use Rattle.recorded_talks.proofs.replay.Replay.hear.Goals as goal

pub returns-in-Some-clause-sees : goal.returns-in-Some-clause-sees
returns-in-Some-clause-sees c = λ options lines told is_of sees.
    let line = c.args.self.now.line.items in
    on_ok_weaker c.show.result
    (λ shown. sees_line options lines told c.in-Some.judge c.show.new.judge line shown.0 (subst (λ line. said_by line ≡ Some shown.0) c.as_slice.ensures.value shown.1) shown.2 (subst (Sees options lines told) c.in-Some.is sees))
    c.show.ensures
