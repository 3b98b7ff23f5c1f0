use Rattle.std.proofs.Common.{[], ◌∷◌, sym, subst}
use Rattle.recorded_talks.specs.Entries.{seen_as}
use Rattle.recorded_talks.specs.Replays.{SeesMore}
use Rattle.recorded_talks.specs.declared.entry.Entry.TheVariants.{Ended}
use Rattle.recorded_talks.proofs.replay.show_end.Goals as goal

pub returns-in_ok-closed-in-Closed : goal.returns-in_ok-closed-in-Closed
returns-in_ok-closed-in-Closed c =
    subst (λ how. SeesMore c.args.judge.now c.closed.new.self (seen_as (Ended c.args.side how) ∷ [])) (sym c.in-Closed.is) c.in_ok-closed-in-Closed.ensures.stands

pub returns-in_ok-failed-in-ReadFailed : goal.returns-in_ok-failed-in-ReadFailed
returns-in_ok-failed-in-ReadFailed c =
    subst (λ how. SeesMore c.args.judge.now c.failed.new.self (seen_as (Ended c.args.side how) ∷ [])) (sym c.in-ReadFailed.is) c.in_ok-failed-in-ReadFailed.ensures.stands
