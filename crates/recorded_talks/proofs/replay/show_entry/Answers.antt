use Rattle.std.proofs.Common.{[], ◌∷◌, sym, ap, ◌∙◌, subst}
use Rattle.conversation_rules.specs.Judging.{Wrote}
use Rattle.recorded_talks.specs.Entries.{seen_as}
use Rattle.recorded_talks.specs.Replays.{SeesMore}
use Rattle.recorded_talks.proofs.replay.show_entry.Goals as goal

pub returns-in_ok-saw-in-Wrote : goal.returns-in_ok-saw-in-Wrote
returns-in_ok-saw-in-Wrote c =
    subst (λ seen. SeesMore c.args.judge.now c.saw.new.self (seen ∷ [])) (sym (ap seen_as c.in-Wrote.is ∙ ap (Wrote c.in-Wrote.side) (sym c.as_slice.ensures.value))) c.in_ok-saw-in-Wrote.ensures.stands

pub returns-in_ok-show_end-in-Ended : goal.returns-in_ok-show_end-in-Ended
returns-in_ok-show_end-in-Ended c =
    subst (λ seen. SeesMore c.args.judge.now c.show_end.new.judge (seen ∷ [])) (sym (ap seen_as c.in-Ended.is)) c.in_ok-show_end-in-Ended.ensures
