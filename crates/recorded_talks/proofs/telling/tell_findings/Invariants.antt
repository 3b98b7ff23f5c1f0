-- Each turn tells the first finding that wasn't told.
use Rattle.std.proofs.Common.{◌≡◌, ℕ, List, ◌++◌, length}
use Rattle.std.specs.Io.KnownBytes.{Appends}
use Rattle.recorded_talks.specs.Replayed.{findings_text, counted}
use Rattle.recorded_talks.specs.Replays.{untold, with_untold}
use Rattle.recorded_talks.proofs.telling.tell_findings.Given as goal

abbrev pub invariant-loop-finding : goal.invariant-loop-finding
invariant-loop-finding g l = record {
  replay : l.replay ≡ record l.initial.replay { judge = with_untold (untold l.replay.judge) l.initial.replay.judge };
  counts : counted (untold l.replay.judge) l.counts ≡ counted (untold l.initial.replay.judge) l.initial.counts;
  written : (text : List ℕ) × Appends (g.W.Write.contents l.initial.output) (g.W.Write.contents l.output) text
      × (text ++ findings_text (untold l.replay.judge) ≡ findings_text (untold l.initial.replay.judge));
}

abbrev pub decreases-loop-finding : goal.decreases-loop-finding
decreases-loop-finding g l = length (untold l.replay.judge)
