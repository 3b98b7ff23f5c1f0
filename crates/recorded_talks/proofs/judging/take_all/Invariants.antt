use Rattle.std.proofs.Common.{ℕ, List}
use Rattle.std.specs.Io.KnownBytes.{Consumes}
use Rattle.conversation_rules.specs.declared.finding.Finding.{Finding}
use Rattle.recorded_talks.specs.Replays.{Went}
use Rattle.recorded_talks.proofs.judging.take_all.Given as goal

abbrev pub invariant-loop : goal.invariant-loop
invariant-loop g l = (text : List ℕ) × (found : List Finding)
    × Consumes (g.I.Read.remaining l.initial.input) (g.I.Read.remaining l.input) text
    × Went l.initial.replay l.replay l.initial.counts l.counts (g.W.Write.contents l.initial.output) (g.W.Write.contents l.output) text found
