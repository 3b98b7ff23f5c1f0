use Rattle.std.proofs.Common.{ℕ, Option, ◌-◌, ◌≤◌, length}
use Rattle.json_texts.specs.Compacting.{HasShortest}
use Rattle.json_texts.specs.Ahead.{IsAhead}
use Rattle.json_texts.specs.Found.{FindsQuote}
use Rattle.json_texts.proofs.compact.shortest_end.Given as goal

abbrev pub invariant-loop-at : goal.invariant-loop-at
invariant-loop-at l = (l.from ≤ l.at) × HasShortest l.text l.from l.at × ((found : Option ℕ) → FindsQuote l.text l.at found → FindsQuote l.text l.from found) × IsAhead l.text l.at l.seen

abbrev pub decreases-loop-at : goal.decreases-loop-at
decreases-loop-at l = length l.text - l.at
