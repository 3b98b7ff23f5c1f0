use Rattle.std.proofs.Common.{◌-◌, ◌≤◌, length}
use Rattle.json_texts.specs.Naturals.{HasNumberItems}
use Rattle.json_texts.proofs.naturals.past_naturals.Given as goal

abbrev pub invariant-loop-at : goal.invariant-loop-at
invariant-loop-at l = (l.from ≤ l.at) × (l.at ≤ length l.text) × HasNumberItems l.text l.from l.at

abbrev pub decreases-loop-at : goal.decreases-loop-at
decreases-loop-at l = length l.text - l.at
