use Rattle.std.proofs.Common.{◌+◌, arith}
use Rattle.number_windows.specs.Windows.{window_entries}
use Rattle.number_windows.proofs.Numbered.{below_more}
use Rattle.owed_answers.proofs.owed_answers.OwedAnswers.skip.Goals as goal

pub invariant_of-self : goal.invariant_of-self
invariant_of-self c = record {
  window = c.self.invariant.window;
  numbered = below_more c.self.inside.places (c.self.inside.places + 1) (window_entries c.self.inside.owed) (omega arith) c.self.invariant.numbered;
}
