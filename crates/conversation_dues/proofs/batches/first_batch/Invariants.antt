use Rattle.std.proofs.Common.{◌≡◌, ℕ, ◌≤◌, ◌-◌, ◌^◌, Some, None}
use Rattle.conversation_dues.specs.Answered.{is_answered}
use Rattle.conversation_dues.specs.Found.{whole_if}
use Rattle.conversation_open.specs.Open.{open_entries}
use Rattle.conversation_rules.specs.Owed.{Due}
use Rattle.number_windows.specs.Numbered.{at}
use Rattle.conversation_dues.proofs.batches.first_batch.Given as goal

-- no content up to this number is such a batch
abbrev pub invariant-loop-number : goal.invariant-loop-number
invariant-loop-number l = (n : ℕ) (due : Due) → n ≤ l.after → at n (open_entries l.contents) ≡ Some due → whole_if (is_answered l.answer l.ids) due ≡ None

abbrev pub decreases-loop-number : goal.decreases-loop-number
decreases-loop-number l = 2 ^ 64 - l.after
