use Rattle.std.proofs.Common.{◌≡◌, ℕ, ◌≤◌, ◌-◌, ◌^◌, Some, None}
use Rattle.conversation_dues.specs.Found.{place_of}
use Rattle.conversation_open.specs.Open.{open_entries}
use Rattle.conversation_rules.specs.Owed.{Due}
use Rattle.number_windows.specs.Numbered.{at}
use Rattle.conversation_dues.proofs.sought.first.Given as goal

-- it isn't on any content up to this number
abbrev pub invariant-loop-number : goal.invariant-loop-number
invariant-loop-number l = (n : ℕ) (due : Due) → n ≤ l.after → at n (open_entries l.contents) ≡ Some due → place_of l.sought l.id due ≡ None

abbrev pub decreases-loop-number : goal.decreases-loop-number
decreases-loop-number l = 2 ^ 64 - l.after
