use Rattle.std.proofs.Common.{◌≡◌, ◌==◌, ◌&&◌, not, ℕ, length}
use Rattle.std.specs.List.{list_any}
use Rattle.conversation_ids.specs.OwedMarks.{entry_has, request_has, uncancelled_has}
use Rattle.conversation_contents.specs.Numbers.{has_number}
use Rattle.conversation_open.proofs.marking.forget_entries.Given as goal

-- without those that are left it is as without all
abbrev pub invariant-loop-entry : goal.invariant-loop-entry
invariant-loop-entry l = record {
  marks : (mark n : ℕ) → (has_number l.marks mark n && not ((l.number == n) && list_any (entry_has mark) l.due.entries)) ≡ (has_number l.fn.marks mark n && not ((l.number == n) && list_any (entry_has mark) l.fn.due.entries));
  requests : (mark n : ℕ) → (has_number l.uncancelled mark n && not ((l.number == n) && list_any (request_has mark) l.due.entries)) ≡ (has_number l.fn.uncancelled mark n && not ((l.number == n) && uncancelled_has mark l.fn.due));
}

abbrev pub decreases-loop-entry : goal.decreases-loop-entry
decreases-loop-entry l = length l.due.entries
