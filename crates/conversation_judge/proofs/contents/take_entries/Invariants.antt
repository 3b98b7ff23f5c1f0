use Rattle.std.proofs.Common.{◌≡◌, ◌++◌, ◌+◌, ◌<◌, ◌^◌, length}
use Rattle.conversation_entries.specs.Said.{said}
use Rattle.conversation_rules.specs.Contents.{entries_findings, behind_entries}
use Rattle.conversation_judge.proofs.contents.take_entries.Given as goal

abbrev pub invariant-loop-entry : goal.invariant-loop-entry
invariant-loop-entry l = record {
  small : l.at + length l.entries.items < 2 ^ 64;
  findings : l.findings.items ++ entries_findings l.protocol l.message (l.at + 1) l.entries.items (said l.own) ≡ l.initial.findings.items ++ entries_findings l.protocol l.message 1 l.initial.entries.items (said l.initial.own);
  own : behind_entries l.protocol (l.at + 1) l.entries.items (said l.own) ≡ behind_entries l.protocol 1 l.initial.entries.items (said l.initial.own);
}

abbrev pub decreases-loop-entry : goal.decreases-loop-entry
decreases-loop-entry l = length l.entries.items
