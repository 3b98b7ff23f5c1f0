use Rattle.std.proofs.Common.{◌≡◌, ◌++◌, drop}
use Rattle.conversation_rules.specs.Answers.{strays_findings, behind_strays}
use Rattle.conversation_judge.proofs.arrays.put_strays.Given as goal

abbrev pub invariant-loop-stray : goal.invariant-loop-stray
invariant-loop-stray l = record {
  findings : l.findings.items ++ strays_findings l.sight l.message (drop l.stray-index l.strays) l.owed ≡ l.initial.findings.items ++ strays_findings l.sight l.message l.strays l.initial.owed;
  owed : behind_strays (drop l.stray-index l.strays) l.owed ≡ behind_strays l.strays l.initial.owed;
}
