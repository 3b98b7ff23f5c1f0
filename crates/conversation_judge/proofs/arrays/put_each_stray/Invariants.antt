use Rattle.std.proofs.Common.{◌≡◌, ◌++◌, drop}
use Rattle.conversation_rules.specs.Answers.{each_not_owed}
use Rattle.conversation_judge.proofs.arrays.put_each_stray.Given as goal

abbrev pub invariant-loop-stray : goal.invariant-loop-stray
invariant-loop-stray l = l.findings.items ++ each_not_owed l.message l.level (drop l.stray-index l.strays) ≡ l.initial.findings.items ++ each_not_owed l.message l.level l.strays
