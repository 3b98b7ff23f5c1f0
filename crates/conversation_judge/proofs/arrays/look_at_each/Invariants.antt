use Rattle.std.proofs.Common.{◌≡◌, drop}
use Rattle.conversation_judge.specs.Said.{each}
use Rattle.conversation_rules.specs.Answers.{each_of}
use Rattle.conversation_judge.proofs.arrays.look_at_each.Given as goal

abbrev pub invariant-loop-at : goal.invariant-loop-at
invariant-loop-at l = each_of l.protocol l.sight l.message (drop l.at l.replies) (drop l.at l.ids) (each l.owed l.looked) ≡ each_of l.protocol l.sight l.message l.replies l.ids (each l.initial.owed l.initial.looked)
