use Rattle.std.proofs.Common.{◌≡◌, ◌+◌, ◌<◌, ◌^◌, length}
use Rattle.connection_history.specs.Counts.{capped}
use Rattle.connection_steps.specs.Steps.{complete_front, incomplete_rest}
use Rattle.outbox.specs.Output.{OnlyPutSince}
use Rattle.connection_desk.specs.Desks.{answer_count, answer_texts, with_texts}
use Rattle.connection_desk.specs.Inner.{rest_of}
use Rattle.connection_desk.proofs.leaving.write_each.Given as goal

abbrev pub invariant-loop-next : goal.invariant-loop-next
invariant-loop-next l = record {
  texts : with_texts (answer_texts (complete_front (rest_of l.next l.owed.owed))) l.outbox
      ≡ with_texts (answer_texts (complete_front (rest_of l.initial.next l.owed.owed))) l.initial.outbox;
  since : OnlyPutSince l.initial.outbox l.outbox;
  rest : incomplete_rest (rest_of l.next l.owed.owed) ≡ incomplete_rest (rest_of l.initial.next l.owed.owed);
  few : l.count < 2 ^ 64;
  count : capped (l.count + answer_count (complete_front (rest_of l.next l.owed.owed))) ≡ capped (answer_count (complete_front (rest_of l.initial.next l.owed.owed)));
}

abbrev pub decreases-loop-next : goal.decreases-loop-next
decreases-loop-next l = length (rest_of l.next l.owed.owed)
