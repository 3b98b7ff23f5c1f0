use Rattle.std.proofs.Common.{refl, ◌∙◌}
use Rattle.answer_desk.specs.Desk.{view}
use Rattle.answer_desk.proofs.desk.Desk.drop_front.Goals as goal

pub returns : goal.returns
unfolding view
returns c = rw (c.shrink.ensures, c.shrink_queue.ensures.items, c.drop_front.ensures.numbers, c.drop_front.ensures.left ∙ c.requires.behind) refl

pub invariant_of-self : goal.invariant_of-self
unfolding view
invariant_of-self c =
    rw (c.shrink.ensures, c.shrink_queue.ensures.items) (record {
      numbers_ascend = c.drop_front.ensures.ascends;
      parts_are_finished = rw c.drop_front.ensures.left c.requires.finished;
      opening = c.drop_front.ensures.opening c.args.self.now.opening;
    })
