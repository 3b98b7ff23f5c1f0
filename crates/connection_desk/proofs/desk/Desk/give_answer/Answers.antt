use Rattle.std.proofs.Common.{Some, ap}
use Rattle.connection_steps.specs.Steps.{owed_given}
use Rattle.owed_answers.specs.Owed.{OwedState}
use Rattle.connection_desk.specs.Inner.{given_answer}
use Rattle.connection_desk.proofs.GivenSlots.{desk_stays}
use Rattle.connection_desk.proofs.desk.Desk.give_answer.Goals as goal

pub invariant_of-self-2 : goal.invariant_of-self-2
invariant_of-self-2 c =
    let d = c.self.inside in
    desk_stays d.order (owed_given (Some c.in-Some.call.now) (given_answer c.args.given) d.owed.owed) c.answer_call-counted.new.owed.owed d.is_over d.events c.let_go.new.room
    c.self.invariant.open_ended c.let_go.ensures (ap (λ (s : OwedState). s.owed) c.in_ok-count.ensures.owed)
