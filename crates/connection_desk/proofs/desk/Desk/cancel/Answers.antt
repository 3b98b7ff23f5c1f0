use Rattle.std.proofs.Common.{◌≡◌, Some, sym, ap, ◌∙◌}
use Rattle.connection_desk.specs.Inner.{given_answer}
use Rattle.connection_steps.specs.Steps.{leaving, owed_given, staying}
use Rattle.connection_history.specs.Counts.{capped}
use Rattle.open_calls.specs.Numbered.{at}
use Rattle.owed_answers.specs.Owed.{OwedState}
use Rattle.connection_desk.specs.Desks.{Desk, after_cancel, after_saying, answer_count, answer_texts, cancel_answer_in, with_texts, withdrawals_in}
use Rattle.connection_desk.proofs.Answered.{answered_by, cancel_answer_is, not_refused, withdrawals_are}
use Rattle.connection_desk.proofs.GivenSlots.{desk_stays}
use Rattle.connection_desk.proofs.Seen.{desk_of}
use Rattle.connection_desk.proofs.States.{owed_state}
use Rattle.connection_desk.proofs.desk.Desk.cancel.Goals as goal

pub invariant_of-self-2 : goal.invariant_of-self-2
invariant_of-self-2 c =
    let d = c.self.inside in
    desk_stays d.order (owed_given (Some c.in-Some.call.now) (given_answer c.cancel_answer-given.result) d.owed.owed) c.answer_call.new.owed.owed d.is_over d.events c.emptied-room.new.room
    c.self.invariant.open_ended (c.emptied-room.ensures.left c.self.invariant.kept) (ap (λ (s : OwedState). s.owed) c.in-Ok.ensures.owed)

pub returns-clause-ok : goal.returns-clause-ok
returns-clause-ok c =
    let n = c.args.number in
    let call = c.in-Some.call.now in
    let d = c.self.inside in
    let seen = desk_of d.cancels d.order d.own d.theirs d.owed d.is_over d.events d.outbox d.tally in
    let there : at n d.theirs.calls ≡ Some call = sym c.in-Some.ensures in
    let said = withdrawals_in d.cancels n seen.state in
    let answer = cancel_answer_in d.cancels n seen.state in
    let is : given_answer c.cancel_answer-given.result ≡ answer = c.cancel_answer-given.ensures ∙ cancel_answer_is d.cancels n seen.state call there in
    let owed = d.owed.owed in (
      not_refused n c.args.self.now.state call (sym (ap (λ (x : Desk). at n x.state.theirs.calls) c.self.view_is) ∙ there),
      c.keep_room.ensures
          ∙ answered_by n (after_saying said seen) call answer
          c.end_caller.new.self c.close.new.self c.answer_call.new.owed c.answer_call.new.outbox c.in-Ok.count c.add_answers.new.self there
          c.end_caller.ensures c.close.ensures.state
          (c.in-Ok.ensures.owed ∙ ap (λ a. owed_state d.owed.places (staying d.order (owed_given (Some call) a owed))) is)
          (c.in-Ok.ensures.outbox
          ∙ ap (λ a. with_texts (answer_texts (leaving d.order (owed_given (Some call) a owed))) c.write_withdrawals.new.outbox) is
          ∙ ap (with_texts (answer_texts (leaving d.order (owed_given (Some call) answer owed))))
          (c.in_ok-write_withdrawals.ensures.ok ∙ ap (λ ts. with_texts ts d.outbox) (withdrawals_are d.cancels n seen.state)))
          (c.in-Ok.ensures.count ∙ ap (λ a. capped (answer_count (leaving d.order (owed_given (Some call) a owed)))) is)
          c.add_answers.ensures
          ∙ ap (after_cancel n) c.self.view_is,
    )
