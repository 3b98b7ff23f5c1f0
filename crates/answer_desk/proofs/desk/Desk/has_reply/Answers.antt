use Rattle.std.proofs.Common.{ap, ◌∙◌, sym, is_some}
use Rattle.std.specs.Option.{option_and_then}
use Rattle.open_numbers.specs.declared.open_call.OpenCall.{OpenCall}
use Rattle.answer_desk.specs.Desk.{view}
use Rattle.open_numbers.specs.Replies.{slot_at, given_by}
use Rattle.open_numbers.proofs.Shown.{number-open}
use Rattle.answer_desk.proofs.desk.Desk.has_reply.Goals as goal

pub returns-in-Some : goal.returns-in-Some
unfolding view
returns-in-Some c =
    let self = c.args.self.now in
    c.has.ensures
    ∙ ap (λ o. is_some (given_by self.is_closed (option_and_then (λ (n : OpenCall). slot_at n.replies c.args.turn) o)))
    (sym (number-open self.numbers c.args.number ∙ c.in-Some.ensures))

pub returns-in-None : goal.returns-in-None
unfolding view
returns-in-None c =
    let self = c.args.self.now in
    sym
    (ap (λ o. is_some (given_by self.is_closed (option_and_then (λ (n : OpenCall). slot_at n.replies c.args.turn) o)))
    (number-open self.numbers c.args.number ∙ c.in-None.ensures))
