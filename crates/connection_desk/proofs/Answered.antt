-- A call is answered and closed.
use Rattle.std.proofs.Common.{◌≡◌, ℕ, ◌&&◌, not, Bool, cond, List, [], ◌∷◌, Option, Some, None, refl, sym, ap, ◌∙◌}
use Rattle.std.specs.Option.{is_some}
use Rattle.message_ids.specs.declared.standard.Standard.TheVariants.{Cancelled}
use Rattle.connection_messages.specs.declared.answer.Answer.{Answer}
use Rattle.connection_messages.specs.declared.answer.Answer.TheVariants.{Standard}
use Rattle.connection_messages.specs.declared.cancels.Cancels.{Cancels}
use Rattle.connection_messages.specs.declared.cancels.Cancels.TheVariants.{Mcp}
use Rattle.connection_history.specs.Counts.{capped}
use Rattle.connection_history.specs.declared.event.Event.{Event}
use Rattle.connection_history.specs.declared.order.Order.{Order}
use Rattle.connection_history.specs.declared.refused.Refused.TheVariants.{NotOpen}
use Rattle.connection_history.specs.Refusals.{first_of, has_cancels}
use Rattle.connection_steps.specs.States.{State}
use Rattle.connection_steps.specs.Steps.{leaving, staying, owed_given}
use Rattle.open_calls.specs.declared.their_call.TheirCall.{TheirCall}
use Rattle.open_calls.specs.Numbered.{at, without}
use Rattle.open_calls.specs.Own.{OwnState, without_caller}
use Rattle.open_calls.specs.Theirs.{TheirState}
use Rattle.owed_answers.specs.Owed.{OwedState}
use Rattle.outbox.specs.Output.{Output}
use Rattle.connection_desk.specs.Desks.{Desk, after_answer, answer_count, answer_refused, answer_texts, cancel_answer_in, is_cancelled, with_answers, with_texts, withdrawals_in}
use Rattle.connection_desk.specs.Inner.{withdrawals_of}
use Rattle.connection_desk.specs.declared.tally.Tally.{Tally}
use Rattle.connection_desk.proofs.Counting.{answers_capped}
use Rattle.connection_desk.proofs.OwedLists.{Units}
use Rattle.connection_desk.proofs.States.{own_state, their_state, owed_state}

-- the call is closed, its own calls don't wait any more, and this is owed then
abbrev pub closed_with : ℕ → Units → Output → Tally → Desk → Desk
closed_with n owed out tally d = record {
  cancels = d.cancels;
  order = d.order;
  state = record {
    own = record { made = d.state.own.made; waiting = without_caller n d.state.own.waiting };
    theirs = record { came = d.state.theirs.came; calls = without n d.state.theirs.calls };
    owed = record { places = d.state.owed.places; owed = owed };
    is_over = d.state.is_over;
  };
  untold = d.untold;
  out = out;
  tally = tally;
}

abbrev pub desk_by : Option Cancels → Order → OwnState → TheirState → OwedState → Bool → List Event → Output → Tally → Desk
desk_by cancels order own theirs owed is_over untold out tally = record {
  cancels = cancels;
  order = order;
  state = record { own = own; theirs = theirs; owed = owed; is_over = is_over };
  untold = untold;
  out = out;
  tally = tally;
}

abbrev pub answered_with : ℕ → Desk → Units → Desk
answered_with n d owed =
    closed_with n (staying d.order owed) (with_texts (answer_texts (leaving d.order owed)) d.out) (with_answers (answer_count (leaving d.order owed)) d.tally) d

pub not_refused : (n : ℕ) (s : State) (call : TheirCall) → at n s.theirs.calls ≡ Some call → answer_refused n s ≡ None
not_refused n s call is = ap (λ o. first_of ((not (is_some o), NotOpen) ∷ [])) is

pub answered_by : (n : ℕ) (d : Desk) (call : TheirCall) (a : Option Answer) (own : OwnState) (theirs : TheirState) (owed : OwedState) (out : Output) (count : ℕ) (tally : Tally) → at n d.state.theirs.calls ≡ Some call
    → own ≡ own_state d.state.own.made (without_caller n d.state.own.waiting)
    → theirs ≡ their_state d.state.theirs.came (without n d.state.theirs.calls)
    → owed ≡ owed_state d.state.owed.places (staying d.order (owed_given (Some call) a d.state.owed.owed))
    → out ≡ with_texts (answer_texts (leaving d.order (owed_given (Some call) a d.state.owed.owed))) d.out
    → count ≡ capped (answer_count (leaving d.order (owed_given (Some call) a d.state.owed.owed)))
    → tally ≡ with_answers count d.tally
    → desk_by d.cancels d.order own theirs owed d.state.is_over d.untold out tally ≡ after_answer n a d
answered_by n d call a own theirs owed out count tally there own_is theirs_is owed_is out_is count_is tally_is =
    let now = owed_given (Some call) a d.state.owed.owed in
    let more = answer_count (leaving d.order now) in
    let counted : tally ≡ with_answers more d.tally = tally_is ∙ ap (λ k. with_answers k d.tally) count_is ∙ answers_capped more d.tally in
    let parts : desk_by d.cancels d.order own theirs owed d.state.is_over d.untold out tally ≡ answered_with n d now =
    λ i. desk_by d.cancels d.order (own_is i) (theirs_is i) (owed_is i) d.state.is_over d.untold (out_is i) (counted i) in
    parts ∙ ap (λ o. answered_with n d (owed_given o a d.state.owed.owed)) (sym there)

-- ---- a call that the host cancels

pub withdrawals_are : (cancels : Option Cancels) (n : ℕ) (s : State) → withdrawals_of cancels n s.own.waiting ≡ withdrawals_in cancels n s
withdrawals_are None n s = refl
withdrawals_are (Some by) n s = refl

pub cancel_answer_is : (cancels : Option Cancels) (n : ℕ) (s : State) (call : TheirCall) → at n s.theirs.calls ≡ Some call
    → cond (has_cancels Mcp cancels && call.is_cancelled) None (Some (Standard Cancelled)) ≡ cancel_answer_in cancels n s
cancel_answer_is cancels n s call there =
    ap (λ o. cond (has_cancels Mcp cancels && is_cancelled o) None (Some (Standard Cancelled))) (sym there)
