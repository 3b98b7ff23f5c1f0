use Rattle.std.proofs.Common.{rules, ◌≡◌, ◌+◌, ◌++◌, ◌∷◌, [], None, refl, ap, sym, subst, ◌∙◌, arith}
use Rattle.connection_messages.specs.declared.entry.Entry.TheVariants.{Call as call_entry}
use Rattle.connection_history.specs.declared.event.Event.TheVariants as event
use Rattle.open_calls.specs.Theirs.{new_call}
use Rattle.owed_answers.specs.Owed.{OwedState}
use Rattle.connection_steps.specs.Steps.{leaving, staying, owed_with, theirs_after}
use Rattle.connection_steps.specs.Tallies.{tally_in}
use Rattle.connection_desk.specs.Desks.{Desk, after_unit, answer_texts, with_counts, with_texts}
use Rattle.connection_desk.specs.Inner.{untold_of}
use Rattle.connection_desk.proofs.Counting.{IsFew}
use Rattle.connection_desk.proofs.DeskParts.{state, same-desk}
use Rattle.connection_desk.proofs.LoneCalls.{lone, owed_lone, stays_owed, none_leaves, counts_lone}
use Rattle.connection_desk.proofs.OwedLists.{no_texts}
use Rattle.connection_desk.proofs.Owing.{state_of as owed_state, all-staying}
use Rattle.connection_desk.proofs.States.{their_state}
use Rattle.connection_desk.proofs.desk.Desk.take_in_call.Goals as goal

pub invariant_of-self-2 : goal.invariant_of-self-2
invariant_of-self-2 c =
    let d = c.self.inside in record {
      settled = subst (λ (s : OwedState). leaving d.order s.owed ≡ []) (sym c.in_default.ensures.ok) (stays_owed d.order c.args.call.id d.owed.places d.owed.owed c.self.invariant.settled);
      open_ended = c.self.invariant.open_ended;
      kept = c.self.invariant.kept;
    }

pub returns-clause-ok : goal.returns-clause-ok
returns-clause-ok c =
    let d = c.self.inside in
    let call = c.args.call in
    let s = state d.own d.theirs d.owed d.is_over in
    let owing = owed_with (lone call) d.owed in
    let none : leaving d.order owing ≡ [] = none_leaves d.order call d.owed c.self.invariant.settled in
    let few : IsFew d.tally = record { requests = omega arith; invalid = omega arith; ignored = omega arith } in
    let cloned : c.in_ok-clone.field-0 ≡ call.id = search rules in
    let told : untold_of d.events ≡ [] = ap (λ (b : Desk). b.untold) c.self.view_is ∙ c.requires.told in
    same-desk d.cancels d.order d.is_over d.own d.own c.add.new.self (theirs_after d.owed.places 0 (call_entry call) d.theirs)
    c.owe_call.new.owed (owed_state (d.owed.places + 1) (staying d.order owing))
    (event.Call c.in_ok-number.number call ∷ []) (untold_of d.events ++ event.Call (d.theirs.came + 1) call ∷ [])
    d.outbox (with_texts (answer_texts (leaving d.order owing)) d.outbox)
    c.add_call.new.self (with_counts (tally_in d.order (lone call) s) d.tally)
    refl
    (c.in_ok-number.ensures.ok
    ∙ ap (λ id. their_state (d.theirs.came + 1) (d.theirs.calls ++ (d.theirs.came + 1, new_call id c.places-place.result 0) ∷ [])) cloned
    ∙ ap (λ place. their_state (d.theirs.came + 1) (d.theirs.calls ++ (d.theirs.came + 1, new_call call.id place 0) ∷ [])) c.places-place.ensures.places)
    (c.in_default.ensures.ok ∙ ap (owed_state (d.owed.places + 1)) (sym (owed_lone call d.owed) ∙ sym (all-staying d.order owing none)))
    (ap (λ n. event.Call n call ∷ []) c.in_ok-number.ensures.number ∙ ap (λ es. es ++ event.Call (d.theirs.came + 1) call ∷ []) (sym told))
    (sym (ap (λ es. with_texts (answer_texts es) d.outbox) none ∙ no_texts d.outbox))
    (c.add_call.ensures ∙ sym (counts_lone d.order call s d.tally c.self.invariant.settled few (omega arith) (omega arith)))
    ∙ ap (λ x. after_unit None (lone call) x) c.self.view_is
