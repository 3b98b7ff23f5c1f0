use Rattle.std.proofs.Common.{◌≡◌, ◌+◌, ◌++◌, [], suc, length, map, option_to_list, append_assoc, ap, sym, subst, ◌∙◌, arith}
use Rattle.connection_history.specs.declared.event.Event.TheVariants as event
use Rattle.connection_history.specs.Stream.{entries_in, calls_in}
use Rattle.open_calls.specs.Numbered.{Below}
use Rattle.owed_answers.specs.Owed.{OwedState}
use Rattle.open_calls.specs.Theirs.{TheirState}
use Rattle.open_calls.specs.declared.their_call.TheirCall.{TheirCall}
use Rattle.connection_desk.proofs.States.{their_state as state_of}
use Rattle.connection_steps.specs.States.{is_batch, owed_slots}
use Rattle.connection_steps.specs.Steps.{leaving, staying, theirs_after_all, told_of_all, new_unit_slots, own_after_all}
use Rattle.connection_desk.specs.Desks.{after_unit, with_texts, answer_count, answer_texts, with_answers, with_counts}
use Rattle.connection_steps.specs.Tallies.{tally_in}
use Rattle.connection_desk.specs.Inner.{added_calls, calls_along, told_along, untold_of, counted_in, owed_in}
use Rattle.connection_desk.proofs.Admitted.{below_of, theirs_along, told_same, unit_counted}
use Rattle.connection_desk.proofs.Counting.{IsFew}
use Rattle.connection_desk.proofs.DeskParts.{state, same-desk}
use Rattle.connection_desk.proofs.Entries.{ArrivalLaws}
use Rattle.connection_desk.proofs.Owing.{none-leaving}
use Rattle.connection_desk.proofs.Owing.{state_of as owed_state}
use mir.Val.{bool_byte}
use Rattle.connection_desk.proofs.Room.{broken_count, told_most}
use Rattle.connection_desk.proofs.desk.Desk.take_in.Goals as goal

pub settle-requires-clause-room : goal.settle-requires-clause-room
settle-requires-clause-room c =
    let first : bool_byte c.is_some-first.result ≡ length (option_to_list c.args.broken) = broken_count c.args.broken c.is_some-first.result c.is_some-first.ensures in
    let most = told_most c.came-came.result c.self.inside.own c.admit.new.theirs.calls (entries_in c.args.unit) in
    omega (arith, first, most, c.in_ok-due.ensures.room, c.tell_broken.ensures.room)

pub invariant_of-self-2 : goal.invariant_of-self-2
invariant_of-self-2 c =
    let order = c.self.inside.order in
    let was = c.self.inside.owed in
    let due = c.in_ok-due.due in
    let new = owed_in was.places due in
    record {
      settled = subst (λ (s : OwedState). leaving order s.owed ≡ []) (sym c.in_default.ensures.owed) (none-leaving order (was.owed ++ new));
      open_ended = λ _. c.settle.ensures.open;
      kept = c.let_go.ensures;
    }

pub returns-clause-ok : goal.returns-clause-ok
returns-clause-ok c =
    let d = c.self.inside in
    let unit = c.args.unit in
    let es = entries_in unit in
    let front = map event.Broken (option_to_list c.args.broken) in
    let n = d.theirs.came in
    let laws : ArrivalLaws TheirCall = record {
      up_to_above = c.numbers_above_one.ensures.up_to;
      more = c.numbers_below_one.ensures.more;
      push = c.numbers_below_one.ensures.push;
      up_to_below = c.numbers_below_one.ensures.up_to;
    } in
    let under : Below (suc n) d.theirs.calls = below_of n d.theirs.calls c.came-came.ensures.numbers in
    let admitted : c.admit.new.theirs ≡ state_of (n + length (calls_in es)) (d.theirs.calls ++ added_calls d.owed.places 0 n es) =
    c.in_ok-due.ensures.ok.theirs
    ∙ ap (λ p. state_of (n + length (calls_in es)) (d.theirs.calls ++ added_calls p 0 n es)) c.places-place.ensures.places in
    let theirs : c.settle.new.theirs ≡ theirs_after_all d.owed.places 0 es d.theirs =
    c.settle.ensures.theirs
    ∙ ap (λ (s : TheirState). state_of s.came (calls_along c.came-came.result es s.calls)) admitted
    ∙ ap (λ m. state_of (n + length (calls_in es)) (calls_along m es (d.theirs.calls ++ added_calls d.owed.places 0 n es))) c.came-came.ensures.came
    ∙ theirs_along laws d.owed.places 0 n d.theirs.calls es under in
    let told : told_along c.came-came.result d.own c.admit.new.theirs.calls es ≡ told_of_all d.own d.theirs es =
    ap (λ (s : TheirState). told_along c.came-came.result d.own s.calls es) admitted
    ∙ ap (λ m. told_along m d.own (d.theirs.calls ++ added_calls d.owed.places 0 n es) es) c.came-came.ensures.came
    ∙ told_same laws d.owed.places n d.own d.theirs.calls es under in
    let due = c.in_ok-due.due in
    let owing : d.owed.owed ++ owed_in d.owed.places due ≡ d.owed.owed ++ owed_slots d.owed.places (is_batch unit) (new_unit_slots unit) =
    ap (λ p. d.owed.owed ++ owed_in p due) (sym c.places-place.ensures.places)
    ∙ ap (λ es. d.owed.owed ++ es) c.in_ok-due.ensures.ok.owed
    ∙ ap (λ p. d.owed.owed ++ owed_slots p (is_batch unit) (new_unit_slots unit)) c.places-place.ensures.places in
    let answers = answer_count (leaving d.order (d.owed.owed ++ owed_slots d.owed.places (is_batch unit) (new_unit_slots unit))) in
    let few : IsFew d.tally = record { requests = omega arith; invalid = omega arith; ignored = omega arith } in
    let counted : c.settle.new.tally ≡ with_counts (tally_in d.order unit (state d.own d.theirs d.owed d.is_over)) d.tally =
    c.settle.ensures.tally
    ∙ ap (λ (s : TheirState). counted_in unit c.came-came.result d.own s.calls c.owe-owed.new.tally) admitted
    ∙ ap (λ m. counted_in unit m d.own (d.theirs.calls ++ added_calls d.owed.places 0 n es) c.owe-owed.new.tally) c.came-came.ensures.came
    ∙ ap (counted_in unit n d.own (d.theirs.calls ++ added_calls d.owed.places 0 n es))
    (c.in_default.ensures.tally ∙ ap (λ owed. with_answers (answer_count (leaving d.order owed)) d.tally) owing)
    ∙ unit_counted laws d.owed.places n d.own d.theirs.calls unit answers d.tally under few (omega arith) in
    same-desk d.cancels d.order d.is_over c.settle.new.own (own_after_all es d.own) c.settle.new.theirs (theirs_after_all d.owed.places 0 es d.theirs)
    c.owe-owed.new.owed (owed_state (d.owed.places + 1) (staying d.order (d.owed.owed ++ owed_slots d.owed.places (is_batch unit) (new_unit_slots unit))))
    (untold_of c.settle.new.events) (untold_of d.events ++ (front ++ told_of_all d.own d.theirs es))
    c.owe-owed.new.outbox (with_texts (answer_texts (leaving d.order (d.owed.owed ++ owed_slots d.owed.places (is_batch unit) (new_unit_slots unit)))) d.outbox)
    c.settle.new.tally (with_counts (tally_in d.order unit (state d.own d.theirs d.owed d.is_over)) d.tally)
    c.settle.ensures.own
    theirs
    (c.in_default.ensures.owed ∙ ap (λ owed. owed_state (d.owed.places + 1) (staying d.order owed)) owing)
    (c.settle.ensures.untold ∙ ap (λ xs. xs ++ told_along c.came-came.result d.own c.admit.new.theirs.calls es) (c.tell_broken.ensures.untold ∙ ap (λ xs. xs ++ front) c.admit.ensures.untold)
    ∙ append_assoc (untold_of d.events) front _ ∙ ap (λ xs. untold_of d.events ++ (front ++ xs)) told)
    (c.in_default.ensures.outbox ∙ ap (λ owed. with_texts (answer_texts (leaving d.order owed)) d.outbox) owing)
    counted
    ∙ ap (λ x. after_unit c.args.broken unit x) c.self.view_is
