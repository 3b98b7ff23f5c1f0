use Rattle.std.proofs.Common.{◌≡◌, ◌<◌, length, map, ap, List, false, arith, refl}
use Rattle.std.specs.List.{filter_map}
use Rattle.answer_desk.specs.Desk.{view}
use Rattle.open_numbers.specs.Kept.{open_number}
use Rattle.answer_desk.specs.Seen.{waiting_of}
use Rattle.answer_desk.specs.State.{State}
use Rattle.answer_desk.specs.Waiting.{Waiting, is_whole, unit_text}
use Rattle.answer_desk.proofs.Finished.{none_due, some_wait, nothing_waits, none_seen}
use Rattle.answer_desk.proofs.desk.Desk.has_due.Goals as goal

pub returns-in-Some-clause-none : goal.returns-in-Some-clause-none
unfolding view
returns-in-Some-clause-none c = λ not_due.
    let self = c.args.self.now in
    let units = self.units.items in
    let unit = c.in-Some.unit.now in
    let some : 0 < length units = omega (arith, c.in-Some.ensures.variant.0 refl, self.units.ok) in
    let broken : is_whole (waiting_of self.numbers unit) ≡ false = rw c.as_slice.ensures at (c.may_be_finished.ensures not_due) in
    let none = none_due (waiting_of self.numbers) units unit some c.in-Some.ensures.lookup broken in (
      ap (filter_map unit_text) none.0,
      ap (λ (us : List Waiting). let s : State = record { numbers = map open_number self.numbers; is_closed = self.is_closed; units = us } in s) none.1,
    )

pub returns-in-Some-clause-empty : goal.returns-in-Some-clause-empty
unfolding view
returns-in-Some-clause-empty c = λ empty.
    let self = c.args.self.now in
    some_wait (waiting_of self.numbers) self.units.items (c.may_be_finished.result ≡ false) (omega (arith, c.in-Some.ensures.variant.0 refl, self.units.ok)) empty

pub returns-in-None-clause-none : goal.returns-in-None-clause-none
unfolding view
returns-in-None-clause-none c = λ not_due.
    let self = c.args.self.now in
    let none = none_seen (map (waiting_of self.numbers) self.units.items) (nothing_waits (waiting_of self.numbers) self.units.items (omega (arith, c.in-None.ensures.item))) in (
      ap (filter_map unit_text) none.0,
      ap (λ (us : List Waiting). let s : State = record { numbers = map open_number self.numbers; is_closed = self.is_closed; units = us } in s) none.1,
    )
