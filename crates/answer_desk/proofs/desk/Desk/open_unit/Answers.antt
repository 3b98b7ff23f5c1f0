use Rattle.std.proofs.Common.{◌≡◌, ◌++◌, ◌∷◌, [], length, map, refl, ap, ◌∙◌, sym, arith}
use Rattle.std.proofs.lemmas.List.{length-map}
use Rattle.answer_desk.specs.Desk.{view}
use Rattle.answer_desk.specs.declared.waiting_unit.WaitingUnit.{WaitingUnit}
use Rattle.open_numbers.specs.Kept.{open_number, kept_in}
use Rattle.answer_desk.specs.Places.{new_numbers}
use Rattle.answer_desk.specs.Inner.Arrivals.{calls_of, dues_of}
use Rattle.answer_desk.proofs.Views.{seen}
use Rattle.answer_desk.proofs.Opening.{length-new, ascends-opened, front-opened, seen-opened}
use Rattle.open_numbers.proofs.Tests.{on_err_of}
use Rattle.open_numbers.proofs.OutOfReach.{opening-append}
use Rattle.answer_desk.proofs.desk.Desk.open_unit.Goals as goal

pub make-requires : goal.make-requires
unfolding view
make-requires c =
    let self = c.args.self.now in
    rw (c.into_vec.ensures, length-new c.args.shape.places) (rw (length-map self.numbers open_number) at c.requires)

pub returns-in_err-reserve-clause-err : goal.returns-in_err-reserve-clause-err
unfolding view
returns-in_err-reserve-clause-err c =
    let self = c.args.self.now in
    on_err_of c.from_residual-in_err-reserve.result
    (seen c.make.new.numbers self.is_closed c.reserve.new.self.items ≡ seen self.numbers self.is_closed self.units.items)
    (ap (λ ns. seen ns self.is_closed c.reserve.new.self.items) c.make.ensures.same ∙ ap (seen self.numbers self.is_closed) c.reserve.ensures.items)

pub append-requires : goal.append-requires
unfolding view
append-requires c =
    let self = c.args.self.now in
    let long : length c.in_ok-calls.field-0.calls.items ≡ length (new_numbers c.args.shape.places) =
    sym (length-map c.in_ok-calls.field-0.calls.items kept_in) ∙ ap length (c.in_ok-calls.ensures.calls ∙ ap calls_of c.into_vec.ensures) ∙ length-new c.args.shape.places in
    record { room = rw (c.make.ensures.same, long) (rw (length-map self.numbers open_number) at c.requires) }

pub returns-in_err-append-clause-err : goal.returns-in_err-append-clause-err
unfolding view
returns-in_err-append-clause-err c =
    let self = c.args.self.now in
    on_err_of c.from_residual-in_err-append.result
    (seen c.append.new.self self.is_closed c.reserve.new.self.items ≡ seen self.numbers self.is_closed self.units.items)
    (ap (λ ns. seen ns self.is_closed c.reserve.new.self.items) (c.in_err-append.ensures.err ∙ c.make.ensures.same) ∙ ap (seen self.numbers self.is_closed) c.reserve.ensures.items)

pub returns-clause-number : goal.returns-clause-number
unfolding view
returns-clause-number c = c.next-number.ensures.next ∙ sym (length-map c.args.self.now.numbers open_number)

pub invariant_of-self-2 : goal.invariant_of-self-2
invariant_of-self-2 c =
    let self = c.args.self.now in
    let places = c.args.shape.places in
    let unit : WaitingUnit = record { kind = c.args.shape.kind; dues = c.list.result } in
    let dues : unit.dues ≡ dues_of (length self.numbers) places =
    c.list.ensures ∙ c.in_ok-calls.ensures.dues ∙ ap (dues_of (length self.numbers)) c.into_vec.ensures in
    rw (c.in_ok-append.ensures.ok, c.make.ensures.same, c.in_ok-calls.ensures.calls, c.into_vec.ensures, c.push_back_reserved.ensures.items, c.reserve.ensures.items) (record {
      numbers_ascend = ascends-opened self.numbers self.units.items unit places dues self.numbers_ascend;
      parts_are_finished = front-opened self.numbers self.units.items unit places self.finished_parts dues self.numbers_ascend self.parts_are_finished;
      opening = opening-append self.numbers (calls_of places) (omega (arith, c.next-number.ensures.some)) self.opening;
    })

pub returns-clause-ok : goal.returns-clause-ok
unfolding view
returns-clause-ok c =
    let self = c.args.self.now in
    let unit : WaitingUnit = record { kind = c.args.shape.kind; dues = c.list.result } in
    let dues : unit.dues ≡ dues_of (length self.numbers) c.args.shape.places =
    c.list.ensures ∙ c.in_ok-calls.ensures.dues ∙ ap (dues_of (length self.numbers)) c.into_vec.ensures in
    let numbers : c.append.new.self ≡ self.numbers ++ calls_of c.args.shape.places =
    c.in_ok-append.ensures.ok ∙ ap (λ ns. ns ++ map kept_in c.in_ok-calls.field-0.calls.items) c.make.ensures.same ∙ ap (λ ns. self.numbers ++ ns) (c.in_ok-calls.ensures.calls ∙ ap calls_of c.into_vec.ensures) in
    let units : c.push_back_reserved.new.self.items ≡ self.units.items ++ unit ∷ [] =
    c.push_back_reserved.ensures.items ∙ ap (λ us. us ++ unit ∷ []) c.reserve.ensures.items in
    ap (λ ns. seen ns self.is_closed c.push_back_reserved.new.self.items) numbers
    ∙ ap (seen (self.numbers ++ calls_of c.args.shape.places) self.is_closed) units
    ∙ seen-opened self.numbers self.is_closed self.units.items unit c.args.shape dues refl self.numbers_ascend
