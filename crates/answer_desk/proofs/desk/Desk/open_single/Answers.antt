use Rattle.std.proofs.Common.{◌≡◌, ◌++◌, ◌∷◌, [], length, refl, ap, ◌∙◌, sym, arith}
use Rattle.std.proofs.lemmas.List.{length-map, append-nil}
use Rattle.rpc_messages.specs.declared.kind.Kind.TheVariants.{Single}
use Rattle.answer_desk.specs.Desk.{view}
use Rattle.answer_desk.specs.declared.waiting_unit.WaitingUnit.{WaitingUnit}
use Rattle.open_numbers.specs.Kept.{open_number}
use Rattle.answer_desk.specs.Inner.Arrivals.{calls_of, calls_of_place, dues_of, due_of_place}
use Rattle.answer_desk.proofs.Views.{seen}
use Rattle.answer_desk.proofs.Opening.{length-new, ascends-opened, front-opened, seen-opened}
use Rattle.open_numbers.proofs.Tests.{on_err_of}
use Rattle.open_numbers.proofs.OutOfReach.{opening-append}
use Rattle.answer_desk.proofs.desk.Desk.open_single.Goals as goal

pub returns-in_err-reserve-clause-err : goal.returns-in_err-reserve-clause-err
unfolding view
returns-in_err-reserve-clause-err c =
    let self = c.args.self.now in
    on_err_of c.from_residual.result
    (seen self.numbers self.is_closed c.reserve.new.self.items ≡ seen self.numbers self.is_closed self.units.items)
    (ap (seen self.numbers self.is_closed) c.reserve.ensures.items)

pub append_place-requires : goal.append_place-requires
unfolding view
append_place-requires c =
    let self = c.args.self.now in
    let one : length (calls_of (c.args.place ∷ [])) ≡ length (calls_of_place c.args.place) = ap length (append-nil (calls_of_place c.args.place)) in
    rw (← one, length-new (c.args.place ∷ [])) (rw (length-map self.numbers open_number) at c.requires)

pub returns-in_err-append_place-clause-err : goal.returns-in_err-append_place-clause-err
unfolding view
returns-in_err-append_place-clause-err c =
    let self = c.args.self.now in
    on_err_of c.from_residual-in_err-append_place.result
    (seen c.append_place.new.numbers self.is_closed c.reserve.new.self.items ≡ seen self.numbers self.is_closed self.units.items)
    (ap (λ ns. seen ns self.is_closed c.reserve.new.self.items) c.in_err-append_place.ensures.err ∙ ap (seen self.numbers self.is_closed) c.reserve.ensures.items)

pub returns-clause-number : goal.returns-clause-number
unfolding view
returns-clause-number c = c.next-number.ensures.next ∙ sym (length-map c.args.self.now.numbers open_number)

pub invariant_of-self-2 : goal.invariant_of-self-2
invariant_of-self-2 c =
    let self = c.args.self.now in
    let places = c.args.place ∷ [] in
    let unit : WaitingUnit = record { kind = Single; dues = c.one.result } in
    let dues : unit.dues ≡ dues_of (length self.numbers) places =
    c.one.ensures ∙ ap (λ due. due ∷ []) (c.due_of-due.ensures ∙ ap (λ n. due_of_place n c.args.place) c.next-number.ensures.next) in
    let numbers : c.append_place.new.numbers ≡ self.numbers ++ calls_of places =
    c.in_ok-append_place.ensures.ok ∙ ap (λ ns. self.numbers ++ ns) (sym (append-nil (calls_of_place c.args.place))) in
    rw (numbers, c.push_back_reserved.ensures.items, c.reserve.ensures.items) (record {
      numbers_ascend = ascends-opened self.numbers self.units.items unit places dues self.numbers_ascend;
      parts_are_finished = front-opened self.numbers self.units.items unit places self.finished_parts dues self.numbers_ascend self.parts_are_finished;
      opening = opening-append self.numbers (calls_of places) (omega (arith, c.next-number.ensures.some)) self.opening;
    })

pub returns-clause-ok : goal.returns-clause-ok
unfolding view
returns-clause-ok c =
    let self = c.args.self.now in
    let places = c.args.place ∷ [] in
    let unit : WaitingUnit = record { kind = Single; dues = c.one.result } in
    let dues : unit.dues ≡ dues_of (length self.numbers) places =
    c.one.ensures ∙ ap (λ due. due ∷ []) (c.due_of-due.ensures ∙ ap (λ n. due_of_place n c.args.place) c.next-number.ensures.next) in
    let numbers : c.append_place.new.numbers ≡ self.numbers ++ calls_of places =
    c.in_ok-append_place.ensures.ok ∙ ap (λ ns. self.numbers ++ ns) (sym (append-nil (calls_of_place c.args.place))) in
    let units : c.push_back_reserved.new.self.items ≡ self.units.items ++ unit ∷ [] =
    c.push_back_reserved.ensures.items ∙ ap (λ us. us ++ unit ∷ []) c.reserve.ensures.items in
    ap (λ ns. seen ns self.is_closed c.push_back_reserved.new.self.items) numbers
    ∙ ap (seen (self.numbers ++ calls_of places) self.is_closed) units
    ∙ seen-opened self.numbers self.is_closed self.units.items unit (record { kind = Single; places = places }) dues refl self.numbers_ascend
