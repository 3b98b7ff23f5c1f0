use Rattle.std.proofs.Common.{◌≡◌, ◌-◌, ◌≤◌, None, false, refl, length, get_or, take, drop, subst, sym, ap, ◌∙◌, arith, length-take}
use Rattle.std.proofs.lemmas.Bool.{false≢true}
use Rattle.std.proofs.lemmas.List.{get_or_past}
use Rattle.std.proofs.lemmas.Str.{IsUtf8-from_ascii}
use Rattle.json.specs.Print.{IsNumber}
use Rattle.json_texts.specs.Found.{is_of_number}
use Rattle.json_texts.proofs.Placed.{ascii_part, part_stands, number_is_some}
use Rattle.json_texts.proofs.FoundNumbers.{run_over, any_found, no_any_found}
use Rattle.json_texts.proofs.compact.any_number_end.Goals.{then-loop-at-test+else-is_of_number, else-loop-at-test}
use Rattle.json_texts.proofs.compact.any_number_end.Goals as goal

pub from_utf8_unchecked-number-requires : goal.from_utf8_unchecked-number-requires
from_utf8_unchecked-number-requires c =
    IsUtf8-from_ascii (take (c.loop-at.at - c.args.from) (drop c.args.from c.args.text.now)) (ascii_part c.args.text.now c.args.from c.loop-at.at c.loop-at.invariant.2)

pub returns-then-is_number-clause-number : goal.returns-then-is_number-clause-number
returns-then-is_number-clause-number c =
    let part = take (c.loop-at.at - c.args.from) (drop c.args.from c.args.text.now) in
    let is : IsNumber part = subst IsNumber c.from_utf8_unchecked-number.ensures (c.if-is_number.ensures.0 refl) in
    record { number = part; is = is; stands = part_stands c.args.text.now c.args.from c.loop-at.at c.loop-at.invariant.0 }

pub returns-then-is_number-clause-bounds : goal.returns-then-is_number-clause-bounds
returns-then-is_number-clause-bounds c =
    let part = take (c.loop-at.at - c.args.from) (drop c.args.from c.args.text.now) in
    let is : IsNumber part = subst IsNumber c.from_utf8_unchecked-number.ensures (c.if-is_number.ensures.0 refl) in
    let some = number_is_some part is in
    let size = length-take (c.loop-at.at - c.args.from) (drop c.args.from c.args.text.now) in
    let within : c.loop-at.at ≤ length c.args.text.now = c.loop-at.invariant.1 in
    (omega (arith, some, size), within)

pub returns-then-is_number-clause-found : goal.returns-then-is_number-clause-found
returns-then-is_number-clause-found c =
    let text = c.args.text.now in
    let at = c.loop-at.at in
    let other : is_of_number (get_or text at 0) ≡ false = elim c.loop-at-test.branch [
      | then-loop-at-test+else-is_of_number w ↦ sym w.is_of_number.ensures.value ∙ w.if-is_of_number.false
      | else-loop-at-test w ↦ ap is_of_number (get_or_past text at 0 (omega (arith, w.loop-at-test.false)))
    ] in
    any_found text c.args.from at (run_over text c.args.from at c.loop-at.invariant.3 other)

pub returns-else-is_number-clause-found : goal.returns-else-is_number-clause-found
returns-else-is_number-clause-found c =
    let text = c.args.text.now in
    let at = c.loop-at.at in
    let other : is_of_number (get_or text at 0) ≡ false = elim c.loop-at-test.branch [
      | then-loop-at-test+else-is_of_number w ↦ sym w.is_of_number.ensures.value ∙ w.if-is_of_number.false
      | else-loop-at-test w ↦ ap is_of_number (get_or_past text at 0 (omega (arith, w.loop-at-test.false)))
    ] in
    no_any_found text c.args.from at None (run_over text c.args.from at c.loop-at.invariant.3 other)
    (λ is. false≢true (sym c.if-is_number.false ∙ c.is_number.ensures.1 (subst IsNumber (sym c.from_utf8_unchecked-number.ensures) is)))
