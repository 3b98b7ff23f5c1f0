use Rattle.std.proofs.Common.{◌≡◌, Some, length, sym, subst, ap, ◌∙◌, arith}
use Rattle.std.specs.Prelude.{option_map}
use Rattle.json_texts.specs.Standing.{HasValue}
use Rattle.serde_json.specs.Read.{number_of}
use Rattle.serde_json.specs.View.{number_view}
use Rattle.value_reading.proofs.Placed.{any_read}
use Rattle.value_reading.proofs.numbers.any_at.Goals as goal

pub returns-clause-number : goal.returns-clause-number
returns-clause-number c =
    let text = c.args.text.now in
    let from = c.args.from in
    let end = c.in_ok-end.end in
    let same : c.as_bytes.result.now ≡ text = c.as_bytes.ensures.value in
    let found = c.in_ok-end.ensures in
    let bounds = found.bounds in
    let value : HasValue 0 text from end = subst (λ t. HasValue 0 t from end) same found.value in
    let read : number_of c.range.result.now ≡ Some (number_view c.in_ok-number.number) = sym c.read_number.ensures ∙ ap (option_map number_view) c.in_ok-number.was in
    any_read text c.range.result.now from end (number_view c.in_ok-number.number) value c.requires.0 c.requires.1 (omega (arith, bounds.0)) (omega (arith, bounds.1, ap length same)) c.range.ensures.value read
