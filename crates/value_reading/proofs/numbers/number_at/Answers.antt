use Rattle.std.proofs.Common.{◌≡◌, ◌+◌, ◌-◌, suc, negsuc, subst, sym, ap, ◌∙◌, arith, decimal, w64, rules}
use Rattle.std.proofs.lemmas.Int.{to_z-of_z}
use Rattle.json_texts.specs.Standing.{Stands}
use Rattle.serde_json.specs.Data.{number, negative}
use Rattle.serde_json.specs.Find.{of_integer}
use Rattle.serde_json.specs.View.{number_view}
use Rattle.value_reading.specs.Lexed.{IsRead}
use Rattle.value_reading.proofs.Placed.{negative_read, whole_read}
use Rattle.value_reading.proofs.numbers.number_at.Goals as goal

pub returns-then-number-gt0-clause-number : goal.returns-then-number-gt0-clause-number
returns-then-number-gt0-clause-number c =
    let text = c.args.text.now in
    let from = c.args.from in
    let end = c.in-Some.end in
    let n = c.in-Some.number in
    let read = c.in-Some.ensures in
    let size = read.size in
    let some = c.if-number-gt0.true in
    let above : n ≡ suc (n - 1) = omega (arith, some) in
    let stands : Stands text (from + 1) (decimal (suc (n - 1))) end = subst (λ m. Stands text (from + 1) (decimal m) end) above read.number in
    let seen : number_view c.from.result ≡ negative (negsuc (n - 1)) =
    c.from.ensures ∙ ap of_integer (to_z-of_z w64 c.negated.result (search rules) ∙ c.negated.ensures) in
    subst (λ x. IsRead 0 text from end (number x)) (sym seen) (negative_read 0 text from end (n - 1) (omega (arith, size)) (sym c.byte_at-byte.ensures ∙ c.if-byte-eq45.true) stands)

pub returns-in-Some-whole_at-clause-number : goal.returns-in-Some-whole_at-clause-number
returns-in-Some-whole_at-clause-number c =
    let read = c.in-Some-whole_at.ensures in
    subst (λ x. IsRead 0 c.args.text.now c.args.from c.in-Some-whole_at.end (number x)) (sym c.from-in-Some-whole_at.ensures)
    (whole_read 0 c.args.text.now c.args.from c.in-Some-whole_at.end c.in-Some-whole_at.number read.size read.number)
