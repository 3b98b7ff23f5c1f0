use Rattle.std.proofs.Common.{◌≡◌, Some, None, true, decimal, sym, ap, ◌∙◌, arith}
use Rattle.std.proofs.lemmas.Slice.Eq.{bytes_eq-Decides}
use Rattle.std.specs.Result.{result_ok}
use Rattle.rpc_messages.proofs.KeyLemmas.{decimal_number-decimal, decimal_number-unread}
use Rattle.rpc_messages.proofs.key.decimal_number.Goals as goal
use Rattle.rpc_messages.proofs.key.decimal_number.Goals.{else-number-most-via-then-number-most+else-eq, else-number-most-via-else-number-most}

pub returns-then-eq : goal.returns-then-eq
returns-then-eq c =
    let same = (bytes_eq-Decides c.format.result.now c.args.text.now).0 (sym c.if-eq.ensures) in
    let written : c.args.text.now ≡ decimal c.in_ok-number.number = sym same ∙ c.format.ensures.text in
    rw written (sym (decimal_number-decimal c.args.most c.in_ok-number.number c.if-number-most.true (omega arith)))

pub returns-else-number-most : goal.returns-else-number-most
returns-else-number-most c = sym (decimal_number-unread c.args.most c.args.text.now c.parse.result (omega arith) c.parse.ensures.value.0 (λ n read is small.
    let found : Some c.in_ok-number.number ≡ Some n = c.in_ok-number.ensures.value ∙ ap result_ok read in
    let same : c.in_ok-number.number ≡ n = cc in
    elim c.else-number-most.branch [
      | else-number-most-via-then-number-most+else-eq w ↦
          let written : w.format.result.now ≡ c.args.text.now = w.format.ensures.text ∙ ap decimal same ∙ sym is in
          let equal : w.eq.result ≡ true = w.eq.ensures ∙ (bytes_eq-Decides w.format.result.now c.args.text.now).1 written in
          cc
      | else-number-most-via-else-number-most w ↦ omega arith
    ]))

pub returns-in_err-number : goal.returns-in_err-number
returns-in_err-number c = c.from_residual.ensures ∙ sym (decimal_number-unread c.args.most c.args.text.now c.parse.result (omega arith) c.parse.ensures.value.0 (λ n read is small.
    let none : None ≡ Some n = c.in_err-number.ensures.value ∙ ap result_ok read in cc))
