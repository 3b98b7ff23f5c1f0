use Rattle.std.proofs.Common.{◌==◌, ℕ, ◌+◌, ◌++◌, Bool, ap, sym, ◌∙◌, arith, length}
use Rattle.conversation_reading.specs.Numbers.{number_of}
use Rattle.conversation_rules.specs.Amounts.{amount_of, moves_of, same_amount, same_sign}
use Rattle.conversation_ids.specs.Digits.{amount_of_parts}
use Rattle.conversation_ids.proofs.Values.{same_where, none_left, flags}
use Rattle.conversation_ids.proofs.amounts.same_amount.Goals as goal

pub returns : goal.returns
returns c =
    let a = c.parts_of-a_minus.result in
    let b = c.parts_of-b_minus.result in
    let x = c.without_zeros-a_more in
    let y = c.without_zeros-b_more in
    let Da : ℕ = number_of (a.1.now ++ a.2.now) in
    let Db : ℕ = number_of (b.1.now ++ b.2.now) in
    let A : ℕ = number_of (x.result.0.now ++ x.result.1.now) + x.result.2 in
    let B : ℕ = number_of (y.result.0.now ++ y.result.1.now) + y.result.2 in
    let ea : ℕ = (moves_of a.3.now).0 + (length b.2.now + (moves_of b.3.now).1) in
    let eb : ℕ = (moves_of b.3.now).0 + (length a.2.now + (moves_of a.3.now).1) in
    let pa : ℕ = (moves_of a.3.now).0 + ((moves_of b.3.now).1 + (x.result.3 + length b.2.now)) in
    let pb : ℕ = (moves_of b.3.now).0 + ((moves_of a.3.now).1 + (y.result.3 + length a.2.now)) in
    let ca : ℕ = length x.result.0.now + length x.result.1.now + x.result.2 in
    let cb : ℕ = length y.result.0.now + length y.result.1.now + y.result.2 in
    let sign : Bool = same_sign a.0 b.0 in
    c.same_value.ensures
    ∙ flags c.is_none_left-a_is_zero.result (ca == 0) c.is_none_left-b_is_zero.result (cb == 0) c.same_sign-same_sign.result sign c.same_sum-same_digits.result (A == B) c.same_power-same_places.result (pa == pb)
    c.is_none_left-a_is_zero.ensures c.is_none_left-b_is_zero.ensures c.same_sign-same_sign.ensures c.same_sum-same_digits.ensures c.same_power-same_places.ensures
    ∙ same_where Da Db A B x.result.3 y.result.3 ea eb pa pb ca cb sign x.ensures.amount y.ensures.amount x.ensures.shortest y.ensures.shortest
    (none_left x.result.0.now x.result.1.now x.result.2) (none_left y.result.0.now y.result.1.now y.result.2) (omega arith) (omega arith)
    ∙ ap (λ m. same_amount m (amount_of_parts b.0 b.1.now b.2.now b.3.now)) (sym c.parts_of-a_minus.ensures)
    ∙ ap (λ m. same_amount (amount_of c.args.a.now) m) (sym c.parts_of-b_minus.ensures)
