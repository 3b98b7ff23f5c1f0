use Rattle.std.proofs.Common.{ℕ, ◌+◌, ◌*◌, ◌++◌, ap, sym, ◌∙◌, arith, length}
use Rattle.conversation_reading.specs.Numbers.{number_of}
use Rattle.conversation_ids.proofs.Numbers.{zero_less, zeros_fit, not_zero}
use Rattle.conversation_ids.proofs.digits.without_zeros.Goals as goal

pub loop-front-preserved : goal.loop-front-preserved
loop-front-preserved c =
    let split = c.split_last-digit in
    let A : ℕ = number_of (c.loop-front.left.now ++ c.loop-front.left_behind.now) in
    let B : ℕ = number_of (split.result.1.now ++ split.result.2.now) in
    let last = split.ensures.amount ∙ ap (λ n. 10 * B + n) (sym c.from.ensures) in
    let digit = split.ensures.digit in
    let same = c.from.ensures in
    let none = c.is_none_left.ensures in
    let left = c.if-is_none_left.false in
    record {
      amount = zero_less (number_of (c.args.digits.now ++ c.args.behind.now)) A B c.from.result c.loop-front.more c.loop-front.zeros c.loop-front.invariant.amount last c.if-sum-ne0.false;
      more = let few = c.loop-front.invariant.more in omega (arith, digit, same, few);
      zeros = zeros_fit c.loop-front.zeros (length c.loop-front.left.now + length c.loop-front.left_behind.now) (length split.result.1.now + length split.result.2.now) c.loop-front.more c.from.result
          (30 * (length c.args.digits.now + length c.args.behind.now)) c.loop-front.invariant.zeros c.loop-front.invariant.more (omega (arith, digit, same)) split.ensures.shorter
          (λ none_left. let e = split.ensures.none none_left in (same ∙ e.0, e.1))
          (not_zero (length c.loop-front.left.now + length c.loop-front.left_behind.now + c.loop-front.more) (sym left ∙ none)) c.if-sum-ne0.false;
    }
