use Rattle.std.proofs.Common.{◌≡◌, ◌<◌, ◌*◌, ◌^◌, ◌-◌, ◌≤◌, sym, ap, ◌∙◌, arith}
use Rattle.std.proofs.lemmas.Grind.{common_steps}
use Rattle.conversation_reading.specs.Wholes.{if_64_bits}
use Rattle.conversation_reading.proofs.Sizes.{within, zero_more, zero_too_many}
use Rattle.conversation_reading.proofs.whole.with_zeros.Goals as goal

pub returns-in_err-so_far : goal.returns-in_err-so_far
returns-in_err-so_far c =
    let l = c.loop-left in
    let large : 2 ^ 64 ≤ l.so_far * 10 = grind (arith, common_steps) in
    c.from_residual.ensures ∙ zero_too_many l.so_far l.left (c.args.number * 10 ^ c.args.count) c.loop-left-test.true l.invariant.1 large

pub loop-left-preserved : goal.loop-left-preserved
loop-left-preserved c =
    let l = c.loop-left in
    let grown : c.in_ok-so_far.so_far ≡ l.so_far * 10 = grind (arith, common_steps) in
    let fits : c.in_ok-so_far.so_far < 2 ^ 64 = grind (arith, common_steps) in
    (fits, ap (λ n. n * 10 ^ (l.left - 1)) grown ∙ zero_more l.so_far l.left (c.args.number * 10 ^ c.args.count) c.loop-left-test.true l.invariant.1)

pub returns : goal.returns
returns c =
    let l = c.loop-left in
    let none : l.left ≡ 0 = omega (arith, c.loop-left-test.false) in
    let last : 10 ^ l.left ≡ 1 = ap (λ k. 10 ^ k) none in
    let same : l.so_far ≡ c.args.number * 10 ^ c.args.count = let h = l.invariant.1 in let turned : l.so_far ≡ l.so_far * 1 = omega arith in turned ∙ ap (λ p. l.so_far * p) (sym last) ∙ h in
    within l.so_far l.invariant.0 ∙ ap if_64_bits same
