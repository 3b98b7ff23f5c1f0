use Rattle.std.proofs.Common.{◌≡◌, ◌+◌, ◌*◌, ◌^◌, ◌≤◌, ◌<◌, [], drop, length, slice_index, sym, ap, ◌∙◌, arith, rules}
use Rattle.std.proofs.lemmas.Grind.{common_steps}
use Rattle.std.proofs.lemmas.List.{drop_all}
use Rattle.conversation_reading.specs.Numbers.{digit_of, number_after}
use Rattle.conversation_reading.specs.Wholes.{if_64_bits}
use Rattle.conversation_reading.proofs.Sizes.{within, digit_more, digit_too_many}
use Rattle.conversation_reading.proofs.whole.appended.Goals as goal

pub returns-in_err-tens : goal.returns-in_err-tens
returns-in_err-tens c =
    let l = c.loop-digit in
    let tens : 2 ^ 64 ≤ l.so_far * 10 = grind (arith, common_steps) in
    c.from_residual.ensures ∙ digit_too_many l.so_far c.args.digits.now l.digit-index (number_after c.args.number c.args.digits.now) c.loop-digit-test.true l.invariant.1 (omega (arith, tens))

pub returns-in_err-so_far : goal.returns-in_err-so_far
returns-in_err-so_far c =
    let l = c.loop-digit in
    let large : 2 ^ 64 ≤ l.so_far * 10 + digit_of (slice_index c.args.digits.now l.digit-index) = grind (arith, common_steps) in
    c.from_residual-in_err-so_far.ensures ∙ digit_too_many l.so_far c.args.digits.now l.digit-index (number_after c.args.number c.args.digits.now) c.loop-digit-test.true l.invariant.1 large

pub returns : goal.returns
returns c =
    let l = c.loop-digit in
    let over : length c.args.digits.now ≤ l.digit-index = search rules in
    let none : drop l.digit-index c.args.digits.now ≡ [] = drop_all l.digit-index c.args.digits.now over in
    let same : l.so_far ≡ number_after c.args.number c.args.digits.now = sym (ap (number_after l.so_far) none) ∙ l.invariant.1 in
    within l.so_far l.invariant.0 ∙ ap if_64_bits same

pub loop-digit-preserved : goal.loop-digit-preserved
loop-digit-preserved c =
    let l = c.loop-digit in
    let next : c.in_ok-so_far.so_far ≡ l.so_far * 10 + digit_of (slice_index c.args.digits.now l.digit-index) = grind (arith, common_steps) in
    let fits : c.in_ok-so_far.so_far < 2 ^ 64 = grind (arith, common_steps) in
    (fits, ap (λ n. number_after n (drop (l.digit-index + 1) c.args.digits.now)) next ∙ digit_more l.so_far c.args.digits.now l.digit-index (number_after c.args.number c.args.digits.now) c.loop-digit-test.true l.invariant.1)
