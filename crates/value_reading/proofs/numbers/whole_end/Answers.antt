use Rattle.std.proofs.Common.{◌≡◌, ◌<◌, ◌≤◌, ◌+◌, ◌-◌, ◌*◌, ◌^◌, suc, subst, sym, arith}
use Rattle.value_reading.proofs.Placed.{digit_stands, one_digit_stands, digit_within, digit_below, digits_fit}
use Rattle.value_reading.proofs.numbers.whole_end.Goals as goal

pub loop-at-init : goal.loop-at-init
loop-at-init c =
    let text = c.args.text.now in
    let from = c.args.from in
    let d = c.digit_at-first.result in
    let small : d ≤ 9 = c.if-first-gt9.false in
    let is = c.digit_at-first.ensures small in
    let one : from + 1 - from ≡ 1 = omega arith in
    record {
      order = omega arith;
      within = digit_within text from d is;
      room = omega arith;
      number = (d, omega arith, subst (λ k. d < 10 ^ k) (sym one) (omega (arith, small)), one_digit_stands text from d small is);
    }

pub loop-at-preserved : goal.loop-at-preserved
loop-at-preserved c =
    let text = c.args.text.now in
    let from = c.args.from in
    let at = c.loop-at.at in
    let d = c.digit_at.result in
    let small : d ≤ 9 = c.if-digit_at-gt9.false in
    let is = c.digit_at.ensures small in
    let order = c.loop-at.invariant.order in
    let number = c.loop-at.invariant.number in
    let n = number.0 in
    let first = number.1 in
    let leads = c.loop-at-test.true in
    let some : 0 < n = omega (arith, leads, first) in
    let last = c.min-last.ensures in
    let before = c.if-at-last.true in
    let room : suc (at - from) ≤ 18 = omega (arith, before, last, order) in
    let one_more : at + 1 - from ≡ suc (at - from) = omega (arith, order) in
    let below : n * 10 + d < 10 ^ suc (at - from) = digit_below (at - from) n d number.2 small in
    let fits = digits_fit (suc (at - from)) (n * 10 + d) room below in
    record {
      order = omega (arith, order);
      within = digit_within text at d is;
      room = omega (arith, one_more, room);
      number = (n * 10 + d, omega (arith, first), subst (λ k. n * 10 + d < 10 ^ k) (sym one_more) below, digit_stands text from at n d number.3 some small is (omega (arith, fits)));
    }

pub returns-clause-number : goal.returns-clause-number
returns-clause-number c =
    let before = c.loop-at.invariant in
    let number = before.number in
    (number.0, digits_fit (c.loop-at.at - c.args.from) number.0 before.room number.2, number.3)
