use Rattle.std.proofs.Common.{◌<◌, ◌≤◌, arith}
use Rattle.value_reading.proofs.Placed.{digit_stands, one_digit_stands, digit_within}
use Rattle.value_reading.proofs.numbers.whole_at.Goals as goal

pub loop-number-init : goal.loop-number-init
loop-number-init c =
    let small : c.digit_at-number.result ≤ 9 = c.if-number-gt9.false in
    let is = c.digit_at-number.ensures small in
    record {
      size = omega (arith, small);
      within = digit_within c.args.text.now c.args.from c.digit_at-number.result is;
      order = omega arith;
      stands = one_digit_stands c.args.text.now c.args.from c.digit_at-number.result small is;
    }

pub loop-number-preserved : goal.loop-number-preserved
loop-number-preserved c =
    let n = c.loop-number.number in
    let d = c.digit_at-digit.result in
    let room = c.if-number-ge-ROOM_FOR_A_DIGIT.false in
    let small : d ≤ 9 = c.if-digit-gt9.false in
    let none = c.loop-number-test.true in
    let some : 0 < n = omega (arith, none) in
    let before = c.loop-number.invariant.order in
    let is = c.digit_at-digit.ensures small in
    record {
      size = omega (arith, room, small);
      within = digit_within c.args.text.now c.loop-number.at d is;
      order = omega (arith, before);
      stands = digit_stands c.args.text.now c.args.from c.loop-number.at n d c.loop-number.invariant.stands some small is (omega (arith, room, small));
    }
