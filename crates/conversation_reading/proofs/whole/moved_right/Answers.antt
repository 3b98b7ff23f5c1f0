use Rattle.std.proofs.Common.{◌≡◌, ℕ, ◌-◌, ◌*◌, ◌^◌, ◌≤◌, ◌<◌, List, length, take, ap, ◌∙◌, arith, rules, None, Some}
use Rattle.std.specs.Prelude.{min}
use Rattle.std.proofs.lemmas.Grind.{common_steps}
use Rattle.conversation_reading.specs.Numbers.{number_of, number_after}
use Rattle.conversation_reading.specs.Wholes.{if_64_bits}
use Rattle.conversation_reading.proofs.Sizes.{none_is, some_is, before_too_large, within_fraction, beyond_fraction, beyond, cut_power, le-times, ten-positive}
use Rattle.conversation_reading.proofs.whole.moved_right.Goals as goal

pub returns-in_err-whole : goal.returns-in_err-whole
returns-in_err-whole c =
    let none : None ≡ if_64_bits (number_of c.args.before.now) = grind (arith, common_steps) in
    c.from_residual.ensures ∙ before_too_large c.args.before.now c.args.fraction.now (number_of c.args.places.now) (none_is (number_of c.args.before.now) none)

pub returns-then-places-fraction : goal.returns-then-places-fraction
returns-then-places-fraction c =
    let n : ℕ = number_of c.args.places.now in
    let fraction : List ℕ = c.args.fraction.now in
    let some : Some c.in_ok-whole.whole ≡ if_64_bits (number_of c.args.before.now) = grind (arith, common_steps) in
    let whole : c.in_ok-whole.whole ≡ number_of c.args.before.now = some_is (number_of c.args.before.now) c.in_ok-whole.whole some in
    let short : length fraction < 2 ^ 63 = search rules in
    let places : c.number_of-places.result ≡ min n (2 ^ 64 - 1) = c.number_of-places.ensures in
    let same : c.number_of-places.result ≡ n = omega (arith, places, short, c.if-places-fraction.true) in
    let few : n ≤ length fraction = omega (arith, same, c.if-places-fraction.true) in
    c.appended-then-places-fraction.ensures ∙ ap (λ k. if_64_bits (number_after c.in_ok-whole.whole (take k fraction))) same
    ∙ ap if_64_bits (within_fraction c.args.before.now fraction n c.in_ok-whole.whole few whole)

pub returns-in_err-appended : goal.returns-in_err-appended
returns-in_err-appended c =
    let n : ℕ = number_of c.args.places.now in
    let fraction : List ℕ = c.args.fraction.now in
    let m : ℕ = number_after c.in_ok-whole.whole fraction in
    let some : Some c.in_ok-whole.whole ≡ if_64_bits (number_of c.args.before.now) = grind (arith, common_steps) in
    let whole : c.in_ok-whole.whole ≡ number_of c.args.before.now = some_is (number_of c.args.before.now) c.in_ok-whole.whole some in
    let places : c.number_of-places.result ≡ min n (2 ^ 64 - 1) = c.number_of-places.ensures in
    let many : length fraction < n = omega (arith, places, c.if-places-fraction.false) in
    let large : 2 ^ 64 ≤ m = none_is m c.in_err-appended.ensures in
    let grown : m ≤ m * 10 ^ (n - length fraction) = le-times m (10 ^ (n - length fraction)) (ten-positive (n - length fraction)) in
    c.from_residual-in_err-appended.ensures ∙ beyond (m * 10 ^ (n - length fraction)) (omega (arith, large, grown))
    ∙ ap if_64_bits (beyond_fraction c.args.before.now fraction n c.in_ok-whole.whole many whole)

pub returns : goal.returns
returns c =
    let n : ℕ = number_of c.args.places.now in
    let fraction : List ℕ = c.args.fraction.now in
    let m : ℕ = number_after c.in_ok-whole.whole fraction in
    let some : Some c.in_ok-whole.whole ≡ if_64_bits (number_of c.args.before.now) = grind (arith, common_steps) in
    let whole : c.in_ok-whole.whole ≡ number_of c.args.before.now = some_is (number_of c.args.before.now) c.in_ok-whole.whole some in
    let digits : c.in_ok-appended.field-0 ≡ m = some_is m c.in_ok-appended.field-0 c.in_ok-appended.ensures in
    let short : length fraction < 2 ^ 63 = search rules in
    let places : c.number_of-places.result ≡ min n (2 ^ 64 - 1) = c.number_of-places.ensures in
    let far : length fraction < min n (2 ^ 64 - 1) = omega (arith, places, c.if-places-fraction.false) in
    let many : length fraction < n = omega (arith, far) in
    c.with_zeros.ensures ∙ ap (λ k. if_64_bits (c.in_ok-appended.field-0 * 10 ^ (k - length fraction))) places
    ∙ cut_power c.in_ok-appended.field-0 (length fraction) n short far
    ∙ ap (λ x. if_64_bits (x * 10 ^ (n - length fraction))) digits
    ∙ ap if_64_bits (beyond_fraction c.args.before.now fraction n c.in_ok-whole.whole many whole)
