use Rattle.std.proofs.Common.{◌≡◌, ℕ, ◌-◌, ◌<◌, ◌≤◌, ◌^◌, ◌++◌, true, get_or, length, take, drop, codes, sym, ap, ◌∙◌, arith}
use Rattle.std.proofs.Math.Nat.{pow-le-pow_right}
use Rattle.std.proofs.lemmas.List.{take_rest}
use Rattle.std.specs.Char.{is_ascii_digit}
use Rattle.lsp_frames.proofs.Digits.{value_of_digit, number_more, small_more, digits_more}
use Rattle.lsp_frames.proofs.Choices.{starts_is, same_if}
use Rattle.lsp_frames.proofs.Writings.{usual_is}
use Rattle.lsp_frames.proofs.usual_head.usual_head.Goals as goal

-- so many digits write no more than this
few_digits : (n k : ℕ) → n < 10 ^ k → k < 8 → n < 10000000
few_digits n k small few =
    let at_most : k ≤ 7 = omega (arith, few) in
    let ten : 0 < 10 = omega arith in
    let most : 10 ^ k ≤ 10000000 = pow-le-pow_right ten at_most in
    omega (arith, small, most)

pub overflow_mul-size : goal.overflow_mul-size
overflow_mul-size c =
    let small = few_digits c.loop-digits.size c.loop-digits.digits c.loop-digits.invariant.small (omega (arith, c.loop-digits-test.true, c.min-most.ensures)) in
    omega (arith, small)

pub overflow_add-size : goal.overflow_add-size
overflow_add-size c =
    let value = take (length c.args.bytes.now - 16) (drop 16 c.args.bytes.now) in
    let digit : is_ascii_digit (get_or value c.loop-digits.digits 0) ≡ true = sym c.is_ascii_digit.ensures.value ∙ c.if-is_ascii_digit.true in
    let is = value_of_digit (get_or value c.loop-digits.digits 0) digit in
    let small = few_digits c.loop-digits.size c.loop-digits.digits c.loop-digits.invariant.small (omega (arith, c.loop-digits-test.true, c.min-most.ensures)) in
    let byte = c.from.ensures in
    omega (arith, small, is, byte)

pub loop-digits-preserved : goal.loop-digits-preserved
loop-digits-preserved c =
    let value = take (length c.args.bytes.now - 16) (drop 16 c.args.bytes.now) in
    let l = c.loop-digits in
    let inside : l.digits < length value = omega (arith, c.loop-digits-test.true, c.min-most.ensures) in
    let digit : is_ascii_digit (get_or value l.digits 0) ≡ true = sym c.is_ascii_digit.ensures.value ∙ c.if-is_ascii_digit.true in
    let is = value_of_digit (get_or value l.digits 0) digit in
    let byte = c.from.ensures in
    record {
      few = omega arith;
      number = number_more value l.digits _ _ inside digit l.invariant.number byte;
      small = small_more l.digits _ _ l.invariant.small (omega (arith, is, byte));
      all = digits_more value l.digits inside l.invariant.all digit;
    }

pub returns-then-eq-clause-head : goal.returns-then-eq-clause-head
returns-then-eq-clause-head c =
    let bytes = c.args.bytes.now in
    let value = take (length bytes - 16) (drop 16 bytes) in
    let l = c.loop-digits in
    let k = l.digits in
    let words = c.in_ok-words.words.now in
    let end = c.in_ok-end.end.now in
    let is : value ≡ drop 16 bytes = take_rest bytes 16 in
    let first : bytes ≡ codes "Content-Length: " ++ drop 16 bytes = starts_is bytes words (codes "Content-Length: ") 16 c.in_ok-words.ensures.cases.same (same_if _ (sym c.ne.ensures ∙ c.if-ne.false)) in
    let slice : take (length value - k) (drop k value) ≡ drop k value = take_rest value k in
    let last : drop k value ≡ codes "\r\n\r\n" ++ drop 4 (drop k value) =
    starts_is (drop k value) end (codes "\r\n\r\n") 4 (c.in_ok-end.ensures.cases.same ∙ ap (take 4) slice) (sym c.eq.ensures ∙ c.if-eq.true) in
    let some = c.if-digits-eq0.false in
    usual_is c.args.limit l.size k bytes value is first last c.if-size-limit.false l.invariant.all (omega (arith, some)) (omega (arith, l.invariant.few, c.min-most.ensures)) (omega (arith, l.invariant.few, c.min-most.ensures)) (sym l.invariant.number)
