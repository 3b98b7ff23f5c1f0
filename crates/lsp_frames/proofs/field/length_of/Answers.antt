use Rattle.std.proofs.Common.{◌≡◌, true, get_or, sym, ◌∙◌, arith}
use Rattle.std.specs.Char.{is_ascii_digit}
use Rattle.std.proofs.lemmas.List.Folds.{list_all_at}
use Rattle.lsp_frames.proofs.Digits.{value_of_digit, number_more, small_more, digits_more, no_length}
use Rattle.lsp_frames.proofs.field.length_of.Goals as goal

pub returns-then-not-is_ascii_digit : goal.returns-then-not-is_ascii_digit
returns-then-not-is_ascii_digit c =
    sym (no_length c.args.value.now (list_all_at is_ascii_digit c.args.value.now c.loop-digit.digit-index 0 c.loop-digit-test.true
    (sym c.is_ascii_digit.ensures.value ∙ c.if-not-is_ascii_digit.true)))

pub loop-digit-preserved : goal.loop-digit-preserved
loop-digit-preserved c =
    let digit : is_ascii_digit (get_or c.args.value.now c.loop-digit.digit-index 0) ≡ true = sym c.is_ascii_digit.ensures.value ∙ c.if-not-is_ascii_digit.false in
    let is = value_of_digit (get_or c.args.value.now c.loop-digit.digit-index 0) digit in
    record {
      number = number_more c.args.value.now c.loop-digit.digit-index _ _ c.loop-digit-test.true digit c.loop-digit.invariant.number c.from.ensures;
      small = small_more c.loop-digit.digit-index _ _ c.loop-digit.invariant.small (omega arith);
      digits = digits_more c.args.value.now c.loop-digit.digit-index c.loop-digit-test.true c.loop-digit.invariant.digits digit;
    }
