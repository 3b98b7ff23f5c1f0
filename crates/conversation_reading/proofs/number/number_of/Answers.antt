use Rattle.std.proofs.Common.{ℕ, ◌+◌, ◌-◌, ◌*◌, ◌^◌, take, slice_index, ap, sym, ◌∙◌}
use Rattle.std.specs.Prelude.{min}
use Rattle.conversation_reading.specs.Numbers.{digit_of, number_of}
use Rattle.conversation_reading.proofs.Digits.{number_of-more, min_more}
use Rattle.conversation_reading.proofs.number.number_of.Goals as goal

pub loop-digit-preserved : goal.loop-digit-preserved
loop-digit-preserved c =
    let digits = c.args.digits.now in
    let so_far : ℕ = number_of (take c.loop-digit.digit-index digits) in
    let digit : ℕ = digit_of (slice_index digits c.loop-digit.digit-index) in
    c.more-number.ensures
    ∙ ap (λ n. min (10 * n + digit) (2 ^ 64 - 1)) c.loop-digit.invariant
    ∙ min_more so_far digit (2 ^ 64 - 1)
    ∙ ap (λ n. min n (2 ^ 64 - 1)) (sym (number_of-more digits c.loop-digit.digit-index c.loop-digit-test.true))
