use Rattle.std.proofs.Common.{ℕ, ◌+◌, ◌-◌, ◌*◌, ◌^◌, take, slice_index, ap, sym, ◌∙◌}
use Rattle.std.specs.Prelude.{min}
use Rattle.conversation_reading.specs.Numbers.{number_of}
use Rattle.conversation_ids.proofs.Steps.{taken}
use Rattle.conversation_ids.proofs.Numbers.{number_of-last, min_more}
use Rattle.conversation_ids.proofs.digits.number_up_to_beyond.Goals as goal

pub loop-digit-preserved : goal.loop-digit-preserved
loop-digit-preserved c =
    let digits = c.args.digits.now in
    let i : ℕ = c.loop-digit.digit-index in
    let so_far : ℕ = number_of (take i digits) in
    let digit : ℕ = slice_index digits i - 48 in
    c.more-number.ensures
    ∙ ap (λ n. min (10 * n + digit) (2 ^ 104)) c.loop-digit.invariant
    ∙ min_more so_far digit (2 ^ 104)
    ∙ ap (λ n. min n (2 ^ 104)) (sym (number_of-last (take i digits) (slice_index digits i)) ∙ sym (ap number_of (taken digits i c.loop-digit-test.true)))
