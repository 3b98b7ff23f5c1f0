use Rattle.std.proofs.Common.{ℕ, ◌+◌, ◌-◌, ◌*◌, ◌%◌, ◌++◌, ◌∷◌, [], take, slice_index, ap, sym, ◌∙◌, append_assoc}
use Rattle.conversation_reading.specs.Numbers.{number_of}
use Rattle.conversation_ids.specs.Marks.{most_marks}
use Rattle.conversation_ids.proofs.OneMark.{more_of}
use Rattle.conversation_ids.proofs.Numbers.{number_of-last}
use Rattle.conversation_ids.proofs.Steps.{taken}
use Rattle.conversation_ids.proofs.marks.remainder_of.Goals as goal

pub loop-digit-preserved : goal.loop-digit-preserved
loop-digit-preserved c =
    let digits = c.args.digits.now in
    let i : ℕ = c.loop-digit.digit-index in
    let so_far : ℕ = number_of (take i digits) in
    let digit : ℕ = slice_index digits i - 48 in
    c.remainder_with-number.ensures
    ∙ ap (λ n. (10 * n + digit) % most_marks) c.loop-digit.invariant
    ∙ more_of so_far digit
    ∙ ap (λ n. n % most_marks) (sym (number_of-last (take i digits) (slice_index digits i)) ∙ sym (ap number_of (taken digits i c.loop-digit-test.true)))

pub loop-other-preserved : goal.loop-other-preserved
loop-other-preserved c =
    let digits = c.args.digits.now in
    let behind = c.args.behind.now in
    let i : ℕ = c.loop-other.other-index in
    let so_far : ℕ = number_of (digits ++ take i behind) in
    let last : ℕ = slice_index behind i in
    c.remainder_with-number-in-loop-other.ensures
    ∙ ap (λ n. (10 * n + (last - 48)) % most_marks) c.loop-other.invariant
    ∙ more_of so_far (last - 48)
    ∙ ap (λ n. n % most_marks)
    (sym (number_of-last (digits ++ take i behind) last)
    ∙ ap number_of (append_assoc digits (take i behind) (last ∷ []) ∙ sym (ap (λ xs. digits ++ xs) (taken behind i c.loop-other-test.true))))
