use Rattle.std.proofs.Common.{ℕ, ◌+◌, ◌%◌, ◌++◌, ap, sym, ◌∙◌, length}
use Rattle.conversation_reading.specs.Numbers.{number_of}
use Rattle.conversation_ids.specs.Marks.{most_marks, without_zeros}
use Rattle.conversation_ids.proofs.OneMark.{sum_of, is_without}
use Rattle.conversation_ids.proofs.Values.{none_left}
use Rattle.conversation_ids.proofs.marks.number_mark.Goals as goal

pub returns-clause-value : goal.returns-clause-value
returns-clause-value c =
    let parts = c.parts_of.result in
    let left = c.without_zeros-more.result in
    let digits : ℕ = number_of (parts.1.now ++ parts.2.now) in
    let stripped : ℕ = number_of (left.0.now ++ left.1.now) + left.2 in
    ap (λ n. (n + left.2) % most_marks) (c.from.ensures ∙ c.remainder_of.ensures)
    ∙ sum_of (number_of (left.0.now ++ left.1.now)) left.2
    ∙ ap (λ n. n % most_marks) (sym
    (is_without digits stripped left.3 (length left.0.now + length left.1.now + left.2) c.without_zeros-more.ensures.amount c.without_zeros-more.ensures.shortest (none_left left.0.now left.1.now left.2)))
    ∙ ap (λ amount. without_zeros amount.digits % most_marks) (sym c.parts_of.ensures)
