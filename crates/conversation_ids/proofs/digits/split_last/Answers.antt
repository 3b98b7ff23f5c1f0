use Rattle.std.proofs.Common.{◌+◌, ◌*◌, ◌++◌, rules, ap, sym, ◌∙◌}
use Rattle.conversation_reading.specs.Numbers.{number_of}
use Rattle.conversation_ids.proofs.Numbers.{last_behind, last_before}
use Rattle.conversation_ids.proofs.digits.split_last.Goals as goal

pub returns-in-Some-clause-amount : goal.returns-in-Some-clause-amount
returns-in-Some-clause-amount c =
    last_behind c.args.digits.now c.in-Some.front.now c.in-Some.digit.now c.args.behind.now c.in-Some.ensures.cases.0
    ∙ ap (λ n. 10 * number_of (c.args.digits.now ++ c.in-Some.front.now) + n) (sym c.worth.ensures)

pub returns-in-Some-split_last-clause-amount : goal.returns-in-Some-split_last-clause-amount
returns-in-Some-split_last-clause-amount c =
    last_before c.args.digits.now c.in-Some-split_last.front.now c.in-Some-split_last.digit.now c.args.behind.now c.in-Some-split_last.ensures.cases.0 (search rules)
    ∙ ap (λ n. 10 * number_of (c.in-Some-split_last.front.now ++ c.args.behind.now) + n) (sym c.worth-in-Some-split_last.ensures)
