use Rattle.std.proofs.Common.{ap, ◌∙◌, sym}
use Rattle.answer_desk.specs.Desk.{view}
use Rattle.open_numbers.specs.Kept.{kept_at, open_number}
use Rattle.open_numbers.specs.OpenCalls.{is_marked_number}
use Rattle.open_numbers.proofs.Shown.{number-open}
use Rattle.answer_desk.proofs.desk.Desk.is_marked.Goals as goal

pub returns-in-Some-clause-marked : goal.returns-in-Some-clause-marked
unfolding view
returns-in-Some-clause-marked c =
    ap is_marked_number (sym (number-open c.args.self.now.numbers c.args.number ∙ c.in-Some.ensures))

pub returns-in-None-clause-marked : goal.returns-in-None-clause-marked
unfolding view
returns-in-None-clause-marked c = sym (ap is_marked_number (number-open c.args.self.now.numbers c.args.number ∙ c.in-None.ensures))

pub returns-in-Some-clause-opening : goal.returns-in-Some-clause-opening
returns-in-Some-clause-opening c first =
    let self = c.args.self.now in
    ap is_marked_number (sym c.in-Some.ensures) ∙ ap (λ n. is_marked_number (open_number (kept_at self.numbers n))) first ∙ self.opening.unmarked
