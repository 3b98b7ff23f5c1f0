use Rattle.std.proofs.Common.{ap, ◌∙◌, sym, is_some}
use Rattle.answer_desk.specs.Desk.{view}
use Rattle.open_numbers.proofs.Shown.{number-open, found-some}
use Rattle.answer_desk.proofs.desk.Desk.is_open.Goals as goal

pub returns : goal.returns
unfolding view
returns c =
    c.is_some.ensures ∙ found-some (λ n. n.now) c.open_number.result _ c.open_number.ensures
    ∙ ap is_some (sym (number-open c.args.self.now.numbers c.args.number))
