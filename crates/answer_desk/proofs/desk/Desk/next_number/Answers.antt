use Rattle.std.proofs.Common.{sym, ◌∙◌}
use Rattle.std.proofs.lemmas.List.{length-map}
use Rattle.answer_desk.specs.Desk.{view}
use Rattle.open_numbers.specs.Kept.{open_number}
use Rattle.answer_desk.proofs.desk.Desk.next_number.Goals as goal

pub returns : goal.returns
unfolding view
returns c = c.next.ensures.next ∙ sym (length-map c.args.self.now.numbers open_number)
