use Rattle.std.proofs.Common.{ap, sym, ◌∙◌}
use Rattle.answer_desk.specs.Desk.{view}
use Rattle.open_numbers.specs.Kept.{kept_at, open_number}
use Rattle.answer_desk.proofs.Views.{seen, IsQuiet-marked, ascending-quiet, finished-quiet, seen-marked}
use Rattle.open_numbers.proofs.Shown.{number-open}
use Rattle.open_numbers.proofs.OutOfReach.{opening-left}
use Rattle.answer_desk.proofs.desk.Desk.mark.Goals as goal

pub invariant_of-self : goal.invariant_of-self
invariant_of-self c =
    let self = c.args.self.now in
    let quiet = IsQuiet-marked c.args.id.now c.args.before self.numbers in
    rw c.mark.ensures (record {
      numbers_ascend = ascending-quiet _ self.numbers self.units.items quiet self.numbers_ascend;
      parts_are_finished = finished-quiet _ self.numbers self.units.items self.finished_parts quiet self.numbers_ascend self.parts_are_finished;
      opening = rw (opening-left c.args.id.now c.args.before self.numbers self.opening) self.opening;
    })

pub returns-clause-after : goal.returns-clause-after
unfolding view
returns-clause-after c =
    let self = c.args.self.now in
    ap (λ es. seen es self.is_closed self.units.items) c.mark.ensures
    ∙ seen-marked c.args.id.now c.args.before self.numbers self.is_closed self.units.items self.numbers_ascend

pub returns-clause-opening : goal.returns-clause-opening
unfolding view
returns-clause-opening c =
    let self = c.args.self.now in
    number-open c.mark.new.self 0
    ∙ ap (λ es. open_number (kept_at es 0)) c.mark.ensures ∙ ap open_number (opening-left c.args.id.now c.args.before self.numbers self.opening)
    ∙ sym (number-open self.numbers 0)
