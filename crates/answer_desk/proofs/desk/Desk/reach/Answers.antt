use Rattle.answer_desk.specs.Desk.{view}
use Rattle.answer_desk.proofs.Views.{ascending-quiet, finished-quiet, lowest-seen, IsQuiet-reached, seen-reached}
use Rattle.open_numbers.proofs.OutOfReach.{opening-reached, opening-above}
use Rattle.answer_desk.proofs.desk.Desk.reach.Goals as goal

pub invariant_of-self : goal.invariant_of-self
invariant_of-self c =
    let self = c.args.self.now in
    let quiet = IsQuiet-reached self.numbers c.reach.new.self c.reach.result c.reach.ensures.none c.reach.ensures.some in
    record {
      numbers_ascend = ascending-quiet _ self.numbers self.units.items quiet self.numbers_ascend;
      parts_are_finished = finished-quiet _ self.numbers self.units.items self.finished_parts quiet self.numbers_ascend self.parts_are_finished;
      opening = opening-reached self.numbers c.reach.new.self c.args.id.now c.args.before c.reach.result c.reach.ensures.lowest c.reach.ensures.none c.reach.ensures.some self.opening;
    }

pub returns-clause-lowest : goal.returns-clause-lowest
unfolding view
returns-clause-lowest c =
    let self = c.args.self.now in
    lowest-seen self.numbers self.is_closed self.units.items c.args.id.now c.args.before c.reach.result c.reach.ensures.lowest

pub returns-clause-after : goal.returns-clause-after
unfolding view
returns-clause-after c =
    let self = c.args.self.now in
    seen-reached self.numbers c.reach.new.self self.is_closed self.units.items c.reach.result c.reach.ensures.none c.reach.ensures.some self.numbers_ascend

pub returns-clause-opening : goal.returns-clause-opening
returns-clause-opening c = opening-above c.args.self.now.numbers c.args.id.now c.args.before c.reach.result c.reach.ensures.lowest c.args.self.now.opening
