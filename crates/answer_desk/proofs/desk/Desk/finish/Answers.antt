use Rattle.std.proofs.Common.{map, ap, ◌∙◌}
use Rattle.std.proofs.lemmas.List.{length-set}
use Rattle.answer_desk.specs.Desk.{view}
use Rattle.open_numbers.specs.Kept.{kept_at, with_answer}
use Rattle.answer_desk.specs.Seen.{waiting_of}
use Rattle.answer_desk.proofs.Views.{seen}
use Rattle.answer_desk.proofs.Answered.{units-answered, seen-answered, front_still_finished}
use Rattle.open_numbers.proofs.OutOfReach.{opening-set, IsOutOfReach-answered}
use Rattle.answer_desk.proofs.desk.Desk.finish.Goals as goal

pub invariant_of-self : goal.invariant_of-self
unfolding view
invariant_of-self c =
    let self = c.args.self.now in
    rw (c.shrink.ensures, c.finish.ensures) (record {
      numbers_ascend = rw (length-set self.numbers c.args.number (with_answer c.args.reply (kept_at self.numbers c.args.number))) self.numbers_ascend;
      parts_are_finished = rw (units-answered self.numbers c.args.number c.args.reply self.units.items c.requires)
          (front_still_finished c.args.number c.args.reply self.finished_parts (map (waiting_of self.numbers) self.units.items) self.parts_are_finished);
      opening = opening-set self.numbers c.args.number (with_answer c.args.reply (kept_at self.numbers c.args.number))
          (IsOutOfReach-answered c.args.reply (kept_at self.numbers c.args.number)) self.opening;
    })

pub returns : goal.returns
unfolding view
returns c =
    let self = c.args.self.now in
    ap (λ es. seen es self.is_closed self.units.items) (c.shrink.ensures ∙ c.finish.ensures)
    ∙ seen-answered self.numbers self.is_closed self.units.items c.args.number c.args.reply c.requires
