use Rattle.std.proofs.Common.{refl, ap, ◌∙◌}
use Rattle.open_numbers.specs.declared.open_call.OpenCall.{OpenCall}
use Rattle.answer_desk.specs.Desk.{view}
use Rattle.open_numbers.specs.Kept.{kept_at, slots_without, with_taken}
use Rattle.open_numbers.specs.Replies.{given_by}
use Rattle.answer_desk.proofs.Views.{seen, slot-seen, IsQuiet-changed, ascending-quiet, finished-quiet, seen-taken}
use Rattle.open_numbers.proofs.OutOfReach.{opening-set, IsOutOfReach-changed}
use Rattle.answer_desk.proofs.desk.Desk.take_reply.Goals as goal

pub invariant_of-self : goal.invariant_of-self
invariant_of-self c =
    let self = c.args.self.now in
    let quiet = IsQuiet-changed (λ (m : OpenCall). record m { replies = slots_without self.is_closed m.replies c.args.turn }) (λ m. refl) self.numbers c.args.number in
    rw c.take_reply.ensures.after (record {
      numbers_ascend = ascending-quiet _ self.numbers self.units.items quiet self.numbers_ascend;
      parts_are_finished = finished-quiet _ self.numbers self.units.items self.finished_parts quiet self.numbers_ascend self.parts_are_finished;
      opening = opening-set self.numbers c.args.number (with_taken c.args.turn self.is_closed (kept_at self.numbers c.args.number))
          (IsOutOfReach-changed (λ (m : OpenCall). record m { replies = slots_without self.is_closed m.replies c.args.turn }) (λ m. refl) (λ m. refl) (kept_at self.numbers c.args.number)) self.opening;
    })

pub returns-clause-reply : goal.returns-clause-reply
unfolding view
returns-clause-reply c =
    let self = c.args.self.now in
    c.take_reply.ensures.reply ∙ ap (given_by self.is_closed) (slot-seen self.numbers self.is_closed self.units.items c.args.number c.args.turn)

pub returns-clause-after : goal.returns-clause-after
unfolding view
returns-clause-after c =
    let self = c.args.self.now in
    ap (λ es. seen es self.is_closed self.units.items) c.take_reply.ensures.after
    ∙ seen-taken self.numbers self.is_closed self.units.items c.args.number c.args.turn self.numbers_ascend
