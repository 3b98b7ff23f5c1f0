use Rattle.std.proofs.Common.{refl, ap, ◌∙◌}
use Rattle.open_numbers.specs.declared.open_call.OpenCall.{OpenCall}
use Rattle.answer_desk.specs.Desk.{view}
use Rattle.open_numbers.specs.Kept.{kept_at, slots_with, with_put}
use Rattle.open_numbers.specs.Replies.{put_into}
use Rattle.answer_desk.proofs.Views.{seen, slot-seen, IsQuiet-changed, ascending-quiet, finished-quiet, seen-put}
use Rattle.open_numbers.proofs.OutOfReach.{opening-set, IsOutOfReach-changed}
use Rattle.answer_desk.proofs.desk.Desk.put_reply.Goals as goal

pub returns-then-self-clause-put : goal.returns-then-self-clause-put
unfolding view
returns-then-self-clause-put c = rw c.if-self.true refl

pub returns-then-self-clause-after : goal.returns-then-self-clause-after
unfolding view
returns-then-self-clause-after c = rw c.if-self.true refl

pub invariant_of-self : goal.invariant_of-self
invariant_of-self c =
    let self = c.args.self.now in
    let quiet = IsQuiet-changed (λ (m : OpenCall). record m { replies = slots_with m.replies c.args.turn c.args.reply }) (λ m. refl) self.numbers c.args.number in
    rw c.put_reply.ensures.after (record {
      numbers_ascend = ascending-quiet _ self.numbers self.units.items quiet self.numbers_ascend;
      parts_are_finished = finished-quiet _ self.numbers self.units.items self.finished_parts quiet self.numbers_ascend self.parts_are_finished;
      opening = opening-set self.numbers c.args.number (with_put c.args.turn c.args.reply (kept_at self.numbers c.args.number))
          (IsOutOfReach-changed (λ (m : OpenCall). record m { replies = slots_with m.replies c.args.turn c.args.reply }) (λ m. refl) (λ m. refl) (kept_at self.numbers c.args.number)) self.opening;
    })

pub returns-clause-put : goal.returns-clause-put
unfolding view
returns-clause-put c =
    let self = c.args.self.now in
    c.put_reply.ensures.put ∙ rw c.if-self.false (ap put_into (slot-seen self.numbers self.is_closed self.units.items c.args.number c.args.turn))

pub returns-clause-after : goal.returns-clause-after
unfolding view
returns-clause-after c =
    let self = c.args.self.now in
    ap (λ es. seen es self.is_closed self.units.items) c.put_reply.ensures.after
    ∙ rw c.if-self.false (seen-put self.numbers self.units.items c.args.number c.args.turn c.args.reply self.numbers_ascend)
