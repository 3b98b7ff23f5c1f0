use Rattle.std.proofs.Common.{subst}
use Rattle.outbox.specs.Inner.{IsKept}
use Rattle.outbox.proofs.Left.{bytes_fit, kept_back, seen_since}
use Rattle.outbox.proofs.outbox.Outbox.back_to.Goals as goal

pub truncate-requires : goal.truncate-requires
truncate-requires c =
    let mark = c.mark.inside in
    let now = c.self.inside in
    let since = seen_since _ _ _ _ c.mark.view_is c.self.view_is c.requires in
    bytes_fit mark.framing mark.log.texts now.log.texts mark.log.taken mark.byte_count now.bytes now.texts.items mark.text_count
    since.written c.mark.invariant
    (subst (λ f. IsKept f now.log.texts mark.log.taken now.bytes now.texts.items) since.framing
    (subst (λ n. IsKept now.framing now.log.texts n now.bytes now.texts.items) since.taken c.self.invariant))

pub invariant_of-self : goal.invariant_of-self
invariant_of-self c =
    let mark = c.mark.inside in
    let now = c.self.inside in
    let since = seen_since _ _ _ _ c.mark.view_is c.self.view_is c.requires in
    rw (c.truncate.ensures, c.give_room_back.ensures, c.truncate-2.ensures.items, since.framing)
    (kept_back mark.framing mark.log.texts now.log.texts mark.log.taken mark.byte_count mark.text_count now.bytes now.texts.items
    since.written c.mark.invariant
    (subst (λ f. IsKept f now.log.texts mark.log.taken now.bytes now.texts.items) since.framing
    (subst (λ n. IsKept now.framing now.log.texts n now.bytes now.texts.items) since.taken c.self.invariant)))
