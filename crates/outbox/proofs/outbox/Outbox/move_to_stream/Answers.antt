use Rattle.std.proofs.Common.{ap, sym, ◌∙◌}
use Rattle.outbox.specs.Output.{Output}
use Rattle.outbox.proofs.Left.{kept_bytes}
use Rattle.outbox.proofs.outbox.Outbox.move_to_stream.Goals as goal

pub invariant_of-self-2 : goal.invariant_of-self-2
invariant_of-self-2 c =
    let now = c.self.inside in
    rw (c.with_text-log.ensures, c.as_slice.ensures.value, c.in_ok-put_from.ensures.ok)
    (kept_bytes now.framing now.log.texts c.args.room.now.items now.log.taken now.bytes now.texts.items
    (λ is. c.requires (sym (ap (λ (o : Output). o.framing) c.self.view_is) ∙ is)) c.self.invariant)
