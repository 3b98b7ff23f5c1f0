use Rattle.std.proofs.Common.{sym, subst}
use Rattle.std.specs.List.{slice_get}
use Rattle.std.specs.Option.{IsSome}
use Rattle.ghost_log.specs.declared.ghost_log.GhostLog.{GhostLog}
use Rattle.content_streams.specs.Streams.{Stream, next_content}
use Rattle.content_streams.specs.Inner.Cutters.{IsHeld, read_by}
use Rattle.content_streams.proofs.Keeping.{popped}
use Rattle.content_streams.proofs.KeepingPlaces.{placed_popped}
use Rattle.content_streams.proofs.content_stream.ContentStream.pop.Goals as goal

pub invariant_of-self : goal.invariant_of-self
invariant_of-self c =
    let there : IsSome (slice_get (read_by c.self.inside.cutter c.self.inside.log.texts c.self.inside.ended) c.self.inside.log.taken) = subst (λ (s : Stream). IsSome (next_content s)) (sym c.self.view_is) c.requires in
    let stream = popped c.self.inside.cutter c.self.inside.row c.pop.new.self c.self.inside.log.texts c.self.inside.ended c.self.inside.log.taken c.self.invariant.stream there c.pop.ensures.items c.pop.ensures.last in
    let placed = placed_popped c.self.inside.cutter c.self.inside.places c.pop-2.new.self c.self.inside.log.texts c.self.inside.ended c.self.inside.log.taken c.self.invariant.placed there c.pop-2.ensures.items c.pop-2.ensures.last in
    let P : GhostLog → Type 0 = λ log. IsHeld c.self.inside.cutter c.pop.new.self c.pop-2.new.self log.texts c.self.inside.ended log.taken in
    subst P (sym c.with_taken-self-inside.ensures) (record { stream = stream; placed = placed })
