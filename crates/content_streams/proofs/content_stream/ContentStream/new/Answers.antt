use Rattle.std.proofs.Common.{ap}
use Rattle.ghost_log.specs.declared.ghost_log.GhostLog.{GhostLog}
use Rattle.content_streams.proofs.Keeping.{starts}
use Rattle.content_streams.proofs.KeepingPlaces.{placed_starts}
use Rattle.content_streams.proofs.content_stream.ContentStream.new.Goals as goal

pub invariant_of-result : goal.invariant_of-result
invariant_of-result c = record {
  stream = starts c.new.result c.new-2.result c.new-4.result.texts c.new-4.result.taken c.new.ensures.stands c.new-2.ensures.items c.new-2.ensures.last (ap (λ (log : GhostLog). log.texts) c.new-4.ensures) (ap (λ (log : GhostLog). log.taken) c.new-4.ensures);
  placed = placed_starts c.new.result c.new-3.result c.new-4.result.texts c.new-4.result.taken c.new-3.ensures.items c.new-3.ensures.last (ap (λ (log : GhostLog). log.texts) c.new-4.ensures) (ap (λ (log : GhostLog). log.taken) c.new-4.ensures);
}
