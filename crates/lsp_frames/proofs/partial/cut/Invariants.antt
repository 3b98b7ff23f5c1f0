use Rattle.std.proofs.Common.{[]}
use Rattle.lsp_frames.specs.Inner.Partials.{IsCutSoFar, IsUnderWay, measure, read_at, read_on}
use Rattle.lsp_frames.proofs.partial.cut.Given as goal

abbrev pub invariant-loop-front : goal.invariant-loop-front
invariant-loop-front g l = record {
  under_way : IsUnderWay l.stage [];
  so_far : IsCutSoFar l.limit (g.G.Gathering.gathered l.fn.frames) (g.G.Gathering.gathered l.frames) (read_on l.limit (read_at l.fn.first []) l.bytes) (read_on l.limit (read_at l.stage []) l.rest);
}

abbrev pub decreases-loop-front : goal.decreases-loop-front
decreases-loop-front g l = measure l.stage l.rest
