use Rattle.std.proofs.Common.{◌≤◌, length}
use Rattle.lsp_frames.specs.Heads.{head_at}
use Rattle.lsp_frames.specs.Inner.Partials.{IsCutSoFar}
use Rattle.lsp_frames.proofs.partial.cut_usual.Given as goal

abbrev pub invariant-loop-content : goal.invariant-loop-content
invariant-loop-content g l = record {
  behind : length l.rest ≤ length l.bytes;
  so_far : IsCutSoFar l.limit (g.G.Gathering.gathered l.fn.frames) (g.G.Gathering.gathered l.frames) (head_at l.limit l.bytes) (head_at l.limit l.rest);
}

abbrev pub decreases-loop-content : goal.decreases-loop-content
decreases-loop-content g l = length l.rest
