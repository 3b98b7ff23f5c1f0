use Rattle.std.proofs.Common.{◌≡◌, length}
use Rattle.lsp_frames.specs.Fields.{without_trailing_blanks}
use Rattle.lsp_frames.proofs.field.without_trailing_blanks.Given as goal

abbrev pub invariant-loop-bytes : goal.invariant-loop-bytes
invariant-loop-bytes l = without_trailing_blanks l.bytes ≡ without_trailing_blanks l.fn.bytes

abbrev pub decreases-loop-bytes : goal.decreases-loop-bytes
decreases-loop-bytes l = length l.bytes
