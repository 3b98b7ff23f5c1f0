use Rattle.std.proofs.Common.{◌≡◌, length}
use Rattle.lsp_frames.specs.Fields.{after_word}
use Rattle.lsp_frames.proofs.charset.after_word.Given as goal

abbrev pub invariant-loop-bytes : goal.invariant-loop-bytes
invariant-loop-bytes l = after_word l.word l.bytes ≡ after_word l.word l.fn.bytes

abbrev pub decreases-loop-bytes : goal.decreases-loop-bytes
decreases-loop-bytes l = length l.bytes
