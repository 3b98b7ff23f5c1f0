use Rattle.lsp_frames.proofs.ShortLengths.{decimal_three}
use Rattle.lsp_frames.proofs.writing.head_of_three.Goals as goal

pub returns : goal.returns
returns c = rw (decimal_three c.args.length c.requires.0 c.requires.1)
