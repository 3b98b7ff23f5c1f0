use Rattle.lsp_frames.proofs.ShortLengths.{decimal_two}
use Rattle.lsp_frames.proofs.writing.head_of_two.Goals as goal

pub returns : goal.returns
returns c = rw (decimal_two c.args.length c.requires.0 c.requires.1)
