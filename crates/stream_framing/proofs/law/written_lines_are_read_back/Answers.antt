use Rattle.stream_framing.proofs.Wholes.{read-back}
use Rattle.stream_framing.proofs.law.written_lines_are_read_back.Goals as goal

pub returns : goal.returns
returns c = λ limit texts lines. read-back limit texts lines
