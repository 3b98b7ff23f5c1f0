use Rattle.stream_framing.proofs.Wholes.{nothing-left}
use Rattle.stream_framing.proofs.law.closed_lines_are_whole.Goals as goal

pub returns : goal.returns
returns c = λ limit bytes frames rest holds. nothing-left limit bytes frames rest holds
