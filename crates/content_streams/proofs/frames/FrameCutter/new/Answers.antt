use Rattle.std.proofs.Common.{[]}
use Rattle.content_streams.proofs.FrameFeeding.{stands_all, at_first}
use Rattle.content_streams.proofs.frames.FrameCutter.new.Goals as goal

pub returns-clause-stands : goal.returns-clause-stands
returns-clause-stands c = (stands_all c.for_long_contents.result [] [] c.for_long_contents.ensures.start, at_first c.for_long_contents.result.limit c.at.result c.at.ensures)
