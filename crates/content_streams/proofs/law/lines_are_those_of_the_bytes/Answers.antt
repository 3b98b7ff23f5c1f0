use Rattle.content_streams.proofs.Laws as laws
use Rattle.content_streams.proofs.law.lines_are_those_of_the_bytes.Goals as goal

pub returns-clause-lines : goal.returns-clause-lines
returns-clause-lines c = laws.lines_join

pub returns-clause-long : goal.returns-clause-long
returns-clause-long c = laws.line_is_long
