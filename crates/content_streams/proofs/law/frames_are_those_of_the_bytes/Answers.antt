use Rattle.content_streams.proofs.Laws as laws
use Rattle.content_streams.proofs.law.frames_are_those_of_the_bytes.Goals as goal

pub returns-clause-are : goal.returns-clause-are
returns-clause-are c = laws.frames_are

pub returns-clause-closed : goal.returns-clause-closed
returns-clause-closed c = laws.frames_closed

pub returns-clause-read_failed : goal.returns-clause-read_failed
returns-clause-read_failed c = laws.frames_failed
