-- The same of the bytes that have these units.
use Rattle.stream_session.proofs.Shorts.{nothing-short, short, whole-run}
use Rattle.stream_session.proofs.Streams.{same-jobs}
use Rattle.stream_session.proofs.law.what_a_stream_wrote.Goals as goal

pub returns-clause-short : goal.returns-clause-short
returns-clause-short c = λ fed jobs s sink had. short c.known.ensures fed jobs s sink had

pub returns-clause-whole : goal.returns-clause-whole
returns-clause-whole c = λ fed jobs s sink had is_done. whole-run c.known.ensures fed jobs s sink had is_done

pub returns-clause-jobs : goal.returns-clause-jobs
returns-clause-jobs c = λ fed jobs others s sink had same. same-jobs c.known.ensures fed jobs s sink had others same

pub returns-clause-nothing : goal.returns-clause-nothing
returns-clause-nothing c = λ framing table limits text before. nothing-short c.known.ensures framing table limits text before
