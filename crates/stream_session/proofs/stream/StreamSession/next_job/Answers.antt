-- A job that goes out is one more event of the session.
use Rattle.peer_session.specs.Session.{view}
use Rattle.stream_session.specs.Stream.{stream_of}
use Rattle.stream_session.proofs.Streams.{job-given}
use Rattle.stream_session.proofs.stream.StreamSession.next_job.Goals as goal

pub returns-clause-out : goal.returns-clause-out
returns-clause-out c = λ fed jobs sink had.
    job-given c.known.ensures fed jobs (stream_of c.args.self.now) sink had c.args.pick c.next_job.result (view c.next_job.new.self)
    c.next_job.ensures.leaves c.next_job.ensures.number
