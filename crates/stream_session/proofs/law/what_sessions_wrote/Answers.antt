-- What stands is an output so far, and one in the end.
use Rattle.stream_framing.specs.declared.framing.Framing.TheVariants.{Frames}
use Rattle.stream_session.proofs.Written.{partial, begins-to-drain, done, whole}
use Rattle.stream_session.proofs.law.what_sessions_wrote.Goals as goal

pub returns-clause-partial : goal.returns-clause-partial
returns-clause-partial c = λ table limits units later items s jobs had becomes. partial c.known.ensures table limits units items s jobs had later becomes

pub returns-clause-begun : goal.returns-clause-begun
returns-clause-begun c = λ table limits units later items s after jobs before at sink had wrote some becomes.
    begins-to-drain c.known.ensures table limits units items s jobs had Frames before at sink wrote after later some becomes

pub returns-clause-done : goal.returns-clause-done
returns-clause-done c = λ table s jobs had none_ready none_out over unbroken. done c.known.ensures table s jobs had none_ready none_out over unbroken

pub returns-clause-whole : goal.returns-clause-whole
returns-clause-whole c = λ table limits units items s jobs had is_done. whole c.known.ensures table limits units items s jobs had is_done
