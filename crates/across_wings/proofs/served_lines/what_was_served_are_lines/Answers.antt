use Rattle.across_wings.proofs.LinesRead.{are-lines}
use Rattle.across_wings.proofs.served_lines.what_was_served_are_lines.Goals as goal

pub returns-clause-bytes : goal.returns-clause-bytes
returns-clause-bytes g c = λ table limits source bytes report served. served.run.written

pub returns-clause-lines : goal.returns-clause-lines
returns-clause-lines g c = λ table limits source bytes report served. are-lines table _ served.run.items served.run.allowed
