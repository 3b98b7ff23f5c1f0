use Rattle.across_wings.proofs.LinesRead.{reads-items, reads-all}
use Rattle.across_wings.proofs.served_lines.a_connection_reads_the_lines_that_were_served.Goals as goal

pub returns-clause-reads : goal.returns-clause-reads
returns-clause-reads c = λ connection history told items stands fed. reads-items c.contents_only_grow.ensures connection history told items stands fed

pub returns-clause-all : goal.returns-clause-all
returns-clause-all c = λ connection history told items fed stands whole none. reads-all c.contents_only_grow.ensures connection history told items stands fed whole none
