use Rattle.content_streams.proofs.Laws as laws
use Rattle.content_streams.proofs.law.faults_stay.Goals as goal

pub returns-clause-end : goal.returns-clause-end
returns-clause-end c = laws.end_stays

pub returns-clause-contents : goal.returns-clause-contents
returns-clause-contents c = laws.contents_stay
