use Rattle.content_streams.proofs.Laws as laws
use Rattle.content_streams.proofs.law.cuts_do_not_matter.Goals as goal

pub returns-clause-contents : goal.returns-clause-contents
returns-clause-contents c = laws.cuts_leave_contents

pub returns-clause-end : goal.returns-clause-end
returns-clause-end c = laws.cuts_leave_end
