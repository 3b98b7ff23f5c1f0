use Rattle.content_streams.proofs.GreaterLimits.{same_read}
use Rattle.content_streams.proofs.law.greater_limits_read_the_same.Goals as goal

pub returns-clause-contents : goal.returns-clause-contents
returns-clause-contents c = λ framing limit greater pieces ended more small. (same_read framing limit greater pieces ended c.a_greater_limit_reads_the_same.ensures more small).contents

pub returns-clause-end : goal.returns-clause-end
returns-clause-end c = λ framing limit greater pieces ended more small. (same_read framing limit greater pieces ended c.a_greater_limit_reads_the_same.ensures more small).end
