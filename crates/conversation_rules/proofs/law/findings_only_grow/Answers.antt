use Rattle.conversation_rules.specs.Judging.{new_state}
use Rattle.conversation_rules.proofs.Growing.{findings_from-append}
use Rattle.conversation_rules.proofs.law.findings_only_grow.Goals as goal

pub returns : goal.returns
returns c = λ protocol framing limits seen more. findings_from-append protocol (new_state framing limits) seen more
