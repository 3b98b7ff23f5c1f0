-- A judge: what it keeps of what it has seen, and the findings that it hasn't told.
use Rattle.std.specs.Prelude.{◌≡◌, ◌++◌, List, [], Bool, false}
use Rattle.content_streams.specs.declared.framing.Framing.{Framing}
use Rattle.conversation_rules.specs.Judging.{Seen, State, new_state, step, step_findings, state_of, findings_of}
use Rattle.conversation_rules.specs.declared.finding.Finding.{Finding}
use Rattle.conversation_rules.specs.declared.finding.Limits.{Limits}
use Rattle.conversation_rules.specs.declared.protocol.Protocol.{Protocol}

pub record Judged : Type 0 where
  pub protocol : Protocol
  pub state : State
  -- the findings that weren't told, the first one first
  pub untold : List Finding
  -- whether it ran out of memory: it sees nothing more
  pub is_stopped : Bool

abbrev pub new_judge : Protocol → Framing → Limits → Judged
new_judge protocol framing limits = record { protocol = protocol; state = new_state framing limits; untold = []; is_stopped = false }

-- one thing more was seen
abbrev pub with_seen : Seen → Judged → Judged
with_seen seen judged = record { protocol = judged.protocol; state = step judged.protocol seen judged.state; untold = judged.untold ++ step_findings judged.protocol seen judged.state; is_stopped = false }

-- The judge of these rules that has seen this, and has told these findings: they, and then those that aren't told yet, are
-- the findings of what was seen.
pub record Stands (protocol : Protocol) (framing : Framing) (limits : Limits) (judged : Judged) (seen : List Seen) (told : List Finding) : Type 0 where
  pub rules : judged.protocol ≡ protocol
  pub state : judged.state ≡ state_of protocol framing limits seen
  pub findings : findings_of protocol framing limits seen ≡ told ++ judged.untold
