-- A judge that stands where the definitions are, and one thing more that is seen or told.
use Rattle.std.proofs.Common.{◌≡◌, List, [], ◌∷◌, ◌++◌, refl, sym, ap, ◌∙◌, append_assoc, append-nil}
use Rattle.content_streams.specs.declared.framing.Framing.{Framing}
use Rattle.conversation_judge.specs.Judged.{Judged, Stands, with_seen}
use Rattle.conversation_rules.specs.Judging.{Seen, State, step, step_findings, state_of, findings_from, state_from, new_state}
use Rattle.conversation_rules.specs.declared.finding.Finding.{Finding}
use Rattle.conversation_rules.specs.declared.finding.Limits.{Limits}
use Rattle.conversation_rules.specs.declared.protocol.Protocol.{Protocol}

findings_more : (protocol : Protocol) (state : State) (seen : List Seen) (one : Seen) → findings_from protocol state (seen ++ one ∷ []) ≡ findings_from protocol state seen ++ step_findings protocol one (state_from protocol state seen)
findings_more protocol state [] one = append-nil (step_findings protocol one state)
findings_more protocol state (first ∷ seen) one =
    let found = step_findings protocol first state in
    ap (λ others. found ++ others) (findings_more protocol (step protocol first state) seen one)
    ∙ sym (append_assoc found (findings_from protocol (step protocol first state) seen) (step_findings protocol one (state_from protocol (step protocol first state) seen)))

state_more : (protocol : Protocol) (state : State) (seen : List Seen) (one : Seen) → state_from protocol state (seen ++ one ∷ []) ≡ step protocol one (state_from protocol state seen)
state_more protocol state [] one = refl
state_more protocol state (first ∷ seen) one = state_more protocol (step protocol first state) seen one

pub stands_seen : (protocol : Protocol) (framing : Framing) (limits : Limits) (judged : Judged) (seen : List Seen) (told : List Finding) (one : Seen) →
    Stands protocol framing limits judged seen told → Stands protocol framing limits (with_seen one judged) (seen ++ one ∷ []) told
stands_seen protocol framing limits judged seen told one s = record {
  rules = s.rules;
  state = ap (λ p. step p one judged.state) s.rules ∙ ap (step protocol one) s.state ∙ sym (state_more protocol (new_state framing limits) seen one);
  findings =
      findings_more protocol (new_state framing limits) seen one
      ∙ ap (λ found. found ++ step_findings protocol one (state_of protocol framing limits seen)) s.findings
      ∙ append_assoc told judged.untold (step_findings protocol one (state_of protocol framing limits seen))
      ∙ ap (λ st. told ++ (judged.untold ++ step_findings protocol one st)) (sym s.state)
      ∙ ap (λ p. told ++ (judged.untold ++ step_findings p one judged.state)) (sym s.rules);
}

pub stands_told : (protocol : Protocol) (framing : Framing) (limits : Limits) (judged : Judged) (seen : List Seen) (told next untold : List Finding) →
    judged.untold ≡ next ++ untold → Stands protocol framing limits judged seen told → Stands protocol framing limits (record judged { untold = untold }) seen (told ++ next)
stands_told protocol framing limits judged seen told next untold is s = record {
  rules = s.rules;
  state = s.state;
  findings = s.findings ∙ ap (λ found. told ++ found) is ∙ sym (append_assoc told next untold);
}
