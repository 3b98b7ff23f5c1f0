-- What is seen later takes no finding back.
use Rattle.std.proofs.Common.{◌≡◌, List, [], ◌∷◌, ◌++◌, refl, sym, ap, ◌∙◌, append_assoc}
use Rattle.conversation_rules.specs.Judging.{Seen, State, step, step_findings, findings_from, state_from}
use Rattle.conversation_rules.specs.declared.protocol.Protocol.{Protocol}

pub findings_from-append : (protocol : Protocol) (state : State) (seen more : List Seen) →
    findings_from protocol state (seen ++ more) ≡ findings_from protocol state seen ++ findings_from protocol (state_from protocol state seen) more
findings_from-append protocol state [] more = refl
findings_from-append protocol state (one ∷ seen) more =
    let first = step_findings protocol one state in
    let others = findings_from protocol (step protocol one state) seen in
    ap (λ found. first ++ found) (findings_from-append protocol (step protocol one state) seen more) ∙ sym (append_assoc first others (findings_from protocol (state_from protocol (step protocol one state) seen) more))

pub state_from-append : (protocol : Protocol) (state : State) (seen more : List Seen) → state_from protocol state (seen ++ more) ≡ state_from protocol (state_from protocol state seen) more
state_from-append protocol state [] more = refl
state_from-append protocol state (one ∷ seen) more = state_from-append protocol (step protocol one state) seen more
