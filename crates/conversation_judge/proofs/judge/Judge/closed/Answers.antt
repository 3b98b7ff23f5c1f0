use Rattle.std.proofs.Common.{◌≡◌, ◌++◌, ◌∷◌, [], sym, subst}
use Rattle.std.proofs.lemmas.Result.{on_ok_weaker}
use Rattle.conversation_judge.specs.Judged.{Stands, with_seen}
use Rattle.conversation_judge.proofs.Standing.{stands_seen}
use Rattle.conversation_rules.specs.Judging as judging
use Rattle.conversation_rules.specs.Judging.{Seen, Wrote}
use Rattle.conversation_judge.proofs.judge.Judge.closed.Goals as goal

pub returns-clause-stands : goal.returns-clause-stands
returns-clause-stands c = λ protocol framing limits seen told stands.
    let one : Seen = judging.Closed c.args.side in
    on_ok_weaker c.see_end.result (λ (same : c.see_end.new.self ≡ with_seen one c.args.self.now). subst (λ judged. Stands protocol framing limits judged (seen ++ one ∷ []) told) (sym same) (stands_seen protocol framing limits c.args.self.now seen told one stands)) c.see_end.ensures.ok
