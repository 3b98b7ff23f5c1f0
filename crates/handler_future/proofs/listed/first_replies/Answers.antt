use Rattle.std.proofs.Common.{arith, ⊎_elim}
use Rattle.std.proofs.lemmas.Bool.{cases_eq}
use Rattle.std.proofs.lemmas.Grind.{common_steps}
use Rattle.handler_future.proofs.Heard.{push_found, push_same, push_other}
use Rattle.handler_future.proofs.listed.first_replies.Goals as goal

pub loop-turn-preserved-then-contains_key : goal.loop-turn-preserved-then-contains_key
loop-turn-preserved-then-contains_key c =
    λ t. ⊎_elim (λ e. grind (arith, common_steps, push_found, c.loop-turn.invariant t)) (λ ne. grind (arith, common_steps, push_other, c.loop-turn.invariant t)) (cases_eq c.in-Some.turn t)

pub loop-turn-preserved : goal.loop-turn-preserved
loop-turn-preserved c =
    λ t. ⊎_elim (λ e. grind (arith, common_steps, push_same, c.loop-turn.invariant t)) (λ ne. grind (arith, common_steps, push_other, c.loop-turn.invariant t)) (cases_eq c.in-Some.turn t)
