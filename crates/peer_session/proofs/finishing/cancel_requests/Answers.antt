use Rattle.std.proofs.Common.{◌≡◌, ap, sym, subst, ◌∙◌}
use Rattle.peer_events.specs.Finishing.{Reaches, told, lowest, none_left}
use Rattle.peer_session.specs.Inner.Turns.{told_here}
use Rattle.peer_session.proofs.Finished.{fewer-in_reach}
use Rattle.peer_session.proofs.finishing.cancel_requests.Goals as goal

pub loop-reached-smaller : goal.loop-reached-smaller
loop-reached-smaller c =
    let runs = c.loop-reached.runs in
    let n = c.in-Some.reached in
    let made : c.tell.new.runs ≡ told runs n = c.tell.ensures ∙ ap (λ s. told_here s n) c.in-Some.ensures.after in
    rw made (fewer-in_reach c.args.id.now runs n c.in-Some.ensures.lowest.1)

pub loop-reached-preserved : goal.loop-reached-preserved
loop-reached-preserved c =
    let runs = c.loop-reached.runs in
    let n = c.in-Some.reached in
    let made : c.tell.new.runs ≡ told runs n = c.tell.ensures ∙ ap (λ s. told_here s n) c.in-Some.ensures.after in
    λ after rest. c.loop-reached.invariant after (lowest c.in-Some.ensures.lowest (subst (λ s. Reaches c.args.id.now c.args.number s after) made rest))

pub returns : goal.returns
returns c =
    let none : Reaches c.args.id.now c.args.number c.loop-reached.runs c.loop-reached.runs = none_left c.in_default.ensures.lowest in
    let same : c.reach.new.self ≡ c.loop-reached.runs = c.in_default.ensures.after in
    c.loop-reached.invariant c.reach.new.self (subst (λ s. Reaches c.args.id.now c.args.number c.loop-reached.runs s) (sym same) none)
