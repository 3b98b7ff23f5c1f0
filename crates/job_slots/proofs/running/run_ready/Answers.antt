use Rattle.std.proofs.Common.{◌≡◌, [], ◌∷◌, sym, ap, ◌∙◌, subst, rules}
use Rattle.std.specs.Prelude.{Some}
use Rattle.job_slots.specs.Looks.{view_shut}
use Rattle.job_slots.proofs.Lists.{holding, same_held}
use Rattle.job_slots.proofs.Steps.{claims, shuts}
use Rattle.job_slots.proofs.running.run_ready.Goals as goal

pub compare_exchange-requires : goal.compare_exchange-requires
compare_exchange-requires g c = let me = c.args.seat.now.me in
    (search rules, search rules, claims g.J.Turns.turned _ _ c.args.slot me.0 me (holding me [] c.requires.idle.1) c.requires.idle.0)

pub exchange-requires-clause-held : goal.exchange-requires-clause-held
exchange-requires-clause-held g c = let told = c.compare_exchange.ensures.2.0 c.if-compare_exchange-ne-READY.false in (Some told.0, ap (λ m. m.1) told.1)

pub store-requires : goal.store-requires
store-requires g c = let slot = c.args.slot in let told = c.compare_exchange.ensures.2.0 c.if-compare_exchange-ne-READY.false in
    let after = c.turn.new.self in
    let is = c.exchange-nothing.ensures.seat.1 ∙ ap (λ v. (v, (slot, Some after) ∷ [])) (ap (λ m. m.0) c.exchange.ensures.seat.1 ∙ ap (λ m. m.0) told.1) in
    let taken = same_held c.compare_exchange.new.seat.me.1 slot (Some told.0) c.exchange.result (ap (λ m. m.1) told.1) c.exchange.ensures.old in
    let same : c.unwrap-job.result ≡ told.0 = (let e = sym c.unwrap-job.ensures ∙ sym taken in cc) in
    (search rules, search rules, shuts g.J.Turns.turned _ _ slot (view_shut c.args.seat.now.me.0) told.0 after c.exchange-nothing.new.seat.me is (subst (λ job. g.J.Turns.turned job after) same c.turn.ensures))
