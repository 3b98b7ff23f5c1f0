use Rattle.std.proofs.Common.{[], ◌∷◌, refl, ap, ◌∙◌, rules}
use Rattle.std.specs.Prelude.{Some}
use Rattle.job_slots.specs.declared.view.Look.TheVariants.{Filling, In}
use Rattle.job_slots.specs.declared.view.View.TheVariants.{Clerk}
use Rattle.job_slots.specs.Looks.{view_looks, view_live, with_look}
use Rattle.job_slots.proofs.Lists.{get_set, set_twice, holding}
use Rattle.job_slots.proofs.Steps.{reserves, opens}
use Rattle.job_slots.proofs.offering.fill.Goals as goal

pub store-requires : goal.store-requires
store-requires g c = let me = c.args.seat.now.me in
    (search rules, search rules, reserves g.J.Turns.turned _ _ c.args.slot me.0 me (holding me [] c.requires.clerk.1) c.requires.clerk.0 c.requires.free)

pub store-requires-2 : goal.store-requires-2
store-requires-2 g c = let v = c.args.seat.now.me.0 in let slot = c.args.slot in
    let is = c.exchange-nothing.ensures.seat.1 ∙ ap (λ m. (m.0, (slot, Some c.args.job) ∷ [])) c.store.ensures.2 in
    (search rules, search rules, opens g.J.Turns.turned _ _ slot (with_look v slot Filling) c.args.job c.exchange-nothing.new.seat.me is refl (get_set (view_looks v) slot _ Filling c.requires.free))

pub returns-clause-filled : goal.returns-clause-filled
returns-clause-filled g c = let v = c.args.seat.now.me.0 in let slot = c.args.slot in let job = c.args.job in
    let is = c.exchange-nothing.ensures.seat.1 ∙ ap (λ m. (m.0, (slot, Some job) ∷ [])) c.store.ensures.2 in
    let told = c.store-2.ensures.2 job (ap (λ m. m.1) is) in
    told ∙ ap (λ m. (with_look m.0 slot (In job), [])) is ∙ ap (λ looks. (Clerk looks (view_live v), [])) (set_twice (view_looks v) slot Filling (In job))
