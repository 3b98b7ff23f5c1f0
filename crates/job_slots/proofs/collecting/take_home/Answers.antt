use Rattle.std.proofs.Common.{◌≡◌, [], ◌∷◌, refl, ap, ◌∙◌, subst, rules}
use Rattle.std.specs.Prelude.{None, Some, IfSome, OnSome}
use Rattle.job_slots.specs.declared.view.Look.TheVariants.{Free, Seen}
use Rattle.job_slots.specs.declared.view.View.TheVariants.{Clerk}
use Rattle.job_slots.specs.Looks.{view_looks, view_live, with_look, HasTurned}
use Rattle.job_slots.proofs.Lists.{get_set, set_twice, holding, same_held}
use Rattle.job_slots.proofs.Steps.{looks, clears}
use Rattle.job_slots.proofs.collecting.take_home.Goals as goal

pub load-requires : goal.load-requires
load-requires g c = let me = c.args.seat.now.me in
    (search rules, search rules, looks g.J.Turns.turned _ _ c.args.slot me.0 c.requires.in_use.0 me (holding me [] c.requires.clerk.1) c.requires.clerk.0 c.requires.in_use.1)

pub exchange-job-requires-clause-held : goal.exchange-job-requires-clause-held
exchange-job-requires-clause-held g c = let told = c.load.ensures.2.0 c.if-load-ne-DONE.false in (Some told.1, ap (λ m. m.1) told.4)

pub store-requires : goal.store-requires
store-requires g c = let v = c.args.seat.now.me.0 in let slot = c.args.slot in let told = c.load.ensures.2.0 c.if-load-ne-DONE.false in
    let is = c.exchange-job.ensures.seat.1 ∙ ap (λ m. (m.0, (slot, None) ∷ [])) told.4 in
    (search rules, search rules, clears g.J.Turns.turned _ _ slot (with_look v slot (Seen told.0 told.1)) told.0 told.1 c.exchange-job.new.seat.me is refl (get_set (view_looks v) slot _ (Seen told.0 told.1) told.2))

pub returns-clause-turned : goal.returns-clause-turned
returns-clause-turned g c = let slot = c.args.slot in let told = c.load.ensures.2.0 c.if-load-ne-DONE.false in
    let after_is = same_held c.load.new.seat.me.1 slot (Some told.1) c.exchange-job.result (ap (λ m. m.1) told.4) c.exchange-job.ensures.old in
    subst (λ r. IfSome r (HasTurned g.J.Turns.turned (view_looks c.args.seat.now.me.0) slot)) after_is (told.0, told.2, told.3)

pub returns-clause-emptied : goal.returns-clause-emptied
returns-clause-emptied g c = let v = c.args.seat.now.me.0 in let slot = c.args.slot in let told = c.load.ensures.2.0 c.if-load-ne-DONE.false in
    let is = c.exchange-job.ensures.seat.1 ∙ ap (λ m. (m.0, (slot, None) ∷ [])) told.4 in
    let emptied = c.store.ensures.2 ∙ ap (λ m. (with_look m.0 slot Free, [])) is ∙ ap (λ looks. (Clerk looks (view_live v), [])) (set_twice (view_looks v) slot (Seen told.0 told.1) Free) in
    let after_is = same_held c.load.new.seat.me.1 slot (Some told.1) c.exchange-job.result (ap (λ m. m.1) told.4) c.exchange-job.ensures.old in
    subst (λ r. OnSome r (c.store.new.seat.me ≡ (with_look v slot Free, []))) after_is emptied
