-- What a clerk tells of what it takes in: a job that came home, or an arrival.
use Rattle.std.proofs.Common.{◌≡◌, ◌<◌, [], ◌∷◌, ◌++◌, Bool, true, false, inl, inr, sym, ap, subst, ◌∙◌}
use Rattle.rtrb.specs.Ring.{received}
use Rattle.job_slots.specs.Seats.{looks_of}
use Rattle.rpc_peer.specs.Moves.{BringsSomeHome, Settles, TakesInOrWaits, free_count}
use Rattle.rpc_peer.specs.declared.clerk.Clerk.{Clerk}

-- from the clerk as it was, by one that has looked for jobs and one that has looked for arrivals, to one that has drained
module _ {G K : Type 0} (before home taken after : Clerk G K) (kept : looks_of taken.seat ≡ looks_of home.seat) (stays : looks_of after.seat ≡ looks_of taken.seat) where
  pub settles-home : (came : Bool) → came ≡ true → BringsSomeHome (looks_of before.seat) came (looks_of home.seat) → Settles before came after
  settles-home true is more = inl (subst (λ looks. free_count (looks_of before.seat) < free_count looks) (sym (stays ∙ kept)) more)
  settles-home false is none = absurd (cc)

  pub settles-in : (came : Bool) → looks_of home.seat ≡ looks_of before.seat → received home.ring ≡ received before.ring → TakesInOrWaits home came taken
      → received after.ring ≡ received taken.ring → Settles before came after
  settles-in true none same takes ring = inr (takes.1.0, ring ∙ takes.1.1 ∙ ap (λ arrived. arrived ++ takes.1.0 ∷ []) same)
  settles-in false none same takes ring = (stays ∙ kept ∙ none, ring ∙ takes.0 ∙ same)
