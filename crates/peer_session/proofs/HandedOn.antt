-- What was handed on, through one call after another.
use Rattle.std.proofs.Common.{◌≡◌, ℕ, List, Option, Result, Ok, Err, OnOk, inl, inr, sym, subst, ◌∙◌}
use Rattle.std.specs.Prelude.{IfErr}
use Rattle.lsp_frames.specs.Devices.{HandsOnAll}
use Rattle.peer_session.specs.HandedOn.{HasHandedOn, HandsOn, HandsOnUntil}
use Rattle.peer_session.specs.declared.drain_fault.DrainFault.{DrainFault}
use Rattle.peer_session.specs.declared.drain_fault.DrainFault.TheVariants.{Memory, Write}

module _ {S : Type 0} (handed taken : S → Option (List ℕ)) where
  -- one call, and then another
  pub handed-then : (first between after : S) → HasHandedOn handed taken first between → HasHandedOn handed taken between after → HasHandedOn handed taken first after
  handed-then first between after had (inr all) = inr all
  handed-then first between after (inl same) (inl none) = inl (none ∙ same)
  handed-then first between after (inr all) (inl none) = inr (subst (λ s. HandsOnAll (handed s) (taken s)) (sym none) all)

  pub until-then : (first between after : S) (fault : DrainFault) → HasHandedOn handed taken first between → HandsOnUntil handed taken between fault after
      → HandsOnUntil handed taken first fault after
  until-then first between after Memory had hands = handed-then first between after had hands
  until-then first between after Write had hands = tt

  pub hands-then : {T : Type 0} (first between after : S) (r : Result T DrainFault) → HasHandedOn handed taken first between → HandsOn handed taken between r after
      → HandsOn handed taken first r after
  hands-then first between after (Ok done) had hands = handed-then first between after had hands
  hands-then first between after (Err fault) had hands = until-then first between after fault had hands

  -- an error that is handed on
  pub hands-error : {T : Type 0} (before after : S) (r : Result T DrainFault) (fault : DrainFault) → r ≡ Err fault → HandsOnUntil handed taken before fault after
      → HandsOn handed taken before r after
  hands-error before after r fault is hands = subst (λ x. HandsOn handed taken before x after) (sym is) hands

  -- what it says of either answer
  pub hands-ok : {T : Type 0} (before after : S) (r : Result T DrainFault) → HandsOn handed taken before r after → OnOk r (HasHandedOn handed taken before after)
  hands-ok before after (Ok done) hands = hands
  hands-ok before after (Err fault) hands = tt

  pub hands-err : {T : Type 0} (before after : S) (r : Result T DrainFault) → HandsOn handed taken before r after
      → IfErr r (λ fault. HandsOnUntil handed taken before fault after)
  hands-err before after (Ok done) hands = tt
  hands-err before after (Err fault) hands = hands
