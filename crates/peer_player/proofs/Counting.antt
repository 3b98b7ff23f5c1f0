-- How often the sink has failed, through one call after another.
use Rattle.std.proofs.Common.{◌≡◌, ℕ, ◌+◌, ◌-◌, ◌^◌, min, Bool, Result, Ok, Err, OnOk, sym, ap, ◌∙◌, subst}
use Rattle.std.specs.Prelude.{if◌then◌else◌}
use Rattle.peer_session.specs.Events.{CountsDrain}
use Rattle.peer_session.specs.SessionState.{SessionState}
use Rattle.peer_session.specs.declared.drain_fault.DrainFault.{DrainFault}
use Rattle.peer_session.specs.declared.drain_fault.DrainFault.TheVariants.{Memory, Write}

-- one call that ended well, and then another
pub counts-then : {T : Type 0} (s between : SessionState) (before at after : ℕ) (r : Result T DrainFault)
    → between.is_broken ≡ s.is_broken → at ≡ before → CountsDrain between at r after → CountsDrain s before r after
counts-then s between before at after (Ok done) same kept counts = counts ∙ kept
counts-then s between before at after (Err Memory) same kept counts = counts ∙ kept
counts-then s between before at after (Err Write) same kept counts =
    counts ∙ ap (λ (b : Bool). if b then at else min (at + 1) (2 ^ 64 - 1)) same
    ∙ ap (λ n. if s.is_broken then n else min (n + 1) (2 ^ 64 - 1)) kept

pub same-then : {T : Type 0} (s between after : SessionState) (r : Result T DrainFault) → between.is_broken ≡ s.is_broken
    → OnOk r (after.is_broken ≡ between.is_broken) → OnOk r (after.is_broken ≡ s.is_broken)
same-then s between after (Ok done) same now = now ∙ same
same-then s between after (Err fault) same now = tt

-- an error that is handed on
pub counts-error : {T : Type 0} (s : SessionState) (before after : ℕ) (r : Result T DrainFault) (fault : DrainFault)
    → r ≡ Err fault → CountsDrain {T = Unit {0}} s before (Err fault) after → CountsDrain s before r after
counts-error s before after r Memory is counts = subst (λ x. CountsDrain s before x after) (sym is) counts
counts-error s before after r Write is counts = subst (λ x. CountsDrain s before x after) (sym is) counts
