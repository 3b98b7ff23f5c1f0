-- What a call that writes to a sink has handed on of what the sink took.
use Rattle.std.specs.Prelude.{◌≡◌, ℕ, ◌⊎◌, List, Option, Result, Ok, Err}
use Rattle.lsp_frames.specs.Devices.{HandsOnAll}
use Rattle.peer_session.specs.declared.drain_fault.DrainFault.{DrainFault}
use Rattle.peer_session.specs.declared.drain_fault.DrainFault.TheVariants.{Memory, Write}

module _ {S : Type 0} (handed taken : S → Option (List ℕ)) where
  -- The sink is the one that it was, or has handed on all that it has taken.
  abbrev pub HasHandedOn : S → S → Type 0
  HasHandedOn before after = (after ≡ before) ⊎ HandsOnAll (handed after) (taken after)

  -- So it is behind a fault, unless a write has failed.
  abbrev pub HandsOnUntil : S → DrainFault → S → Type 0
  HandsOnUntil before Memory after = HasHandedOn before after
  HandsOnUntil before Write after = Unit {0}

  -- So it is behind a call, unless a write has failed.
  abbrev pub HandsOn : {T : Type 0} → S → Result T DrainFault → S → Type 0
  HandsOn before (Ok done) after = HasHandedOn before after
  HandsOn before (Err fault) after = HandsOnUntil before fault after
