-- Worked rows of broken input.
use Rattle.std.proofs.Common.{◌≡◌, ℕ, [], ◌∷◌, codes, Some, refl}
use Rattle.connection_messages.specs.declared.entry.Entry.TheVariants.{Invalid, Stray}
use Rattle.connection_messages.specs.declared.unit.Unit.{Unit}
use Rattle.connection_messages.specs.declared.unit.Unit.TheVariants as units
use Rattle.connection_history.specs.declared.broken.Defect.{Defect}
use Rattle.connection_history.specs.declared.broken.Defect.TheVariants.{Unreadable, Invalid as WithInvalid}
use Rattle.connection_history.specs.declared.event.Event.{Event}
use Rattle.connection_history.specs.declared.event.Event.TheVariants as event
use Rattle.connection_history.specs.declared.order.Order.TheVariants.{AsAnswered}
use Rattle.connection_history.specs.History.{Happening, Origin, came}
use Rattle.connection_history.proofs.Rows.Words.{told, written, add, request, one}

-- a content that stands behind so many bytes
abbrev at : ℕ → Unit → Happening
at place u = let origin : Origin = record { place = place; start = codes "[{" } in came (Some origin) u

abbrev broken : ℕ → Defect → Event
broken place defect = event.Broken (record { place = place; start = codes "[{"; defect = defect })

unreadable : told (at 5 units.Unreadable ∷ []) ≡ broken 5 Unreadable ∷ []
unreadable = refl

invalid_alone : told (at 0 (units.Single Invalid) ∷ []) ≡ broken 0 (WithInvalid 0 1) ∷ []
invalid_alone = refl

-- one event for all invalid entries of a batch, in front of its calls
invalid_in_batch : told (at 9 (units.Batch (request 7 ∷ Invalid ∷ Stray ∷ Invalid ∷ [])) ∷ []) ≡ broken 9 (WithInvalid 1 2) ∷ event.Call 1 (add 7) ∷ []
invalid_in_batch = refl

sound : told (at 9 (units.Batch (request 7 ∷ Stray ∷ [])) ∷ []) ≡ event.Call 1 (add 7) ∷ []
sound = refl

-- each content by its own place
two_contents : told (at 0 (units.Single Invalid) ∷ at 12 (units.Single (request 7)) ∷ at 50 units.Unreadable ∷ [])
    ≡ broken 0 (WithInvalid 0 1) ∷ event.Call 1 (add 7) ∷ broken 50 Unreadable ∷ []
two_contents = refl

-- the answers are the same as where it isn't told
answered_all_the_same : written AsAnswered (at 9 (units.Single Invalid) ∷ []) ≡ written AsAnswered (one Invalid ∷ [])
answered_all_the_same = refl
