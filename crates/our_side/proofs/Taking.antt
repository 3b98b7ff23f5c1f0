-- A connection whose limit of entries is no larger than the judge's takes whatever comes.
use Rattle.std.proofs.Common.{◌≡◌, ◌⊎◌, inl, inr, ℕ, ◌≤◌, nat_lt, Bool, true, false, List, [], ◌∷◌, length, Option, Some, None, refl, arith}
use Rattle.std.proofs.lemmas.Bool.{ltb-true, lt-ltb}
use Rattle.std.specs.Prelude.{IsSomeAnd}
use Rattle.lsp_frames.specs.declared.frame.Frame.{Frame}
use Rattle.connection.specs.Settings.{Chosen}
use Rattle.connection_messages.specs.Reading.{are_too_many}
use Rattle.conversation_reading.specs.Strictly.{reading_of}
use Rattle.conversation_reading.specs.declared.reading.Reading.{Reading}
use Rattle.conversation_reading.specs.declared.reading.Reading.TheVariants.{Foreign, NotText, NotJson, OverLimits, HalfPair, Single, Array}
use Rattle.conversation_reading.specs.declared.reading.TheConstants.{MOST_ENTRIES_IN}
use Rattle.conversation_rules.specs.declared.protocol.Protocol.{Protocol}
use Rattle.our_side.specs.OurSide.{AreItsCancels, IsTaken, AllTaken, TakesAll}

-- an array that the judge doesn't look into has more entries than such a connection takes
too_many : (o : Option ℕ) → IsSomeAnd o (λ most. most ≤ MOST_ENTRIES_IN) → (n : ℕ) → nat_lt MOST_ENTRIES_IN n ≡ true → are_too_many o n ≡ true
too_many None within n over = absurd within
too_many (Some most) within n over = let more = ltb-true MOST_ENTRIES_IN n over in lt-ltb most n (omega (arith, within, more))

module _ (protocol : Protocol) (settings : Chosen) (takes : TakesAll protocol settings) where
  array_taken : (n : ℕ) (b : Bool) → nat_lt MOST_ENTRIES_IN n ≡ b → (are_too_many settings.most_entries n ≡ true) ⊎ (AreItsCancels protocol settings × (nat_lt MOST_ENTRIES_IN n ≡ false))
  array_taken n true over = inl (too_many settings.most_entries takes.0 n over)
  array_taken n false within = inr (takes.1, within)

  taken : (reading : Reading) → IsTaken protocol settings reading
  taken Foreign = tt
  taken NotText = tt
  taken NotJson = tt
  taken OverLimits = tt
  taken HalfPair = tt
  taken (Single entry) = tt
  taken (Array []) = tt
  taken (Array (entry ∷ entries)) = array_taken (length (entry ∷ entries)) (nat_lt MOST_ENTRIES_IN (length (entry ∷ entries))) refl

  pub all_taken : (contents : List (ℕ × Frame)) → AllTaken protocol settings contents
  all_taken [] = tt
  all_taken (placed ∷ contents) = (taken (reading_of placed.1.foreign placed.1.content), all_taken contents)
