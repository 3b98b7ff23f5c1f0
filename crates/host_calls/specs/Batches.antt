-- A batch, whose calls lie one behind the other in the bytes that the host passes.
use Rattle.std.specs.Prelude.{◌≡◌, ◌⊎◌, ℕ, ◌%◌, ◌==◌, ◌&&◌, List, [], ◌∷◌, Bool, length, take, drop, IsUtf8, ⊤}
use Rattle.std.specs.List.{sum}
use Rattle.connection_messages.specs.declared.outgoing.Outgoing.{Outgoing}
use Rattle.host_calls.specs.declared.code.Why.{Why}
use Rattle.host_calls.specs.declared.code.Why.TheVariants.{NotText}
use Rattle.host_calls.specs.Passed.{IsMemory, IsOutgoing, AreNoParams}

-- Two lengths a call, which add up to all bytes.
abbrev pub fit : List ℕ → List ℕ → Bool
fit bytes lengths = (length lengths % 2 == 0) && (sum lengths == length bytes)

-- a method, and params
abbrev pub Part : Type 0
Part = List ℕ × List ℕ

-- the calls' methods and params, cut off the bytes by the lengths
abbrev pub parts : List ℕ → List ℕ → List Part
parts bytes [] = []
parts bytes (m ∷ []) = []
parts bytes (m ∷ p ∷ lengths) = (take m bytes, take p (drop m bytes)) ∷ parts (drop p (drop m bytes)) lengths

-- each method is text
abbrev pub AreTexts : List Part → Type 0
AreTexts [] = ⊤
AreTexts (p ∷ ps) = IsUtf8 p.0 × AreTexts ps

-- these are the calls
abbrev pub AreOutgoings : List Part → List Outgoing → Type 0
AreOutgoings [] [] = ⊤
AreOutgoings [] (o ∷ os) = ⊥
AreOutgoings (p ∷ ps) [] = ⊥
AreOutgoings (p ∷ ps) (o ∷ os) = IsOutgoing p.0 p.1 o × AreOutgoings ps os

-- the params of one of them are none
abbrev pub LacksParams : List Part → Why → Type 0
LacksParams [] why = ⊥
LacksParams (p ∷ ps) why = AreNoParams p.1 why ⊎ LacksParams ps why

-- A method that isn't text comes first, whichever call has it.
abbrev pub AreNoOutgoings : List Part → Why → Type 0
AreNoOutgoings ps why = IsMemory why ⊎ ((why ≡ NotText) × ¬ (AreTexts ps)) ⊎ (AreTexts ps × LacksParams ps why)
