use Rattle.std.proofs.Common.{◌≡◌, ℕ, List, take, map}
use Rattle.std.specs.BTreeMap.{get_by_text}
use Rattle.method_steps.specs.Inner.Methods.{named_steps}
use Rattle.method_steps.specs.Steps.{place_of}
use Rattle.method_steps.proofs.methods.places_of.Given as goal

-- the map finds the places of the methods so far
abbrev pub invariant-loop-place : goal.invariant-loop-place
invariant-loop-place l = (name : List ℕ) → get_by_text l.places name ≡ place_of name (map named_steps (take l.place l.methods))
