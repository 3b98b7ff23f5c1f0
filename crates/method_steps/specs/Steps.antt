-- The methods of a table and its opening, each with its steps.
use Rattle.std.specs.Prelude.{ℕ, List, [], ◌∷◌, Option, Some, None, option_map, slice_get, Vec}
use Rattle.std.specs.Arc.{arc_value}
use Rattle.std.specs.declared.alloc.Global.{Global}
use Rattle.std.specs.declared.sync.Arc.{Arc}
use Rattle.std.specs.List.{position_from}
use Rattle.std.specs.Str.{bytes_eq}
use Rattle.method_templates.specs.Steps.{Step, calls_of}

-- the steps that an `Arc` shares
abbrev pub shared_steps : Arc (Vec Step Global) Global → List Step
shared_steps steps = (arc_value steps).items

-- a method's name and its steps in order
pub record NamedSteps : Type 0 where
  pub name : List ℕ
  pub steps : List Step

-- a table: the steps of its opening, and its methods in order
pub record MethodTable : Type 0 where
  pub opening : List Step
  pub methods : List NamedSteps

-- the steps, where there are any
abbrev pub unless_empty : List Step → Option (List Step)
unless_empty [] = None
unless_empty (s ∷ ss) = Some (s ∷ ss)

-- the place of the first method with that name, from 0
abbrev pub place_of : List ℕ → List NamedSteps → Option ℕ
place_of name methods = position_from (λ m. bytes_eq m.name name) 0 methods

-- the steps of the method at a place
abbrev pub steps_at : List NamedSteps → ℕ → Option (List Step)
steps_at methods k = option_map (λ m. m.steps) (slice_get methods k)

-- the calls that the method at a place makes at most; 0 past the last
abbrev pub calls_at : List NamedSteps → ℕ → ℕ
calls_at methods k = calls_of_some (steps_at methods k)
  where
    calls_of_some : Option (List Step) → ℕ
    calls_of_some None = 0
    calls_of_some (Some steps) = calls_of steps
