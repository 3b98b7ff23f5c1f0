-- The steps that a list of the document says.
use Rattle.std.specs.Prelude.{List, [], ◌∷◌, unwrap_or, option_and_then}
use Rattle.serde_json.specs.Data.{null}
use Rattle.toml.specs.Data.{Data, table, Items, no_items, item}
use Rattle.method_templates.specs.declared.step.Step.TheVariants as step
use Rattle.method_templates.specs.Shape.{plain}
use Rattle.method_templates.specs.Steps.{Step}
use Rattle.table_reading.specs.Fields.{kind_of, step_in}

-- what the item says; where it has a fault, anything
abbrev pub step_from : Data → Step
step_from (table ms) = unwrap_or (option_and_then (λ k. step_in k ms) (kind_of ms)) (step.Answer (plain null))
step_from _ = step.Answer (plain null)

abbrev pub steps_from : Items → List Step
steps_from no_items = []
steps_from (item d ds) = step_from d ∷ steps_from ds
