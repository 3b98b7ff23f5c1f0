-- The registers that a step sets and refers to.
use Rattle.std.specs.Prelude.{ℕ, List, codes, Bool, true, ◌&&◌, ◌||◌, Option}
use Rattle.std.specs.List.{list_all}
use Rattle.std.specs.Option.{option_map_or}
use Rattle.std.specs.Str.{bytes_eq}
use Rattle.toml.specs.Data.{Items}
use Rattle.method_templates.specs.declared.step.ListedCall.{ListedCall}
use Rattle.method_templates.specs.declared.step.Step.TheVariants as step
use Rattle.table_reading.specs.Fields.{one_says}
use Rattle.method_templates.specs.Names.{is_register_name, is_escaped}
use Rattle.method_templates.specs.Shape.{Shape, plain, place, list, members, Shapes, no_shapes, shape, Parts, no_parts, part}
use Rattle.method_templates.specs.Steps.{Step}

-- a template may refer to `params` and to what an earlier step sets
abbrev pub is_known : Items → List ℕ → Bool
is_known earlier name = bytes_eq name (codes "params") || one_says (codes "to") name earlier

-- each place of the template is in a known register, and is a JSON Pointer
abbrev mutual
  pub is_place_known : Items → Shape → Bool
  is_place_known earlier (plain d) = true
  is_place_known earlier (place name path) = is_known earlier name && is_escaped path
  is_place_known earlier (list ts) = are_places_known earlier ts
  is_place_known earlier (members ms) = are_parts_known earlier ms

  pub are_places_known : Items → Shapes → Bool
  are_places_known earlier no_shapes = true
  are_places_known earlier (shape t ts) = is_place_known earlier t && are_places_known earlier ts

  pub are_parts_known : Items → Parts → Bool
  are_parts_known earlier no_parts = true
  are_parts_known earlier (part k t ms) = is_place_known earlier t && are_parts_known earlier ms

abbrev pub are_params_known : Items → Option Shape → Bool
are_params_known earlier params = option_map_or (is_place_known earlier) params true

abbrev pub calls_refer_back : Items → List ListedCall → Bool
calls_refer_back earlier cs = list_all (λ c. are_params_known earlier c.params) cs

-- the step sets a register of a good name, and refers to known ones, given the steps before it
abbrev pub refers_back : Items → Step → Bool
refers_back earlier (step.Set to value) = is_register_name to && is_place_known earlier value
refers_back earlier (step.Add to left right) = is_register_name to && is_place_known earlier left && is_place_known earlier right
refers_back earlier (step.Skip left right count) = is_place_known earlier left && is_place_known earlier right
refers_back earlier (step.Call to method params on_error) = is_register_name to && are_params_known earlier params
refers_back earlier (step.Calls to calls on_error) = is_register_name to && calls_refer_back earlier calls
refers_back earlier (step.Each to over method on_error) = is_register_name to && is_place_known earlier over
refers_back earlier (step.Notify method params) = are_params_known earlier params
refers_back earlier (step.Answer value) = is_place_known earlier value
refers_back earlier (step.Fail code message) = true
