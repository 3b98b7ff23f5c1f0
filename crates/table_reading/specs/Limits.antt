-- The numbers, lengths and depths that a step may have.
use Rattle.std.specs.Prelude.{ℕ, ◌+◌, List, length, Bool, true, ◌&&◌, nat_le, Option}
use Rattle.std.specs.List.{list_all}
use Rattle.std.specs.Option.{option_map_or}
use Rattle.toml.specs.Data.{Items, no_items, item}
use Rattle.method_templates.specs.declared.limits.TheConstants.{DEEPEST_TEMPLATE, LONGEST_SKIP, MOST_LISTED}
use Rattle.method_templates.specs.declared.step.ListedCall.{ListedCall}
use Rattle.method_templates.specs.declared.step.Step.TheVariants as step
use Rattle.method_templates.specs.Names.{is_name_length}
use Rattle.method_templates.specs.Shape.{Shape, depth}
use Rattle.method_templates.specs.Steps.{Step}

abbrev pub items_len : Items → ℕ
items_len no_items = 0
items_len (item d ds) = items_len ds + 1

-- how deep a template may be
abbrev pub is_shallow : Shape → Bool
is_shallow t = nat_le (depth t) DEEPEST_TEMPLATE

-- so many steps may a `skip` pass over
abbrev pub is_count : ℕ → Bool
is_count n = nat_le 1 n && nat_le n LONGEST_SKIP

-- the name of a method of the other side has 1 to 128 bytes
abbrev pub is_within : List ℕ → Option Shape → Bool
is_within method params = is_name_length (length method) && option_map_or is_shallow params true

abbrev pub is_call_within : ListedCall → Bool
is_call_within c = is_within c.method c.params

abbrev pub are_calls_within : List ListedCall → Bool
are_calls_within cs = list_all is_call_within cs

-- so many calls may one step make at once
abbrev pub is_list_length : ℕ → Bool
is_list_length n = nat_le 1 n && nat_le n MOST_LISTED

abbrev pub is_list_within : List ListedCall → Bool
is_list_within cs = is_list_length (length cs) && are_calls_within cs

abbrev pub is_step_within : Step → Bool
is_step_within (step.Set to value) = is_shallow value
is_step_within (step.Add to left right) = is_shallow left && is_shallow right
is_step_within (step.Skip left right count) = is_shallow left && is_shallow right && is_count count
is_step_within (step.Call to method params on_error) = is_within method params
is_step_within (step.Calls to list on_error) = is_list_within list
is_step_within (step.Each to over method on_error) = is_shallow over && is_name_length (length method)
is_step_within (step.Notify method params) = is_within method params
is_step_within (step.Answer value) = is_shallow value
is_step_within (step.Fail code message) = true
