-- The template that a value of a TOML document stands for.
use Rattle.std.specs.Prelude.{ℕ, List, [], ◌∷◌, drop, codes, Bool, true, false, ◌&&◌, ◌==◌, slice_index, Option, Some, None, if◌then◌else◌}
use Rattle.std.specs.List.{before_first, position_or_len}
use Rattle.std.specs.Str.{bytes_eq}
use Rattle.serde_json.specs.Data as json
use Rattle.serde_json.specs.Find.{of_integer}
use Rattle.toml.specs.Data.{Data, string, integer, float, boolean, datetime, array, table, Items, no_items, item, Members, no_members, member}
use Rattle.method_templates.specs.Shape.{Shape, plain, place, list, members, Shapes, no_shapes, shape, Parts, no_parts, part}

-- ---- texts

-- of `name` or `name/..`, what stands before the first `/`, and what begins there
abbrev pub name_in : List ℕ → List ℕ
name_in s = before_first (λ b. b == 47) s

abbrev pub pointer_in : List ℕ → List ℕ
pointer_in s = drop (position_or_len (λ b. b == 47) s) s

-- after a first `$`: another `$` makes a text, `null` is null, and anything else is a reference
abbrev pub shape_after_dollar : List ℕ → Shape
shape_after_dollar s =
    if slice_index s 0 == 36 then plain (json.string s)
    else if bytes_eq s (codes "null") then plain json.null
    else place (name_in s) (pointer_in s)

abbrev pub shape_of_text : List ℕ → Shape
shape_of_text [] = plain (json.string [])
shape_of_text (b ∷ s) = if b == 36 then shape_after_dollar s else plain (json.string (b ∷ s))

-- ---- values

-- no float and no date stands in the value
abbrev mutual
  pub is_template : Data → Bool
  is_template (string s) = true
  is_template (integer z) = true
  is_template (float x) = false
  is_template (boolean b) = true
  is_template (datetime dt) = false
  is_template (array ds) = items_are_templates ds
  is_template (table ms) = members_are_templates ms

  pub items_are_templates : Items → Bool
  items_are_templates no_items = true
  items_are_templates (item d ds) = is_template d && items_are_templates ds

  pub members_are_templates : Members → Bool
  members_are_templates no_members = true
  members_are_templates (member k d ms) = is_template d && members_are_templates ms

-- what the value stands for; floats and dates, which no template has, as null
abbrev mutual
  pub shape_from : Data → Shape
  shape_from (string s) = shape_of_text s
  shape_from (integer z) = plain (json.number (of_integer z))
  shape_from (float x) = plain json.null
  shape_from (boolean b) = plain (json.boolean b)
  shape_from (datetime dt) = plain json.null
  shape_from (array ds) = list (shapes_from ds)
  shape_from (table ms) = members (parts_from ms)

  pub shapes_from : Items → Shapes
  shapes_from no_items = no_shapes
  shapes_from (item d ds) = shape (shape_from d) (shapes_from ds)

  pub parts_from : Members → Parts
  parts_from no_members = no_parts
  parts_from (member k d ms) = part k (shape_from d) (parts_from ms)

-- the template that the value is, if it is one
abbrev pub template_in : Data → Option Shape
template_in d = if is_template d then Some (shape_from d) else None
