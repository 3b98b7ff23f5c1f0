-- What a form of a template is seen as, its parts already seen.
use Rattle.std.specs.Prelude.{List, [], ◌∷◌, String, string_bytes}
use Rattle.std.specs.declared.alloc.Global.{Global}
use Rattle.method_templates.specs.declared.template.Form.{Form}
use Rattle.method_templates.specs.declared.template.Form.TheVariants as form
use Rattle.method_templates.specs.Shape.{Shape, plain, place, list, members, Shapes, no_shapes, shape, Parts, no_parts, part}

abbrev pub shapes_of : List Shape → Shapes
shapes_of [] = no_shapes
shapes_of (t ∷ ts) = shape t (shapes_of ts)

abbrev pub parts_of : List (String Global × Shape) → Parts
parts_of [] = no_parts
parts_of (m ∷ ms) = part (string_bytes m.0) m.1 (parts_of ms)

abbrev pub shape_of : Form → Shape
shape_of (form.Plain d) = plain d
shape_of (form.Place name pointer) = place name pointer
shape_of (form.List ts) = list (shapes_of ts.items)
shape_of (form.Members ms) = members (parts_of ms.entries)
