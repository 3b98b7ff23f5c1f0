-- Each template within a form is smaller than the form.
use Rattle.std.specs.Prelude.{◌+◌, ◌≤◌, max, List, [], ◌∷◌, map, String}
use Rattle.std.specs.declared.alloc.Global.{Global}
use Rattle.std.proofs.Common.{arith}
use denote.Param.Weighed.{most}
use Rattle.method_templates.specs.declared.template.Form.{Form}
use Rattle.method_templates.specs.declared.template.Form.TheVariants as form
use Rattle.method_templates.specs.declared.template.Template.TheDeep.{deep-Form}
use Rattle.method_templates.specs.Form.{shape_of, shapes_of, parts_of}
use Rattle.method_templates.specs.Shape.{Shape, size_of, shapes_size, parts_size}

most_le-shapes_size : (ts : List Shape) → most (λ t. size_of t + 1) ts ≤ shapes_size (shapes_of ts) + 1
most_le-shapes_size [] = omega arith
most_le-shapes_size (t ∷ ts) = omega (arith, most_le-shapes_size ts)

most_le-parts_size : (ms : List (String Global × Shape)) → most (λ t. size_of t + 1) (map (λ m. m.1) ms) ≤ parts_size (parts_of ms) + 1
most_le-parts_size [] = omega arith
most_le-parts_size (m ∷ ms) = omega (arith, most_le-parts_size ms)

-- no template within a form is larger
pub deep_le-size : (f : Form) → max (deep-Form f) 0 ≤ size_of (shape_of f)
deep_le-size (form.Plain d) = omega arith
deep_le-size (form.Place name pointer) = omega arith
deep_le-size (form.List ts) = omega (arith, most_le-shapes_size ts.items)
deep_le-size (form.Members ms) = omega (arith, most_le-parts_size ms.entries)
