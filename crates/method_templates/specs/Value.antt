-- The value of a template under registers.
use Rattle.std.specs.Prelude.{ℕ, List, codes, Option, Some, None, option_and_then, Result, Ok, Err, ℤ, if◌then◌else◌}
use Rattle.std.specs.Str.{bytes_eq}
use Rattle.serde_json.specs.Data.{Data, array, object, Items, no_items, item, Members, no_members, member}
use Rattle.serde_json.specs.Find.{get_member, pointer, as_number, as_i64}
use Rattle.method_templates.specs.declared.filling.FillFault.{FillFault}
use Rattle.method_templates.specs.declared.filling.FillFault.TheVariants.{Params, Missing}
use Rattle.method_templates.specs.Shape.{Shape, plain, place, list, members, Shapes, no_shapes, shape, Parts, no_parts, part}

-- f of the value, or the fault
abbrev pub with_value : {A B : Type 0} → (A → B) → Result A FillFault → Result B FillFault
with_value f (Ok a) = Ok (f a)
with_value f (Err e) = Err e

-- the first fault of the two, or f of both values
abbrev pub with_both : {A B C : Type 0} → (A → B → C) → Result A FillFault → Result B FillFault → Result C FillFault
with_both f (Ok a) b = with_value (f a) b
with_both f (Err e) b = Err e

-- what was found in a register of that name, or why nothing was
abbrev pub found_in : List ℕ → Option Data → Result Data FillFault
found_in name (Some d) = Ok d
found_in name None = if bytes_eq name (codes "params") then Err Params else Err Missing

-- the place in a register that a JSON Pointer (RFC 6901) leads to
abbrev pub value_at : Members → List ℕ → List ℕ → Result Data FillFault
value_at registers name path = found_in name (option_and_then (pointer path) (get_member name registers))

abbrev mutual
  pub value_of : Members → Shape → Result Data FillFault
  value_of registers (plain d) = Ok d
  value_of registers (place name path) = value_at registers name path
  value_of registers (list ts) = with_value array (values_of registers ts)
  value_of registers (members ms) = with_value object (members_of registers ms)

  pub values_of : Members → Shapes → Result Items FillFault
  values_of registers no_shapes = Ok no_items
  values_of registers (shape t ts) = with_both item (value_of registers t) (values_of registers ts)

  pub members_of : Members → Parts → Result Members FillFault
  members_of registers no_parts = Ok no_members
  members_of registers (part name t ms) = with_both (member name) (value_of registers t) (members_of registers ms)

-- the whole number of i64 that the value is
abbrev pub i64_in : Data → Option ℤ
i64_in d = option_and_then as_i64 (as_number d)
