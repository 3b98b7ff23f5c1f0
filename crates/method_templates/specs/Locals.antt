-- The registers of a method whose params are lent.
use Rattle.std.specs.Prelude.{List, [], ◌∷◌, codes, None, unwrap_or}
use Rattle.serde_json.specs.Data.{Data, Members, no_members, member}
use Rattle.method_templates.specs.declared.locals.Row.{Row}

-- the registers, where this value is lent to those that have none of their own
abbrev pub with_lent : Data → List Row → Members
with_lent lent [] = no_members
with_lent lent (r ∷ rs) = member r.name (unwrap_or r.value lent) (with_lent lent rs)

-- as a method starts: `params` alone, which are lent
abbrev pub only_params : List Row
only_params = record { name = codes "params"; value = None } ∷ []
