-- What is known of values whose texts were put. Only private functions' clauses cite it.
use Rattle.std.specs.Prelude.{◌≡◌, ◌≤◌, List, [], ◌∷◌, false, Option, Some, None, ⊤}
use Rattle.serde_json.specs.Data.{Data, depth}
use Rattle.serde_json.specs.Read.{read, max_depth}
use Rattle.serde_json.specs.Written.{compact_text, has_float}
use Rattle.rpc_messages.specs.declared.outgoing.Outgoing.{Outgoing}

-- the value has a text that is read back as the value, unless it nests too deep
pub record IsReadBack (d : Data) : Type 0 where
  pub whole : has_float d ≡ false
  pub back : depth d ≤ max_depth → read (compact_text d) ≡ Some d

abbrev pub AreReadBack : Option Data → Type 0
AreReadBack None = ⊤
AreReadBack (Some d) = IsReadBack d

abbrev pub AllAreReadBack : List Outgoing → Type 0
AllAreReadBack [] = ⊤
AllAreReadBack (o ∷ os) = AreReadBack o.params × AllAreReadBack os
