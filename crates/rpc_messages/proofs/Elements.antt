-- The elements of an array, read one by one.
use Rattle.std.proofs.Common.{◌≡◌, List, [], ◌∷◌, ◌++◌, map, Option, Some, None, refl, ap}
use Rattle.json.specs.Json.{parse_map}
use Rattle.json.specs.Token.{Token}
use Rattle.serde_json.specs.Data.{Data, Items, no_items, item}
use Rattle.value_reading.proofs.Elements.{elements_before, push}
use Rattle.rpc_messages.specs.Entry.{entry_of}
use Rattle.rpc_messages.specs.Unit.{entries_of}

pub none_before : (r : Option (Items × List Token)) → r ≡ parse_map (elements_before []) r
none_before None = refl
none_before (Some p) = refl

pub one_more : (ds : List Data) (d : Data) (r : Option (Items × List Token)) → parse_map (elements_before ds) (parse_map (item d) r) ≡ parse_map (elements_before (ds ++ d ∷ [])) r
one_more ds d None = refl
one_more ds d (Some p) = ap (λ items. Some (items, p.1)) (push ds d p.0)

-- each has its entry
pub entries_of-all : (ds : List Data) → map entry_of ds ≡ entries_of (elements_before ds no_items)
entries_of-all [] = refl
entries_of-all (d ∷ ds) = ap (λ es. entry_of d ∷ es) (entries_of-all ds)
