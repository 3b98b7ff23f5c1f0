use Rattle.std.proofs.Common.{map}
use Rattle.std.proofs.lemmas.List.{map-append}
use Rattle.serde_json.specs.View.{view}
use Rattle.json_values.proofs.WholeParts.{items_have_float-push}
use Rattle.json_values.proofs.json_array.JsonArray.push.Goals as goal

pub invariant_of-self-2 : goal.invariant_of-self-2
invariant_of-self-2 c =
    rw (c.in_ok-push.ensures.items, map-append, c.into_value.ensures.value)
    (items_have_float-push (map view c.self.inside.elements.items) c.args.element c.self.invariant c.into_value.ensures.whole)
