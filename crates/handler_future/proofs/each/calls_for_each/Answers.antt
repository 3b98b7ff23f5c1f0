use Rattle.std.proofs.Common.{◌≡◌, Some, None, sym, ◌∙◌, ap, subst, Option}
use Rattle.serde_json.specs.Data.{Items}
use Rattle.serde_json.specs.Find.{as_array}
use Rattle.serde_json.specs.View.{items_view}
use Rattle.handler_future.specs.Act.{calls_for_array}
use Rattle.handler_future.specs.Inner.Fault.{GivesItems}
use Rattle.handler_future.proofs.each.calls_for_each.Goals as goal

pub returns-in-Some : goal.returns-in-Some
returns-in-Some c =
    let array : as_array c.args.over.now ≡ Some (items_view c.as_slice.result.now) =
    ap as_array (sym c.as_value.ensures.value) ∙ sym c.in-Some.ensures ∙ ap (λ xs. Some (items_view xs)) (sym c.as_slice.ensures.value) in
    let P : Option Items → Type 0 = λ x. GivesItems (calls_for_array c.args.method.now x) c.calls_for_few.result in
    subst P (sym array) c.calls_for_few.ensures

pub returns-in-None : goal.returns-in-None
returns-in-None c =
    let array : as_array c.args.over.now ≡ None = ap as_array (sym c.as_value.ensures.value) ∙ sym c.in-None.ensures in
    ap (calls_for_array c.args.method.now) array
