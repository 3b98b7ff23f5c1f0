use Rattle.std.proofs.Common.{◌≡◌, ◌-◌, ℕ, List, true, get_or, refl, sym, ap, ◌∙◌}
use Rattle.std.specs.Char.{is_ascii_digit}
use Rattle.serde_json.specs.Data.{Items, array}
use Rattle.serde_json.specs.Find.{get_item, pointer}
use Rattle.serde_json.specs.View.{view}
use Rattle.method_templates.proofs.Digits.{digit_leads, item_is_pointed_at}
use Rattle.method_templates.proofs.filling.pointed_at.Goals as goal

pub returns-then-is_array : goal.returns-then-is_array
returns-then-is_array c =
    let bytes = c.as_bytes-bytes.result.now in
    let digit : is_ascii_digit (get_or bytes 1 0) ≡ true = sym c.is_ascii_digit.ensures.value ∙ c.if-is_ascii_digit.true in
    let leads : (items : Items) → pointer c.args.pointer.now (array items) ≡ get_item (get_or bytes 1 0 - 48) items =
    λ items. ap (λ (p : List ℕ). pointer p (array items)) (sym c.as_bytes-bytes.ensures.value)
    ∙ digit_leads bytes (get_or bytes 1 0) c.if-bytes-eq2.true c.if-bytes-eq47.true refl digit items in
    c.get.ensures ∙ item_is_pointed_at (view c.args.value.now) (get_or bytes 1 0 - 48) c.args.pointer.now (sym c.is_array.ensures ∙ c.if-is_array.true) leads
