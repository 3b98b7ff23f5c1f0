-- The values of a compact array, counted as they pass.
use Rattle.std.proofs.Common.{◌≡◌, ℕ, suc, ◌+◌, ◌≤◌, List, length, get_or, true, false, Some, None, if◌then◌else◌, refl, ap, ◌∙◌, arith}
use Rattle.std.specs.Prelude.{nat_lt}
use Rattle.std.specs.Str.{IsUtf8}
use Rattle.std.proofs.lemmas.Bool.Decides.{nat_tests}
use Rattle.json.specs.Json.{Json, array, Items, no_items, item}
use Rattle.json_texts.specs.Standing.{HasValue}
use Rattle.json_texts.specs.Texts.{json_text}
use Rattle.json_texts.proofs.Placed.{ItemsStand, stand_more_items, stand_last_item, array_text}
use Rattle.connection_messages.specs.Envelope.{item_count, HasValues}
use Rattle.connection_messages.specs.Reading.{entries_of, are_too_many, batch_of, unit_of_reading, value_unit, unit_of}
use Rattle.connection_messages.specs.declared.entry.Entry.TheVariants.{Invalid}
use Rattle.connection_messages.specs.declared.rules.Rules.{Rules}
use Rattle.connection_messages.specs.declared.unit.Unit.TheVariants.{Single}
use Rattle.connection_messages.proofs.Noted.{whole_value}

-- so many values stand before this place
abbrev pub AreCounted : List ℕ → ℕ → ℕ → Type 0
AreCounted text at count =
    (end : ℕ) (j : Json) (js : Items) → ItemsStand 126 text at (item j js) end
    → (k : Json) × (ks : Items) × ItemsStand 126 text 1 (item k ks) end × (item_count (item k ks) ≡ count + item_count (item j js))

pub none_counted : (text : List ℕ) → AreCounted text 1 0
none_counted text end j js stand = (j, js, stand, omega arith)

pub one_more : (text : List ℕ) (at stop count : ℕ) → HasValue 126 text at stop → get_or text stop 0 ≡ 44 → AreCounted text at count → AreCounted text (stop + 1) (count + 1)
one_more text at stop count v comma counted end j js stand =
    let all = counted end v.value (item j js) (stand_more_items 126 text at stop end v comma j js stand) in
    let many = all.3 in
    (all.0, all.1, all.2, omega (arith, many))

pub all_counted : (text bytes : List ℕ) (at end count : ℕ) → HasValue 126 bytes at end → get_or bytes end 0 ≡ 93 → AreCounted bytes at count → get_or bytes 0 0 ≡ 91 → end + 1 ≡ length bytes
    → bytes ≡ text → IsUtf8 text → HasValues text (count + 1)
all_counted text bytes at end count v bracket counted first whole same utf8 =
    let all = counted (end + 1) v.value no_items (stand_last_item 126 bytes at end v bracket) in
    let stand = all.2 in
    let nests = stand.1 in
    let many = all.3 in
    let is_text : json_text (array (item all.0 all.1)) ≡ text = array_text 126 bytes (item all.0 all.1) (end + 1) first stand whole ∙ same in
    record {
      items = item all.0 all.1;
      is = whole_value text (array (item all.0 all.1)) utf8 stand.0 (omega (arith, nests)) is_text;
      many = omega (arith, many);
    }

-- ---- what so many are

pub length-items : (rules : Rules) (js : Items) → length (entries_of rules js) ≡ item_count js
length-items rules no_items = refl
length-items rules (item j js) = ap suc (length-items rules js)

pub too_many_is : (rules : Rules) (text : List ℕ) (count : ℕ) → HasValues text count → are_too_many rules.most_entries count ≡ true → unit_of rules false text ≡ Single Invalid
too_many_is rules text count h over =
    ap (unit_of_reading rules) h.is
    ∙ ap (λ b. if b then Single Invalid else batch_of (entries_of rules h.items)) (ap (are_too_many rules.most_entries) (length-items rules h.items ∙ h.many) ∙ over)

within_is_not_over : (most count : ℕ) → count ≤ most → nat_lt most count ≡ false
within_is_not_over most count within = grind (arith, nat_tests)

pub within_the_limit : (rules : Rules) (most : ℕ) (js : Items) → item_count js ≤ most
    → value_unit (record rules { most_entries = Some most }) (array js) ≡ value_unit (record rules { most_entries = None }) (array js)
within_the_limit rules most js within =
    ap (λ b. if b then Single Invalid else batch_of (entries_of rules js)) (ap (nat_lt most) (length-items rules js) ∙ within_is_not_over most (item_count js) within)
