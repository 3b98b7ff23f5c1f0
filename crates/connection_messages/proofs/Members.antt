-- Parts of a value whose numbers are numbers.
use Rattle.std.proofs.Common.{◌≡◌, ℕ, zero, suc, ◌+◌, ◌<◌, List, [], ◌∷◌, ◌++◌, length, take, get_or, true, if◌then◌else◌, Option, Some, None, option_map, Bor, refl, sym, ap, subst, ◌∙◌, arith, Global}
use Rattle.json.specs.Json.{Json, null}
use Rattle.json.specs.Find.{get}
use Rattle.json.specs.Tree.{HasNumbers, ItemsHaveNumbers}
use Rattle.json.specs.Value.{value_view, items_view}
use Rattle.json.specs.declared.value.Value.{Value}
use Rattle.json.proofs.Numbered.{HasNumbers-get}
use Rattle.connection_messages.specs.declared.entry.Entry.{Entry}
use Rattle.connection_messages.specs.declared.entry.Entry.TheVariants.{Invalid}
use Rattle.connection_messages.specs.declared.unit.Unit.TheVariants.{Single}
use Rattle.connection_messages.specs.Reading.{unless_null, entry_of, entries_of, are_too_many, batch_of, batch_within}
use Rattle.connection_messages.specs.declared.rules.Rules.{Rules}

pub member_has_numbers : (name : List ℕ) (j : Json) (found : Option (Bor (Value Global))) → option_map (λ v. value_view v.now) found ≡ get name j → HasNumbers j →
    (v : Bor (Value Global)) → found ≡ Some v → HasNumbers (value_view v.now)
member_has_numbers name j found is numbers v here = HasNumbers-get name j (value_view v.now) numbers (ap (option_map (λ w. value_view w.now)) (sym here) ∙ is)

unless_null_is : (o : Option Json) (j : Json) → Some j ≡ unless_null o → Some j ≡ o
unless_null_is None j e = e
unless_null_is (Some null) j e = absurd (let f : Some j ≡ None = e in cc)
unless_null_is (Some k) j e = e

-- one that isn't null
pub other_has_numbers : (name : List ℕ) (j : Json) (o : Option Json) (found : Option (Bor (Value Global))) → o ≡ get name j → option_map (λ v. value_view v.now) found ≡ unless_null o →
    HasNumbers j → (v : Bor (Value Global)) → found ≡ Some v → HasNumbers (value_view v.now)
other_has_numbers name j o found member is numbers v here =
    HasNumbers-get name j (value_view v.now) numbers (unless_null_is o (value_view v.now) (ap (option_map (λ w. value_view w.now)) (sym here) ∙ is) ∙ member)

-- ---- elements of an array

pub item_has_numbers : (vs : List (Value Global)) (k : ℕ) (v : Value Global) → ItemsHaveNumbers (items_view vs) → k < length vs → v ≡ get_or vs k v → HasNumbers (value_view v)
item_has_numbers [] k v numbers h e = absurd (let f : k < 0 = h in omega (arith, f))
item_has_numbers (w ∷ vs) zero v numbers h e = let P : Value Global → Type 0 = λ u. HasNumbers (value_view u) in subst P (sym e) numbers.0
item_has_numbers (w ∷ vs) (suc k) v numbers h e = item_has_numbers vs k v numbers.1 (let f : suc k < suc (length vs) = h in omega (arith, f)) e

entries_of-append : (rules : Rules) (vs : List (Value Global)) (v : Value Global) →
    entries_of rules (items_view (vs ++ v ∷ [])) ≡ entries_of rules (items_view vs) ++ entry_of rules (value_view v) ∷ []
entries_of-append rules [] v = refl
entries_of-append rules (w ∷ vs) v = ap (λ es. entry_of rules (value_view w) ∷ es) (entries_of-append rules vs v)

taken : (vs : List (Value Global)) (k : ℕ) (v : Value Global) → k < length vs → v ≡ get_or vs k v → take (k + 1) vs ≡ take k vs ++ v ∷ []
taken [] k v h e = absurd (let f : k < 0 = h in omega (arith, f))
taken (w ∷ vs) zero v h e = ap (λ u. u ∷ []) (sym e)
taken (w ∷ vs) (suc k) v h e = ap (λ n. take n (w ∷ vs)) (let f : suc k + 1 ≡ suc (k + 1) = omega arith in f) ∙ ap (λ us. w ∷ us) (taken vs k v (let f : suc k < suc (length vs) = h in omega (arith, f)) e)

-- one more element
pub entries_of-more : (rules : Rules) (vs : List (Value Global)) (k : ℕ) (v : Value Global) (es : List Entry) (e : Entry) → k < length vs → v ≡ get_or vs k v →
    es ≡ entries_of rules (items_view (take k vs)) → e ≡ entry_of rules (value_view v) → es ++ e ∷ [] ≡ entries_of rules (items_view (take (k + 1) vs))
entries_of-more rules vs k v es e h is so_far one =
    ap (λ xs. xs ++ e ∷ []) so_far ∙ ap (λ x. entries_of rules (items_view (take k vs)) ++ x ∷ []) one
    ∙ sym (entries_of-append rules (take k vs) v) ∙ ap (λ ws. entries_of rules (items_view ws)) (sym (taken vs k v h is))

pub length-entries : (rules : Rules) (vs : List (Value Global)) → length (entries_of rules (items_view vs)) ≡ length vs
length-entries rules [] = refl
length-entries rules (v ∷ vs) = ap suc (length-entries rules vs)

pub too_many_values : (rules : Rules) (vs : List (Value Global)) → are_too_many rules.most_entries (length vs) ≡ true → Single Invalid ≡ batch_within rules.most_entries (entries_of rules (items_view vs))
too_many_values rules vs over =
    sym (ap (λ b. if b then Single Invalid else batch_of (entries_of rules (items_view vs))) (ap (are_too_many rules.most_entries) (length-entries rules vs) ∙ over))
