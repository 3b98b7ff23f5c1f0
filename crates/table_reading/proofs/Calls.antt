-- The calls of a list, one by one.
use Rattle.std.proofs.Common.{◌≡◌, ℕ, ◌+◌, List, [], ◌∷◌, length, Bool, true, ◌&&◌, Option, Some, None, is_some, unwrap_or, refl, sym, ap, ◌∙◌, arith, true≢false}
use Rattle.toml.specs.View.{view, items_view}
use Rattle.toml.specs.declared.value.Value.{Value}
use Rattle.table_reading.specs.Fields.{with_2, call_in, listed_calls, the_calls}
use Rattle.table_reading.specs.Limits.{are_calls_within, is_list_length, is_list_within}
use Rattle.method_templates.specs.declared.step.ListedCall.{ListedCall}

-- a list whose items are all calls has as many of these
length-with : (o : Option ListedCall) (r : Option (List ListedCall)) (n : ℕ) → is_some (with_2 (λ c cs. c ∷ cs) o r) ≡ true → (is_some r ≡ true → length (unwrap_or r []) ≡ n)
    → length (unwrap_or (with_2 (λ c cs. c ∷ cs) o r) []) ≡ n + 1
length-with None r n h more = absurd (true≢false (sym h))
length-with (Some c) None n h more = absurd (true≢false (sym h))
length-with (Some c) (Some cs) n h more = omega (arith, more refl)

pub length-the_calls : (vs : List Value) → is_some (listed_calls (items_view vs)) ≡ true → length (the_calls (items_view vs)) ≡ length vs
length-the_calls [] h = refl
length-the_calls (v ∷ vs) h = length-with (call_in (view v)) (listed_calls (items_view vs)) (length vs) h (length-the_calls vs) ∙ omega arith

pub list_within : (vs : List Value) (cs : List ListedCall) (within few : Bool) → is_some (listed_calls (items_view vs)) ≡ true → the_calls (items_view vs) ≡ cs → within ≡ are_calls_within (the_calls (items_view vs)) → few ≡ is_list_length (length vs)
    → few && within ≡ is_list_within cs
list_within vs cs within few some same all number =
    let few_here : few ≡ is_list_length (length (the_calls (items_view vs))) = number ∙ ap is_list_length (sym (length-the_calls vs some)) in
    ap (λ b. b && within) few_here ∙ ap (λ b. is_list_length (length (the_calls (items_view vs))) && b) all ∙ ap is_list_within same
