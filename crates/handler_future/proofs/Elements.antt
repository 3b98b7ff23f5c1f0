-- Calls made one after the other, one for each element.
use Rattle.std.proofs.Common.{◌≡◌, ℕ, ◌+◌, ◌<◌, ◌≤◌, List, [], ◌∷◌, ◌++◌, length, drop, get_or, arith, Bool, true, false, ◌||◌, Some, Ok, Err, refl, ap, sym, ◌∙◌, append_assoc, append-nil}
use Rattle.std.proofs.lemmas.Bool.Decides.{nat_tests}
use Rattle.std.proofs.lemmas.List.{drop_more}
use Rattle.std.specs.Prelude.{nat_le}
use Rattle.serde_json.specs.View.{view, items_view}
use Rattle.serde_json.specs.Written.{has_float, items_have_float}
use Rattle.serde_json.specs.declared.value.Value.{Value}
use Rattle.rpc_messages.specs.declared.outgoing.Outgoing.{Outgoing}
use Rattle.message_ids.specs.declared.standard.Standard.TheVariants.{InvalidParams}
use Rattle.handler_future.specs.Act.{call_for, calls_for, calls_for_array}

or-left : (a b : Bool) → (a || b) ≡ false → a ≡ false
or-left false b h = refl
or-left true b h = cc

or-right : (a b : Bool) → (a || b) ≡ false → b ≡ false
or-right false b h = h
or-right true b h = cc

-- these calls are made, and those of the elements that are left are to come
pub record CalledBefore (method : List ℕ) (elements : List Value) (calls : List Outgoing) (rest : List Value) : Type 0 where
  pub made : calls_for method (items_view elements) ≡ calls ++ calls_for method (items_view rest)
  pub whole : items_have_float (items_view rest) ≡ false

pub called_none : (method : List ℕ) (elements : List Value) → items_have_float (items_view elements) ≡ false → CalledBefore method elements [] elements
called_none method elements whole = record { made = refl; whole = whole }

pub called_whole : (method : List ℕ) (elements : List Value) (calls : List Outgoing) (v : Value) (rest : List Value) → CalledBefore method elements calls (v ∷ rest) → has_float (view v) ≡ false
called_whole method elements calls v rest before = or-left (has_float (view v)) (items_have_float (items_view rest)) before.whole

pub called_more : (method : List ℕ) (elements : List Value) (calls : List Outgoing) (v : Value) (rest : List Value) (o : Outgoing) → CalledBefore method elements calls (v ∷ rest)
    → o ≡ call_for method (view v) → CalledBefore method elements (calls ++ o ∷ []) rest
called_more method elements calls v rest o before is = record {
  made = before.made ∙ ap (λ x. calls ++ (x ∷ calls_for method (items_view rest))) (sym is) ∙ sym (append_assoc calls (o ∷ []) (calls_for method (items_view rest)));
  whole = or-right (has_float (view v)) (items_have_float (items_view rest)) before.whole;
}

pub called_all : (method : List ℕ) (elements : List Value) (calls : List Outgoing) → CalledBefore method elements calls [] → calls ≡ calls_for method (items_view elements)
called_all method elements calls before = sym (before.made ∙ append-nil calls)

-- the element at a place comes first of those that are left
pub one_left : (xs : List Value) (i : ℕ) (v : Value) → i < length xs → v ≡ get_or xs i v → drop i xs ≡ v ∷ drop (i + 1) xs
one_left xs i v within is = drop_more xs i v within ∙ ap (λ x. x ∷ drop (i + 1) xs) (sym is)

-- as many calls as elements
pub length-calls_for : (method : List ℕ) (elements : List Value) → length (calls_for method (items_view elements)) ≡ length elements
length-calls_for method [] = refl
length-calls_for method (v ∷ vs) = let e = length-calls_for method vs in omega arith

-- ---- an array of at most 16

pub few_called : (method : List ℕ) (elements : List Value) → length elements ≤ 16 → calls_for_array method (Some (items_view elements)) ≡ Ok (calls_for method (items_view elements))
few_called method elements few =
    let n = length-calls_for method elements in
    let t : nat_le (length (calls_for method (items_view elements))) 16 ≡ true = grind (arith, nat_tests) in
    rw t refl

pub many_refused : (method : List ℕ) (elements : List Value) → 16 < length elements → calls_for_array method (Some (items_view elements)) ≡ Err InvalidParams
many_refused method elements many =
    let n = length-calls_for method elements in
    let t : nat_le (length (calls_for method (items_view elements))) 16 ≡ false = grind (arith, nat_tests) in
    rw t refl
