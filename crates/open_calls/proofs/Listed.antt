-- Which numbers stand under an id, after each change.
use Rattle.std.proofs.Common.{◌≡◌, ℕ, Bool, true, false, refl, ap, sym, ◌∙◌, ◌&&◌, ◌==◌, if◌then◌else◌, Option, Some, None, Result, Ok, Err, OnOk, OnErr}
use Rattle.std.specs.Ordering.{is_eq}
use Rattle.std.specs.BTreeMap as tree
use Rattle.message_ids.specs.declared.id.Id.{Id}
use Rattle.message_ids.specs.Ids.{same_id, id_cmp}
use Rattle.message_ids.proofs.Ids.{same-by_cmp, same-is}
use Rattle.open_calls.specs.declared.numbers.Numbers.{Numbers}
use Rattle.open_calls.specs.Inner.{is_in, has_number}

pick : (b : Bool) (k : ℕ) (x y : Option Numbers) → is_in k (if b then x else y) ≡ (if b then is_in k x else is_in k y)
pick true k x y = refl
pick false k x y = refl

either : (same : Bool) (here there : Bool) → (same ≡ true → here ≡ there) → (if same then here else there) ≡ there
either true here there is = is refl
either false here there is = refl

gone : (same hit here between was : Bool) → between ≡ (if same then here else was) → (same ≡ true → (if hit then false else was) ≡ false)
    → (if same then false else between) ≡ (if same && hit then false else was)
gone true hit here between was is none = sym (none refl)
gone false hit here between was is none = is

-- the numbers of one id changed
pub listed-put : (was now : tree.BTreeMap Id Numbers) (id : Id) (numbers : Option Numbers) → tree.Updates id_cmp was now id numbers
    → (q : Id) (k : ℕ) → is_in k (tree.get id_cmp now q) ≡ (if same_id id q then is_in k numbers else is_in k (tree.get id_cmp was q))
listed-put was now id numbers updates q k =
    ap (is_in k) (updates.0 q) ∙ pick (is_eq (id_cmp id q)) k numbers (tree.get id_cmp was q)
    ∙ ap (λ b. if b then is_in k numbers else is_in k (tree.get id_cmp was q)) (same-by_cmp id q)

both : (same hit : Bool) (here there answer : Bool) → (same ≡ true → there ≡ here)
    → (if same then (if hit then answer else here) else there) ≡ (if same && hit then answer else there)
both true true here there answer is = refl
both true false here there answer is = sym (is refl)
both false hit here there answer is = refl

pub listed-changed : (was now : tree.BTreeMap Id Numbers) (id : Id) (old new : Numbers) (number : ℕ) (answer : Bool)
    → ((k : ℕ) → is_in k (tree.get id_cmp was id) ≡ has_number old k) → ((q : Id) (k : ℕ) → is_in k (tree.get id_cmp now q) ≡ (if same_id id q then has_number new k else is_in k (tree.get id_cmp was q)))
    → ((k : ℕ) → has_number new k ≡ (if number == k then answer else has_number old k))
    → (q : Id) (k : ℕ) → is_in k (tree.get id_cmp now q) ≡ (if same_id id q && (number == k) then answer else is_in k (tree.get id_cmp was q))
listed-changed was now id old new number answer there put changes q k =
    put q k ∙ ap (λ b. if same_id id q then b else is_in k (tree.get id_cmp was q)) (changes k)
    ∙ both (same_id id q) (number == k) (has_number old k) (is_in k (tree.get id_cmp was q)) answer
    (λ same. ap (λ i. is_in k (tree.get id_cmp was i)) (sym (same-is id q same)) ∙ there k)

first_hit : (same hit : Bool) (there : Bool) → (same ≡ true → there ≡ false) → (if same then hit else there) ≡ (if same && hit then true else there)
first_hit true true there none = refl
first_hit true false there none = sym (none refl)
first_hit false hit there none = refl

-- the first number of an id came
pub listed-first : (was now : tree.BTreeMap Id Numbers) (id : Id) (new : Numbers) (number : ℕ)
    → ((k : ℕ) → is_in k (tree.get id_cmp was id) ≡ false) → ((k : ℕ) → has_number new k ≡ (number == k)) → tree.Updates id_cmp was now id (Some new)
    → (q : Id) (k : ℕ) → is_in k (tree.get id_cmp now q) ≡ (if same_id id q && (number == k) then true else is_in k (tree.get id_cmp was q))
listed-first was now id new number none is updates q k =
    listed-put was now id (Some new) updates q k ∙ ap (λ b. if same_id id q then b else is_in k (tree.get id_cmp was q)) (is k)
    ∙ first_hit (same_id id q) (number == k) (is_in k (tree.get id_cmp was q))
    (λ same. ap (λ i. is_in k (tree.get id_cmp was i)) (sym (same-is id q same)) ∙ none k)

-- an id's numbers were written back as they were
pub listed-same : (was now : tree.BTreeMap Id Numbers) (id : Id) (old new : Numbers) → ((k : ℕ) → has_number new k ≡ has_number old k)
    → ((k : ℕ) → is_in k (tree.get id_cmp was id) ≡ has_number old k) → tree.Updates id_cmp was now id (Some new)
    → (q : Id) (k : ℕ) → is_in k (tree.get id_cmp now q) ≡ is_in k (tree.get id_cmp was q)
listed-same was now id old new is there updates q k =
    listed-put was now id (Some new) updates q k
    ∙ ap (λ b. if same_id id q then b else is_in k (tree.get id_cmp was q)) (is k)
    ∙ either (same_id id q) (has_number old k) (is_in k (tree.get id_cmp was q))
    (λ same. sym (there k) ∙ ap (λ i. is_in k (tree.get id_cmp was i)) (same-is id q same))

-- the last number of an id went, and then the id
pub listed-gone : (was between now : tree.BTreeMap Id Numbers) (id : Id) (old new : Numbers) (number : ℕ)
    → ((k : ℕ) → (if number == k then false else has_number old k) ≡ false)
    → ((k : ℕ) → is_in k (tree.get id_cmp was id) ≡ has_number old k) → tree.Updates id_cmp was between id (Some new) → tree.Updates id_cmp between now id None
    → (q : Id) (k : ℕ) → is_in k (tree.get id_cmp now q) ≡ (if same_id id q && (number == k) then false else is_in k (tree.get id_cmp was q))
listed-gone was between now id old new number none there put removed q k =
    listed-put between now id None removed q k
    ∙ gone (same_id id q) (number == k) (has_number new k) (is_in k (tree.get id_cmp between q)) (is_in k (tree.get id_cmp was q))
    (listed-put was between id (Some new) put q k)
    (λ same. ap (λ b. if number == k then false else b) (ap (λ i. is_in k (tree.get id_cmp was i)) (sym (same-is id q same)) ∙ there k) ∙ none k)

pub OnOk-map : {X E P Q : Type 0} (r : Result X E) → (P → Q) → OnOk r P → OnOk r Q
OnOk-map (Ok x) f p = f p
OnOk-map (Err e) f p = tt

pub OnErr-map : {X E P Q : Type 0} (r : Result X E) → (P → Q) → OnErr r P → OnErr r Q
OnErr-map (Ok x) f p = tt
OnErr-map (Err e) f p = f p
