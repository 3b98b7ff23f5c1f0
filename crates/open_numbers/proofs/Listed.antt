-- Which numbers stand under an id, after each change.
use Rattle.std.proofs.Common.{◌≡◌, ℕ, [], Bool, true, false, refl, ap, sym, ◌∙◌, ◌&&◌, ◌==◌, if◌then◌else◌, Option, Some, None}
use Rattle.std.specs.Ordering.{is_eq, nat_cmp}
use Rattle.std.specs.Cmp.{unsigned_ties}
use Rattle.std.specs.List.{list_any}
use Rattle.std.specs.BTreeMap.{is_at}
use Rattle.std.specs.BTreeMap as tree
use Rattle.std.specs.BTreeSet as sorted
use Rattle.message_ids.specs.declared.id.Id.{Id}
use Rattle.message_ids.specs.Ids.{same_id, id_cmp}
use Rattle.message_ids.proofs.Ids.{same-by_cmp, same-is}
use Rattle.open_numbers.specs.Requests.{is_in}

pick : (b : Bool) (k : ℕ) (x y : Option (sorted.BTreeSet ℕ)) → is_in k (if b then x else y) ≡ (if b then is_in k x else is_in k y)
pick true k x y = refl
pick false k x y = refl

either : (same : Bool) (here there : Bool) → (same ≡ true → here ≡ there) → (if same then here else there) ≡ there
either true here there is = is refl
either false here there is = refl

twice : (same here between there : Bool) → here ≡ false → between ≡ (if same then here else there) → (if same then false else between) ≡ (if same then here else there)
twice true here between there none is = sym none
twice false here between there none is = is

-- the numbers of one id changed
pub listed-put : (was now : tree.BTreeMap Id (sorted.BTreeSet ℕ)) (id : Id) (numbers : Option (sorted.BTreeSet ℕ)) → tree.Updates id_cmp was now id numbers
    → (q : Id) (k : ℕ) → is_in k (tree.get id_cmp now q) ≡ (if same_id id q then is_in k numbers else is_in k (tree.get id_cmp was q))
listed-put was now id numbers updates q k =
    ap (is_in k) (updates.0 q) ∙ pick (is_eq (id_cmp id q)) k numbers (tree.get id_cmp was q)
    ∙ ap (λ b. if b then is_in k numbers else is_in k (tree.get id_cmp was q)) (same-by_cmp id q)

set-changed : (old new : sorted.BTreeSet ℕ) (number : ℕ) (answer : Bool) → sorted.Updates nat_cmp old new number answer
    → (k : ℕ) → sorted.contains nat_cmp new k ≡ (if number == k then answer else sorted.contains nat_cmp old k)
set-changed old new number answer updates k = updates.0 k ∙ ap (λ b. if b then answer else sorted.contains nat_cmp old k) (sym (unsigned_ties number k))

both : (same hit : Bool) (here there answer : Bool) → (same ≡ true → there ≡ here)
    → (if same then (if hit then answer else here) else there) ≡ (if same && hit then answer else there)
both true true here there answer is = refl
both true false here there answer is = sym (is refl)
both false hit here there answer is = refl

pub listed-changed : (was now : tree.BTreeMap Id (sorted.BTreeSet ℕ)) (id : Id) (old new : sorted.BTreeSet ℕ) (number : ℕ) (answer : Bool)
    → ((k : ℕ) → is_in k (tree.get id_cmp was id) ≡ sorted.contains nat_cmp old k) → ((q : Id) (k : ℕ) → is_in k (tree.get id_cmp now q) ≡ (if same_id id q then sorted.contains nat_cmp new k else is_in k (tree.get id_cmp was q)))
    → sorted.Updates nat_cmp old new number answer
    → (q : Id) (k : ℕ) → is_in k (tree.get id_cmp now q) ≡ (if same_id id q && (number == k) then answer else is_in k (tree.get id_cmp was q))
listed-changed was now id old new number answer there put updates q k =
    put q k ∙ ap (λ b. if same_id id q then b else is_in k (tree.get id_cmp was q)) (set-changed old new number answer updates k)
    ∙ both (same_id id q) (number == k) (sorted.contains nat_cmp old k) (is_in k (tree.get id_cmp was q)) answer
    (λ same. ap (λ i. is_in k (tree.get id_cmp was i)) (sym (same-is id q same)) ∙ there k)

-- an id's numbers were written back as they were
pub listed-same : (was now : tree.BTreeMap Id (sorted.BTreeSet ℕ)) (id : Id) (old new : sorted.BTreeSet ℕ) → new.keys ≡ old.keys
    → ((k : ℕ) → is_in k (tree.get id_cmp was id) ≡ sorted.contains nat_cmp old k) → tree.Updates id_cmp was now id (Some new)
    → (q : Id) (k : ℕ) → is_in k (tree.get id_cmp now q) ≡ is_in k (tree.get id_cmp was q)
listed-same was now id old new keys there updates q k =
    listed-put was now id (Some new) updates q k
    ∙ ap (λ b. if same_id id q then b else is_in k (tree.get id_cmp was q)) (ap (list_any (is_at (nat_cmp k))) keys)
    ∙ either (same_id id q) (sorted.contains nat_cmp old k) (is_in k (tree.get id_cmp was q))
    (λ same. sym (there k) ∙ ap (λ i. is_in k (tree.get id_cmp was i)) (same-is id q same))

-- the last number of an id went, and then the id
pub listed-gone : (was between now : tree.BTreeMap Id (sorted.BTreeSet ℕ)) (id : Id) (old new : sorted.BTreeSet ℕ) (number : ℕ) → new.keys ≡ []
    → ((k : ℕ) → is_in k (tree.get id_cmp was id) ≡ sorted.contains nat_cmp old k) → tree.Updates id_cmp was between id (Some new) → tree.Updates id_cmp between now id None
    → sorted.Updates nat_cmp old new number false
    → (q : Id) (k : ℕ) → is_in k (tree.get id_cmp now q) ≡ (if same_id id q && (number == k) then false else is_in k (tree.get id_cmp was q))
listed-gone was between now id old new number none there put gone updates =
    listed-changed was now id old new number false there
    (λ q k. listed-put between now id None gone q k
    ∙ twice (same_id id q) (sorted.contains nat_cmp new k) (is_in k (tree.get id_cmp between q)) (is_in k (tree.get id_cmp was q)) (ap (list_any (is_at (nat_cmp k))) none)
    (listed-put was between id (Some new) put q k))
    updates
