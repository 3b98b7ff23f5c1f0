-- Entries on their pages.
use Rattle.std.proofs.Common.{◌≡◌, ℕ, zero, suc, ◌<◌, ◌≤◌, ◌==◌, ◌/◌, not, Bool, true, false, cond, List, [], ◌∷◌, ◌++◌, Option, Some, None, refl, sym, ap, subst, ◌∙◌, arith, length, append_assoc, eq-eqb, nat_lt, ◌&&◌, Bor}
use Rattle.std.proofs.lemmas.Bool.{eqb-true, eqb-false, ne_eqb, false_from_ne_true, ltb-true, lt-ltb}
use Rattle.std.proofs.lemmas.List.{append-nil, map-append}
use Rattle.std.proofs.lemmas.List.Elements.{filter-append}
use Rattle.std.specs.Map.{set_value, remove_entry}
use Rattle.std.specs.BTreeMap.{is_at}
use Rattle.std.specs.Ordering.{nat_cmp, is_le}
use Rattle.std.specs.Option.{unwrap_or, option_or, option_copied, IsSome, IfSome}
use Rattle.std.specs.List.{filter, find, slice_get, slice_index_or}
use Rattle.std.proofs.lemmas.List.Folds.{find-append}
use Rattle.std.specs.BTreeMap.Range.{range_contains, entries_between}
use Rattle.std.specs.declared.ops.Bound.TheVariants.{Included, Unbounded}
use Rattle.std.specs.declared.cmp.Ordering.TheVariants.{Less, Equal, Greater}
use Rattle.std.specs.declared.collections.VecDeque.{VecDeque}
use Rattle.std.specs.BTreeMap.{insert_entry}
use Rattle.number_windows.specs.Numbered.{at, without, changed_at, first_number, first_above, Above, Below, Ascending}
use Rattle.number_windows.specs.Windows.{flat, OnPage, Paged, Filled, IsPaged}
use Rattle.number_windows.proofs.Numbered.{changed, changed_above, without_above, removed, unchanged, pushed, keeps, at_above}
use Rattle.number_windows.proofs.Rows.{above_at, below_seam, at_over, at_behind, at_front, without_missing, ascending_front, ascending_behind, ascending_without, ascending_changed, ascending_push, at_changed}

true_not_false : true ≡ false → ⊥
true_not_false is = cc

abbrev pub Block : Type 0 → Type 0 → Type 0
Block X Z = VecDeque (ℕ × X) Z

-- what stands on a page
abbrev pub items_at : {X Z : Type 0} → Option (Block X Z) → List (ℕ × X)
items_at None = []
items_at (Some block) = block.items

-- ---- an entry stands on its page, and nowhere else

pub other_page : {X : Type 0} (n page : ℕ) (es : List (ℕ × X)) → OnPage page es → (n / 32 == page) ≡ false → at n es ≡ None
other_page n page [] on other = refl
other_page n page (e ∷ es) on other =
    let away : n / 32 ≡ page → ⊥ = eqb-false (n / 32) page other in
    ap (λ b. cond b (Some e.1) (at n es)) (ne_eqb n e.0 (λ same. away (ap (λ m. m / 32) same ∙ on.0))) ∙ other_page n page es on.1 other

miss_head : {X : Type 0} (b : Bool) (x : X) (o : Option X) → cond b (Some x) o ≡ None → b ≡ false
miss_head true x o none = cc
miss_head false x o none = refl

miss_tail : {X : Type 0} (b : Bool) (x : X) (o : Option X) → cond b (Some x) o ≡ None → o ≡ None
miss_tail true x o none = cc
miss_tail false x o none = none

pub no_page : {X Z : Type 0} (n : ℕ) (ps : List (ℕ × Block X Z)) → Paged ps → at (n / 32) ps ≡ None → at n (flat ps) ≡ None
no_page n [] paged none = refl
no_page n (p ∷ ps) paged none =
    at_behind n p.1.items (flat ps) (other_page n p.0 p.1.items paged.0 (miss_head (n / 32 == p.0) p.1 (at (n / 32) ps) none))
    ∙ no_page n ps paged.1 (miss_tail (n / 32 == p.0) p.1 (at (n / 32) ps) none)

-- on no page behind its own
pub not_behind : {X Z : Type 0} (n page : ℕ) (ps : List (ℕ × Block X Z)) → n / 32 ≡ page → Above page ps → Paged ps → at n (flat ps) ≡ None
not_behind n page ps is over paged = no_page n ps paged (at_over (n / 32) page ps (omega (arith, is)) over)

found_step : {X Z : Type 0} (b : Bool) (n : ℕ) (p : ℕ × Block X Z) (o : Option (Block X Z)) (rest : List (ℕ × X))
    → (b ≡ true → at n rest ≡ None) → (b ≡ false → at n p.1.items ≡ None) → at n rest ≡ at n (items_at o) → at n (p.1.items ++ rest) ≡ at n (items_at (cond b (Some p.1) o))
found_step true n p o rest here other is = at_front n p.1.items rest (here refl)
found_step false n p o rest here other is = at_behind n p.1.items rest (other refl) ∙ is

pub on_page : {X Z : Type 0} (n : ℕ) (ps : List (ℕ × Block X Z)) → Ascending ps → Paged ps → at n (flat ps) ≡ at n (items_at (at (n / 32) ps))
on_page n [] order paged = refl
on_page n (p ∷ ps) order paged =
    found_step (n / 32 == p.0) n p (at (n / 32) ps) (flat ps)
    (λ here. not_behind n p.0 ps (eqb-true (n / 32) p.0 here) order.0 paged.1)
    (λ other. other_page n p.0 p.1.items paged.0 other)
    (on_page n ps order.1 paged.1)

-- ---- an entry is changed, or goes: what does so with each of two lists does so with both together

edit_step : {X Z : Type 0} (b : Bool) (n : ℕ) (op : List (ℕ × X) → List (ℕ × X)) → ((a c : List (ℕ × X)) → op (a ++ c) ≡ op a ++ op c) → ((a : List (ℕ × X)) → at n a ≡ None → op a ≡ a)
    → (p : ℕ × Block X Z) (old new : Block X Z) (o : Option (Block X Z)) (ps qs : List (ℕ × Block X Z)) → cond b (Some p.1) o ≡ Some old → new.items ≡ op old.items
    → (b ≡ true → at n (flat ps) ≡ None) → (b ≡ true → qs ≡ ps) → (b ≡ false → at n p.1.items ≡ None) → (o ≡ Some old → flat qs ≡ op (flat ps))
    → flat ((p.0, cond b new p.1) ∷ qs) ≡ op (p.1.items ++ flat ps)
edit_step true n op split same p old new o ps qs there is none stays other rest =
    let block : p.1 ≡ old = ap (λ v. unwrap_or v old) there in
    ap (λ es. es ++ flat qs) (is ∙ ap (λ (d : Block _ _). op d.items) (sym block))
    ∙ ap (λ rs. op p.1.items ++ flat rs) (stays refl)
    ∙ ap (λ es. op p.1.items ++ es) (sym (same (flat ps) (none refl)))
    ∙ sym (split p.1.items (flat ps))
edit_step false n op split same p old new o ps qs there is none stays other rest =
    ap (λ es. p.1.items ++ es) (rest there)
    ∙ ap (λ es. es ++ op (flat ps)) (sym (same p.1.items (other refl)))
    ∙ sym (split p.1.items (flat ps))

pub edited : {X Z : Type 0} (n : ℕ) (op : List (ℕ × X) → List (ℕ × X)) → ((a c : List (ℕ × X)) → op (a ++ c) ≡ op a ++ op c) → ((a : List (ℕ × X)) → at n a ≡ None → op a ≡ a)
    → (ps : List (ℕ × Block X Z)) (old new : Block X Z) → Ascending ps → Paged ps → at (n / 32) ps ≡ Some old → new.items ≡ op old.items
    → flat (changed_at (n / 32) (λ _. new) ps) ≡ op (flat ps)
edited n op split same [] old new order paged there is = absurd (cc)
edited n op split same (p ∷ ps) old new order paged there is =
    edit_step (n / 32 == p.0) n op split same p old new (at (n / 32) ps) ps (changed_at (n / 32) (λ _. new) ps) there is
    (λ here. not_behind n p.0 ps (eqb-true (n / 32) p.0 here) order.0 paged.1)
    (λ here. changed_above (n / 32) (λ _. new) ps (subst (λ m. Above m ps) (sym (eqb-true (n / 32) p.0 here)) order.0))
    (λ other. other_page n p.0 p.1.items paged.0 other)
    (λ rest. edited n op split same ps old new order.1 paged.1 rest is)

-- ---- an empty page goes

drop_step : {X Z : Type 0} (b : Bool) (p : ℕ × Block X Z) (old : Block X Z) (o : Option (Block X Z)) (ps qs : List (ℕ × Block X Z)) → cond b (Some p.1) o ≡ Some old → old.items ≡ []
    → (b ≡ true → qs ≡ ps) → (o ≡ Some old → flat qs ≡ flat ps) → flat (cond (not b) (p ∷ qs) qs) ≡ p.1.items ++ flat ps
drop_step true p old o ps qs there none gone rest =
    let block : p.1 ≡ old = ap (λ v. unwrap_or v old) there in
    ap flat (gone refl) ∙ ap (λ es. es ++ flat ps) (sym (ap (λ (d : Block _ _). d.items) block ∙ none))
drop_step false p old o ps qs there none gone rest = ap (λ es. p.1.items ++ es) (rest there)

pub dropped : {X Z : Type 0} (page : ℕ) (ps : List (ℕ × Block X Z)) (old : Block X Z) → Ascending ps → at page ps ≡ Some old → old.items ≡ [] → flat (without page ps) ≡ flat ps
dropped page [] old order there none = refl
dropped page (p ∷ ps) old order there none =
    drop_step (page == p.0) p old (at page ps) ps (without page ps) there none
    (λ here. without_above page ps (subst (λ m. Above m ps) (sym (eqb-true page p.0 here)) order.0))
    (λ rest. dropped page ps old order.1 rest none)

-- ---- what holds of all pages

pub on_filter : {X : Type 0} (page : ℕ) (p : ℕ × X → Bool) (es : List (ℕ × X)) → OnPage page es → OnPage page (filter p es)
on_filter page p [] on = tt
on_filter page p (e ∷ es) on = keeps (p e) (λ fs. OnPage page fs) e (filter p es) (λ there. (on.0, there)) (on_filter page p es on.1)

pub on_changed : {X : Type 0} (page n : ℕ) (f : X → X) (es : List (ℕ × X)) → OnPage page es → OnPage page (changed_at n f es)
on_changed page n f [] on = tt
on_changed page n f (e ∷ es) on = (on.0, on_changed page n f es on.1)

pub on_push : {X : Type 0} (page n : ℕ) (x : X) (es : List (ℕ × X)) → n / 32 ≡ page → OnPage page es → OnPage page (es ++ (n, x) ∷ [])
on_push page n x [] is on = (is, tt)
on_push page n x (e ∷ es) is on = (on.0, on_push page n x es is on.1)

page_at_step : {X Z : Type 0} (b : Bool) (page : ℕ) (p : ℕ × Block X Z) (old : Block X Z) (o : Option (Block X Z)) → cond b (Some p.1) o ≡ Some old
    → (b ≡ true → OnPage page p.1.items) → (o ≡ Some old → OnPage page old.items) → OnPage page old.items
page_at_step true page p old o there here rest = subst (λ (d : Block _ _). OnPage page d.items) (ap (λ v. unwrap_or v old) there) (here refl)
page_at_step false page p old o there here rest = rest there

-- the entries of a page
pub page_at : {X Z : Type 0} (page : ℕ) (ps : List (ℕ × Block X Z)) (old : Block X Z) → Paged ps → at page ps ≡ Some old → OnPage page old.items
page_at page [] old paged there = absurd (cc)
page_at page (p ∷ ps) old paged there =
    page_at_step (page == p.0) page p old (at page ps) there
    (λ here. subst (λ m. OnPage m p.1.items) (sym (eqb-true page p.0 here)) paged.0)
    (λ rest. page_at page ps old paged.1 rest)

picked : {X : Type 0} (b : Bool) (P : X → Type 0) (x y : X) → (b ≡ true → P x) → P y → P (cond b x y)
picked true P x y here other = here refl
picked false P x y here other = other

pub paged_changed : {X Z : Type 0} (page : ℕ) (new : Block X Z) (ps : List (ℕ × Block X Z)) → OnPage page new.items → Paged ps → Paged (changed_at page (λ _. new) ps)
paged_changed page new [] on paged = tt
paged_changed page new (p ∷ ps) on paged =
    (picked (page == p.0) (λ (d : Block _ _). OnPage p.0 d.items) new p.1 (λ here. subst (λ m. OnPage m new.items) (eqb-true page p.0 here) on) paged.0, paged_changed page new ps on paged.1)

pub filled_changed : {X Z : Type 0} (page : ℕ) (new : Block X Z) (ps : List (ℕ × Block X Z)) → 0 < length new.items → Filled ps → Filled (changed_at page (λ _. new) ps)
filled_changed page new [] some filled = tt
filled_changed page new (p ∷ ps) some filled =
    (picked (page == p.0) (λ (d : Block _ _). 0 < length d.items) new p.1 (λ here. some) filled.0, filled_changed page new ps some filled.1)

pub paged_without : {X Z : Type 0} (page : ℕ) (ps : List (ℕ × Block X Z)) → Paged ps → Paged (without page ps)
paged_without page [] paged = tt
paged_without page (p ∷ ps) paged = keeps (not (page == p.0)) (λ qs. Paged qs) p (without page ps) (λ there. (paged.0, there)) (paged_without page ps paged.1)

filled_step : {X Z : Type 0} (b : Bool) (p : ℕ × Block X Z) (new : Block X Z) (qs : List (ℕ × Block X Z)) → 0 < length p.1.items → Filled qs → Filled (cond (not b) ((p.0, cond b new p.1) ∷ qs) qs)
filled_step true p new qs some filled = filled
filled_step false p new qs some filled = (some, filled)

-- the page that may be empty goes
pub filled_dropped : {X Z : Type 0} (page : ℕ) (new : Block X Z) (ps : List (ℕ × Block X Z)) → Filled ps → Filled (without page (changed_at page (λ _. new) ps))
filled_dropped page new [] filled = tt
filled_dropped page new (p ∷ ps) filled =
    filled_step (page == p.0) p new (without page (changed_at page (λ _. new) ps)) filled.0 (filled_dropped page new ps filled.1)

-- ---- an entry comes behind all others

some_below : {X : Type 0} (n page : ℕ) (es rest : List (ℕ × X)) → OnPage page es → 0 < length es → Below n (es ++ rest) → page ≤ n / 32
some_below n page [] rest on some under = absurd (omega arith)
some_below n page (e ∷ es) rest on some under =
    let lt : e.0 < n = under.0 in
    let is : e.0 / 32 ≡ page = on.0 in
    omega (arith, lt, is)

below_behind : {X : Type 0} (n : ℕ) (a b : List (ℕ × X)) → Below n (a ++ b) → Below n b
below_behind n [] b under = under
below_behind n (e ∷ a) b under = below_behind n a b under.1

pub below_front : {X : Type 0} (n : ℕ) (a b : List (ℕ × X)) → Below n (a ++ b) → Below n a
below_front n [] b under = tt
below_front n (e ∷ a) b under = (under.0, below_front n a b under.1)

none_behind : {X Z : Type 0} (n page : ℕ) (ps : List (ℕ × Block X Z)) → n / 32 ≡ page → Above page ps → Paged ps → Filled ps → Below n (flat ps) → ps ≡ []
none_behind n page [] is over paged filled under = refl
none_behind n page (p ∷ ps) is over paged filled under =
    let le : p.0 ≤ n / 32 = some_below n p.0 p.1.items (flat ps) paged.0 filled.0 under in
    let lt : page < p.0 = over.0 in
    absurd (omega (arith, le, lt, is))

push_step : {X Z : Type 0} (b : Bool) (n : ℕ) (x : X) (p : ℕ × Block X Z) (old new : Block X Z) (o : Option (Block X Z)) (ps qs : List (ℕ × Block X Z)) → cond b (Some p.1) o ≡ Some old
    → new.items ≡ old.items ++ (n, x) ∷ [] → (b ≡ true → qs ≡ []) → (b ≡ true → ps ≡ []) → (o ≡ Some old → flat qs ≡ flat ps ++ (n, x) ∷ [])
    → flat ((p.0, cond b new p.1) ∷ qs) ≡ (p.1.items ++ flat ps) ++ (n, x) ∷ []
push_step true n x p old new o ps qs there is none last rest =
    let block : p.1 ≡ old = ap (λ v. unwrap_or v old) there in
    ap (λ rs. new.items ++ flat rs) (none refl)
    ∙ append-nil new.items
    ∙ is
    ∙ ap (λ (d : Block _ _). d.items ++ (n, x) ∷ []) (sym block)
    ∙ ap (λ es. es ++ (n, x) ∷ []) (sym (ap (λ rs. p.1.items ++ flat rs) (last refl) ∙ append-nil p.1.items))
push_step false n x p old new o ps qs there is none last rest =
    ap (λ es. p.1.items ++ es) (rest there) ∙ sym (append_assoc p.1.items (flat ps) ((n, x) ∷ []))

-- on a page that has some
pub push_there : {X Z : Type 0} (n : ℕ) (x : X) (ps : List (ℕ × Block X Z)) (old new : Block X Z) → Ascending ps → Paged ps → Filled ps → Below n (flat ps) → at (n / 32) ps ≡ Some old
    → new.items ≡ old.items ++ (n, x) ∷ [] → flat (changed_at (n / 32) (λ _. new) ps) ≡ flat ps ++ (n, x) ∷ []
push_there n x [] old new order paged filled under there is = absurd (cc)
push_there {X} n x (p ∷ ps) old new order paged filled under there is =
    let behind : (n / 32 == p.0) ≡ true → ps ≡ [] = λ here. none_behind n p.0 ps (eqb-true (n / 32) p.0 here) order.0 paged.1 filled.1 (below_behind n p.1.items (flat ps) under) in
    push_step (n / 32 == p.0) n x p old new (at (n / 32) ps) ps (changed_at (n / 32) (λ _. new) ps) there is
    (λ here. ap (changed_at (n / 32) (λ _. new)) (behind here)) behind
    (λ rest. push_there n x ps old new order.1 paged.1 filled.1 (below_behind n p.1.items (flat ps) under) rest is)

flat_push : {X Z : Type 0} (p : ℕ × Block X Z) (ps : List (ℕ × Block X Z)) → flat (ps ++ p ∷ []) ≡ flat ps ++ p.1.items
flat_push p [] = append-nil p.1.items
flat_push p (q ∷ ps) = ap (λ es. q.1.items ++ es) (flat_push p ps) ∙ sym (append_assoc q.1.items (flat ps) p.1.items)

pages_below : {X Z : Type 0} (n : ℕ) (ps : List (ℕ × Block X Z)) → Paged ps → Filled ps → Below n (flat ps) → at (n / 32) ps ≡ None → Below (n / 32) ps
pages_below n [] paged filled under none = tt
pages_below n (p ∷ ps) paged filled under none =
    let le : p.0 ≤ n / 32 = some_below n p.0 p.1.items (flat ps) paged.0 filled.0 under in
    let ne : n / 32 ≡ p.0 → ⊥ = eqb-false (n / 32) p.0 (miss_head (n / 32 == p.0) p.1 (at (n / 32) ps) none) in
    (omega (arith, le, ne), pages_below n ps paged.1 filled.1 (below_behind n p.1.items (flat ps) under) (miss_tail (n / 32 == p.0) p.1 (at (n / 32) ps) none))

-- on a page of its own
pub push_new : {X Z : Type 0} (n : ℕ) (x : X) (ps : List (ℕ × Block X Z)) (new : Block X Z) → Paged ps → Filled ps → Below n (flat ps) → at (n / 32) ps ≡ None
    → new.items ≡ (n, x) ∷ [] → flat (insert_entry nat_cmp ps (n / 32) new) ≡ flat ps ++ (n, x) ∷ []
push_new n x ps new paged filled under none is =
    ap flat (pushed (n / 32) new ps (pages_below n ps paged filled under none)) ∙ flat_push (n / 32, new) ps ∙ ap (λ es. flat ps ++ es) is

paged_push : {X Z : Type 0} (p : ℕ × Block X Z) (ps : List (ℕ × Block X Z)) → OnPage p.0 p.1.items → Paged ps → Paged (ps ++ p ∷ [])
paged_push p [] on paged = (on, tt)
paged_push p (q ∷ ps) on paged = (paged.0, paged_push p ps on paged.1)

filled_push : {X Z : Type 0} (p : ℕ × Block X Z) (ps : List (ℕ × Block X Z)) → 0 < length p.1.items → Filled ps → Filled (ps ++ p ∷ [])
filled_push p [] some filled = (some, tt)
filled_push p (q ∷ ps) some filled = (filled.0, filled_push p ps some filled.1)

pub paged_new : {X Z : Type 0} (n : ℕ) (x : X) (ps : List (ℕ × Block X Z)) (new : Block X Z) → Paged ps → Filled ps → Below n (flat ps) → at (n / 32) ps ≡ None
    → new.items ≡ (n, x) ∷ [] → Paged (insert_entry nat_cmp ps (n / 32) new)
paged_new n x ps new paged filled under none is =
    subst (λ qs. Paged qs) (sym (pushed (n / 32) new ps (pages_below n ps paged filled under none)))
    (paged_push (n / 32, new) ps (subst (λ es. OnPage (n / 32) es) (sym is) (refl, tt)) paged)

pub filled_new : {X Z : Type 0} (n : ℕ) (x : X) (ps : List (ℕ × Block X Z)) (new : Block X Z) → Paged ps → Filled ps → Below n (flat ps) → at (n / 32) ps ≡ None
    → new.items ≡ (n, x) ∷ [] → Filled (insert_entry nat_cmp ps (n / 32) new)
filled_new n x ps new paged filled under none is =
    subst (λ qs. Filled qs) (sym (pushed (n / 32) new ps (pages_below n ps paged filled under none)))
    (filled_push (n / 32, new) ps (subst (λ es. 0 < length es) (sym is) (omega arith)) filled)

-- ---- the whole, after each change

pub block_order_step : {X Z : Type 0} (b : Bool) (p : ℕ × Block X Z) (old : Block X Z) (o : Option (Block X Z)) → cond b (Some p.1) o ≡ Some old
    → Ascending p.1.items → (o ≡ Some old → Ascending old.items) → Ascending old.items
block_order_step true p old o there here rest = subst (λ (d : Block _ _). Ascending d.items) (ap (λ v. unwrap_or v old) there) here
block_order_step false p old o there here rest = rest there

-- a page's own entries ascend
pub block_order : {X Z : Type 0} (page : ℕ) (ps : List (ℕ × Block X Z)) (old : Block X Z) → Ascending (flat ps) → at page ps ≡ Some old → Ascending old.items
block_order page [] old order there = absurd (cc)
block_order page (p ∷ ps) old order there =
    block_order_step (page == p.0) p old (at page ps) there (ascending_front p.1.items (flat ps) order)
    (λ rest. block_order page ps old (ascending_behind p.1.items (flat ps) order) rest)

-- what is done to the entry with a number, and to no other
pub record IsEdit {X : Type 0} (n : ℕ) (op : List (ℕ × X) → List (ℕ × X)) : Type 0 where
  pub split : (a c : List (ℕ × X)) → op (a ++ c) ≡ op a ++ op c
  pub same : (a : List (ℕ × X)) → at n a ≡ None → op a ≡ a
  pub ordered : (a : List (ℕ × X)) → Ascending a → Ascending (op a)
  pub on : (page : ℕ) (a : List (ℕ × X)) → OnPage page a → OnPage page (op a)

pub going : {X : Type 0} (n : ℕ) → IsEdit {X = X} n (without n)
going {X} n = record {
  split = λ a c. filter-append (λ (e : ℕ × X). not (n == e.0)) a c;
  same = λ a none. without_missing n a none;
  ordered = λ a order. ascending_without n a order;
  on = λ page a on. on_filter page (λ e. not (n == e.0)) a on;
}

pub putting : {X : Type 0} (n : ℕ) (x : X) → IsEdit n (changed_at n (λ _. x))
putting {X} n x = record {
  split = λ a c. map-append (λ (e : ℕ × X). (e.0, cond (n == e.0) x e.1)) a c;
  same = λ a none. sym (unchanged n (λ _. x) a none);
  ordered = λ a order. ascending_changed n (λ _. x) a order;
  on = λ page a on. on_changed page n (λ _. x) a on;
}

pub edited_flat : {X Z : Type 0} (n : ℕ) (op : List (ℕ × X) → List (ℕ × X)) (ps now : List (ℕ × Block X Z)) (old new : Block X Z) → IsEdit n op → IsPaged ps → at (n / 32) ps ≡ Some old
    → new.items ≡ op old.items → now ≡ set_value (is_at (nat_cmp (n / 32))) ps new → flat now ≡ op (flat ps)
edited_flat n op ps now old new edit whole there is put =
    ap flat (put ∙ changed (n / 32) (λ _. new) old ps whole.sorted there) ∙ edited n op edit.split edit.same ps old new whole.sorted whole.paged there is

pub edited_whole : {X Z : Type 0} (n : ℕ) (op : List (ℕ × X) → List (ℕ × X)) (ps now : List (ℕ × Block X Z)) (old new : Block X Z) → IsEdit n op → IsPaged ps → at (n / 32) ps ≡ Some old
    → new.items ≡ op old.items → now ≡ set_value (is_at (nat_cmp (n / 32))) ps new → Ascending now → 0 < length new.items → IsPaged now
edited_whole n op ps now old new edit whole there is put order some =
    let now_is : now ≡ changed_at (n / 32) (λ _. new) ps = put ∙ changed (n / 32) (λ _. new) old ps whole.sorted there in
    record {
      ordered = subst Ascending (sym (edited_flat n op ps now old new edit whole there is put)) (edit.ordered (flat ps) whole.ordered);
      sorted = order;
      paged = subst (λ qs. Paged qs) (sym now_is)
          (paged_changed (n / 32) new ps (subst (λ es. OnPage (n / 32) es) (sym is) (edit.on (n / 32) old.items (page_at (n / 32) ps old whole.paged there))) whole.paged);
      filled = subst (λ qs. Filled qs) (sym now_is) (filled_changed (n / 32) new ps some whole.filled);
    }

-- where nothing is left of the page, it goes
pub dropped_flat : {X Z : Type 0} (n : ℕ) (op : List (ℕ × X) → List (ℕ × X)) (ps between now : List (ℕ × Block X Z)) (old new : Block X Z) → IsEdit n op → IsPaged ps → at (n / 32) ps ≡ Some old
    → new.items ≡ op old.items → between ≡ set_value (is_at (nat_cmp (n / 32))) ps new → Ascending between → at (n / 32) between ≡ Some new → new.items ≡ []
    → now ≡ remove_entry (is_at (nat_cmp (n / 32))) between → flat now ≡ op (flat ps)
dropped_flat n op ps between now old new edit whole there is put order here none gone =
    ap flat (gone ∙ removed (n / 32) between order) ∙ dropped (n / 32) between new order here none ∙ edited_flat n op ps between old new edit whole there is put

pub dropped_whole : {X Z : Type 0} (n : ℕ) (op : List (ℕ × X) → List (ℕ × X)) (ps between now : List (ℕ × Block X Z)) (old new : Block X Z) → IsEdit n op → IsPaged ps → at (n / 32) ps ≡ Some old
    → new.items ≡ op old.items → between ≡ set_value (is_at (nat_cmp (n / 32))) ps new → Ascending between → at (n / 32) between ≡ Some new → new.items ≡ []
    → now ≡ remove_entry (is_at (nat_cmp (n / 32))) between → Ascending now → IsPaged now
dropped_whole n op ps between now old new edit whole there is put order here none gone order_now =
    let between_is : between ≡ changed_at (n / 32) (λ _. new) ps = put ∙ changed (n / 32) (λ _. new) old ps whole.sorted there in
    let now_is : now ≡ without (n / 32) (changed_at (n / 32) (λ _. new) ps) = gone ∙ removed (n / 32) between order ∙ ap (without (n / 32)) between_is in
    record {
      ordered = subst Ascending (sym (dropped_flat n op ps between now old new edit whole there is put order here none gone)) (edit.ordered (flat ps) whole.ordered);
      sorted = order_now;
      paged = subst (λ qs. Paged qs) (sym now_is)
          (paged_without (n / 32) (changed_at (n / 32) (λ _. new) ps)
          (paged_changed (n / 32) new ps (subst (λ es. OnPage (n / 32) es) (sym is) (edit.on (n / 32) old.items (page_at (n / 32) ps old whole.paged there))) whole.paged));
      filled = subst (λ qs. Filled qs) (sym now_is) (filled_dropped (n / 32) new ps whole.filled);
    }

pub pushed_flat : {X Z : Type 0} (e : ℕ × X) (ps now : List (ℕ × Block X Z)) (old new : Block X Z) → IsPaged ps → Below e.0 (flat ps) → at (e.0 / 32) ps ≡ Some old
    → new.items ≡ old.items ++ e ∷ [] → now ≡ set_value (is_at (nat_cmp (e.0 / 32))) ps new → flat now ≡ flat ps ++ e ∷ []
pushed_flat e ps now old new whole under there is put =
    ap flat (put ∙ changed (e.0 / 32) (λ _. new) old ps whole.sorted there) ∙ push_there e.0 e.1 ps old new whole.sorted whole.paged whole.filled under there is

pub pushed_whole : {X Z : Type 0} (e : ℕ × X) (ps now : List (ℕ × Block X Z)) (old new : Block X Z) → IsPaged ps → Below e.0 (flat ps) → at (e.0 / 32) ps ≡ Some old
    → new.items ≡ old.items ++ e ∷ [] → now ≡ set_value (is_at (nat_cmp (e.0 / 32))) ps new → Ascending now → 0 < length new.items → IsPaged now
pushed_whole e ps now old new whole under there is put order some =
    let now_is : now ≡ changed_at (e.0 / 32) (λ _. new) ps = put ∙ changed (e.0 / 32) (λ _. new) old ps whole.sorted there in
    record {
      ordered = subst Ascending (sym (pushed_flat e ps now old new whole under there is put)) (ascending_push e.0 e.1 (flat ps) whole.ordered under);
      sorted = order;
      paged = subst (λ qs. Paged qs) (sym now_is)
          (paged_changed (e.0 / 32) new ps (subst (λ es. OnPage (e.0 / 32) es) (sym is) (on_push (e.0 / 32) e.0 e.1 old.items refl (page_at (e.0 / 32) ps old whole.paged there))) whole.paged);
      filled = subst (λ qs. Filled qs) (sym now_is) (filled_changed (e.0 / 32) new ps some whole.filled);
    }

pub new_whole : {X Z : Type 0} (e : ℕ × X) (ps now : List (ℕ × Block X Z)) (new : Block X Z) → IsPaged ps → Below e.0 (flat ps) → at (e.0 / 32) ps ≡ None
    → new.items ≡ e ∷ [] → now ≡ insert_entry nat_cmp ps (e.0 / 32) new → Ascending now → IsPaged now
new_whole e ps now new whole under none is put order = record {
  ordered = subst Ascending (sym (ap flat put ∙ push_new e.0 e.1 ps new whole.paged whole.filled under none is)) (ascending_push e.0 e.1 (flat ps) whole.ordered under);
  sorted = order;
  paged = subst (λ qs. Paged qs) (sym put) (paged_new e.0 e.1 ps new whole.paged whole.filled under none is);
  filled = subst (λ qs. Filled qs) (sym put) (filled_new e.0 e.1 ps new whole.paged whole.filled under none is);
}

-- nothing is done
pub staying : {X : Type 0} (n : ℕ) → IsEdit {X = X} n (λ es. es)
staying n = record {
  split = λ a c. refl;
  same = λ a none. refl;
  ordered = λ a order. order;
  on = λ page a on. on;
}

pub found_on : {X Z : Type 0} (n : ℕ) (ps : List (ℕ × Block X Z)) (old : Block X Z) → IsPaged ps → at (n / 32) ps ≡ Some old → at n (flat ps) ≡ at n old.items
found_on n ps old whole there = on_page n ps whole.sorted whole.paged ∙ ap (λ o. at n (items_at o)) there

filled_at_step : {X Z : Type 0} (b : Bool) (p : ℕ × Block X Z) (old : Block X Z) (o : Option (Block X Z)) → cond b (Some p.1) o ≡ Some old
    → 0 < length p.1.items → (o ≡ Some old → 0 < length old.items) → 0 < length old.items
filled_at_step true p old o there here rest = subst (λ (d : Block _ _). 0 < length d.items) (ap (λ v. unwrap_or v old) there) here
filled_at_step false p old o there here rest = rest there

pub filled_at : {X Z : Type 0} (page : ℕ) (ps : List (ℕ × Block X Z)) (old : Block X Z) → Filled ps → at page ps ≡ Some old → 0 < length old.items
filled_at page [] old filled there = absurd (cc)
filled_at page (p ∷ ps) old filled there = filled_at_step (page == p.0) p old (at page ps) there filled.0 (λ rest. filled_at page ps old filled.1 rest)

pub no_items : {X : Type 0} (es : List X) → length es ≡ 0 → es ≡ []
no_items [] none = refl
no_items (e ∷ es) none = absurd (omega arith)

-- ---- the first, and the next

first_in : {X : Type 0} (a b : List (ℕ × X)) (e : ℕ × X) → 0 < length a → e ≡ slice_index_or a 0 e → Some e.0 ≡ first_number (a ++ b)
first_in [] b e some is = absurd (omega arith)
first_in (x ∷ a) b e some is = ap (λ y. Some y.0) is

pub first_some : {X Z : Type 0} (ps : List (ℕ × Block X Z)) (page : ℕ) (block : Block X Z) (e : ℕ × X) → slice_get ps 0 ≡ Some (page, block) → 0 < length block.items
    → e ≡ slice_index_or block.items 0 e → Some e.0 ≡ first_number (flat ps)
first_some [] page block e there some is = cc
first_some (p ∷ ps) page block e there some is =
    let same : p ≡ (page, block) = cc in
    let here : p.1 ≡ block = ap (λ d. d.1) same in
    first_in p.1.items (flat ps) e (subst (λ (d : Block _ _). 0 < length d.items) (sym here) some) (subst (λ (d : Block _ _). e ≡ slice_index_or d.items 0 e) (sym here) is)

pub some_first : {X Z : Type 0} (ps : List (ℕ × Block X Z)) (page : ℕ) (block : Block X Z) → Filled ps → slice_get ps 0 ≡ Some (page, block) → 0 < length block.items
some_first [] page block filled there = cc
some_first (p ∷ ps) page block filled there =
    let same : p ≡ (page, block) = cc in
    let here : p.1 ≡ block = ap (λ d. d.1) same in
    subst (λ (d : Block _ _). 0 < length d.items) here filled.0

pub first_none : {X Z : Type 0} (ps : List (ℕ × Block X Z)) → length ps ≡ 0 → None ≡ first_number (flat ps)
first_none [] none = refl
first_none (p ∷ ps) none = absurd (omega arith)

-- ---- what stands there once a page is written back

pub put_back : {X Z : Type 0} (page : ℕ) (ps between : List (ℕ × Block X Z)) (old new : Block X Z) → IsPaged ps → at page ps ≡ Some old
    → between ≡ set_value (is_at (nat_cmp page)) ps new → at page between ≡ Some new
put_back page ps between old new whole there put =
    ap (at page) (put ∙ changed page (λ _. new) old ps whole.sorted there)
    ∙ at_changed page page (λ _. new) old ps there
    ∙ ap (λ b. cond b (Some new) (at page ps)) (eq-eqb page page refl)

-- ---- the next

or_front : {X : Type 0} (o p : Option X) (e : X) → Some e ≡ o → Some e ≡ option_or o p
or_front None p e is = cc
or_front (Some f) p e is = is

or_behind : {X : Type 0} (o p : Option X) → None ≡ o → p ≡ option_or o p
or_behind None p is = refl
or_behind (Some e) p is = cc

pub front_above : {X : Type 0} (after : ℕ) (e : ℕ × X) (a b : List (ℕ × X)) → Some e ≡ first_above after a → Some e ≡ first_above after (a ++ b)
front_above {X} after e a b is =
    let p = λ (x : ℕ × X). nat_lt after x.0 in
    or_front (find p a) (find p b) e is ∙ sym (find-append p a b)

pub rest_above : {X : Type 0} (after : ℕ) (a b : List (ℕ × X)) → None ≡ first_above after a → first_above after b ≡ first_above after (a ++ b)
rest_above {X} after a b is =
    let p = λ (x : ℕ × X). nat_lt after x.0 in
    or_behind (find p a) (find p b) is ∙ sym (find-append p a b)

not_over : (after n : ℕ) → n ≤ after → nat_lt after n ≡ false
not_over after n le = false_from_ne_true (nat_lt after n) (λ over. let less : after < n = ltb-true after n over in omega arith)

-- none of those below a number that is at most the other is above that one
pub none_over : {X : Type 0} (after m : ℕ) (es : List (ℕ × X)) → m ≤ after → Below m es → first_above after es ≡ None
none_over after m [] le under = refl
none_over after m (e ∷ es) le under =
    let lt : e.0 < m = under.0 in
    ap (λ b. cond b (Some e) (first_above after es)) (not_over after e.0 (omega arith)) ∙ none_over after m es le under.1

head_above : {X : Type 0} (m : ℕ) (es : List (ℕ × X)) → Above m es → first_above m es ≡ slice_get es 0
head_above m [] over = refl
head_above m (e ∷ es) over = ap (λ b. cond b (Some e) (first_above m es)) (lt-ltb m e.0 over.0)

-- behind the entry with a number
pub index_above : {X : Type 0} (n i : ℕ) (es : List (ℕ × X)) → Ascending es → i < length es → ((d : ℕ × X) → (slice_index_or es i d).0 ≡ n) → first_above n es ≡ slice_get es (suc i)
index_above n i [] order lt is = absurd (omega arith)
index_above n zero (e ∷ es) order lt is =
    let here : e.0 ≡ n = is e in
    ap (λ b. cond b (Some e) (first_above n es)) (not_over n e.0 (omega (arith, here))) ∙ head_above n es (subst (λ m. Above m es) here order.0)
index_above n (suc i) (e ∷ es) order lt is =
    let under : i < length es = omega arith in
    let less : e.0 < (slice_index_or es i e).0 = above_at e.0 es i e order.0 under in
    ap (λ b. cond b (Some e) (first_above n es)) (not_over n e.0 (omega (arith, less, is e))) ∙ index_above n i es order.1 under is

-- where a second list begins at most at the number, none of the first is above it
pub none_before : {X : Type 0} (after : ℕ) (a b : List (ℕ × X)) → Ascending (a ++ b) → 0 < length b → ((d : ℕ × X) → (slice_index_or b 0 d).0 ≤ after) → None ≡ first_above after a
none_before after a [] order some is = absurd (omega arith)
none_before after a (e ∷ b) order some is = sym (none_over after e.0 a (is e) (below_seam a (e ∷ b) 0 e order some))

past : {X : Type 0} (i : ℕ) (es : List X) → length es ≤ i → None ≡ slice_get es i
past i [] le = refl
past zero (e ∷ es) le = absurd (omega arith)
past (suc i) (e ∷ es) le = past i es (omega arith)

within : {X : Type 0} (i : ℕ) (es : List X) (e : X) → i < length es → Some (slice_index_or es i e) ≡ slice_get es i
within i [] e lt = absurd (omega arith)
within zero (f ∷ es) e lt = refl
within (suc i) (f ∷ es) e lt = within i es e (omega arith)

-- what is got at an index
pub got_at : {X : Type 0} (r : Option (Bor X)) (i : ℕ) (es : List X) → (IsSome r → i < length es) → (i < length es → IsSome r) → IfSome r (λ x. x.now ≡ slice_index_or es i x.now)
    → option_copied r ≡ slice_get es i
got_at None i es some all is =
    past i es (omega (arith, (λ (lt : i < length es). let no : false ≡ true = all lt in true_not_false (sym no))))
got_at (Some x) i es some all is = ap Some is ∙ within i es x.now (some refl)

none_above : {X : Type 0} (after page : ℕ) (es : List (ℕ × X)) → OnPage page es → page < after / 32 → find (λ e. nat_lt after e.0) es ≡ None
none_above after page [] on lt = refl
none_above after page (e ∷ es) on lt =
    let is : e.0 / 32 ≡ page = on.0 in
    ap (λ b. cond b (Some e) (find (λ x. nat_lt after x.0) es)) (false_from_ne_true (nat_lt after e.0) (λ over. let less : after < e.0 = ltb-true after e.0 over in omega (arith, lt, is, less)))
    ∙ none_above after page es on.1 lt

is_le_of : (x y : Bool) → is_le (cond x Less (cond y Equal Greater)) ≡ cond x true y
is_le_of true y = refl
is_le_of false true = refl
is_le_of false false = refl

either_false : (x y : Bool) → cond x true y ≡ false → (x ≡ false) × (y ≡ false)
either_false true y is = cc
either_false false y is = (refl, is)

and_left_false : (b : Bool) → (b && true) ≡ false → b ≡ false
and_left_false true is = cc
and_left_false false is = refl

before : (page k : ℕ) → range_contains nat_cmp (Included page) Unbounded k ≡ false → k < page
before page k out =
    let both = either_false (nat_lt page k) (page == k) (sym (is_le_of (nat_lt page k) (page == k)) ∙ and_left_false (is_le (nat_cmp page k)) out) in
    let not_less : page < k → ⊥ = λ lt. true_not_false (sym (lt-ltb page k lt) ∙ both.0) in
    let not_same : page ≡ k → ⊥ = eqb-false page k both.1 in
    omega (arith, not_less, not_same)

skip_step : {X Z : Type 0} (b : Bool) (after : ℕ) (p : ℕ × Block X Z) (ps qs : List (ℕ × Block X Z)) → (b ≡ false → find (λ e. nat_lt after e.0) p.1.items ≡ None)
    → find (λ e. nat_lt after e.0) (flat ps) ≡ find (λ e. nat_lt after e.0) (flat qs)
    → find (λ e. nat_lt after e.0) (p.1.items ++ flat ps) ≡ find (λ e. nat_lt after e.0) (flat (cond b (p ∷ qs) qs))
skip_step {X} true after p ps qs none rest =
    let test = λ (e : ℕ × X). nat_lt after e.0 in
    find-append test p.1.items (flat ps) ∙ ap (λ o. option_or (find test p.1.items) o) rest ∙ sym (find-append test p.1.items (flat qs))
skip_step {X} false after p ps qs none rest =
    let test = λ (e : ℕ × X). nat_lt after e.0 in
    find-append test p.1.items (flat ps) ∙ ap (λ o. option_or o (find test (flat ps))) (none refl) ∙ rest

skipped : {X Z : Type 0} (after : ℕ) (ps : List (ℕ × Block X Z)) → Paged ps
    → find (λ e. nat_lt after e.0) (flat ps) ≡ find (λ e. nat_lt after e.0) (flat (entries_between nat_cmp (Included (after / 32)) Unbounded ps))
skipped after [] paged = refl
skipped after (p ∷ ps) paged =
    skip_step (range_contains nat_cmp (Included (after / 32)) Unbounded p.0) after p ps (entries_between nat_cmp (Included (after / 32)) Unbounded ps)
    (λ out. none_above after p.0 p.1.items paged.0 (before (after / 32) p.0 out)) (skipped after ps paged.1)

-- what is above a number stands on its page or behind
pub above_part : {X Z : Type 0} (after : ℕ) (ps part : List (ℕ × Block X Z)) → Paged ps → part ≡ entries_between nat_cmp (Included (after / 32)) Unbounded ps
    → first_above after (flat ps) ≡ first_above after (flat part)
above_part after ps part paged is = skipped after ps paged ∙ ap (λ qs. first_above after (flat qs)) (sym is)

page_step : {X Z : Type 0} (b : Bool) (after : ℕ) (e : ℕ × X) (p : ℕ × Block X Z) (ps : List (ℕ × Block X Z)) (block : Block X Z) (o : Option (Block X Z)) → cond b (Some p.1) o ≡ Some block
    → Some e ≡ first_above after block.items → (o ≡ Some block → None ≡ first_above after p.1.items) → (o ≡ Some block → Some e ≡ first_above after (flat ps))
    → Some e ≡ first_above after (p.1.items ++ flat ps)
page_step true after e p ps block o there is none rest =
    let here : p.1 ≡ block = cc in
    front_above after e p.1.items (flat ps) (subst (λ (d : Block _ _). Some e ≡ first_above after d.items) (sym here) is)
page_step false after e p ps block o there is none rest = rest there ∙ rest_above after p.1.items (flat ps) (none there)

-- and first on its page
pub page_above : {X Z : Type 0} (after : ℕ) (e : ℕ × X) (ps : List (ℕ × Block X Z)) (block : Block X Z) → Ascending ps → Paged ps → at (after / 32) ps ≡ Some block
    → Some e ≡ first_above after block.items → Some e ≡ first_above after (flat ps)
page_above after e [] block order paged there is = cc
page_above after e (p ∷ ps) block order paged there is =
    page_step ((after / 32) == p.0) after e p ps block (at (after / 32) ps) there is
    (λ rest. sym (none_above after p.0 p.1.items paged.0 (at_above p.0 (after / 32) block ps order.0 rest)))
    (λ rest. page_above after e ps block order.1 paged.1 rest is)
