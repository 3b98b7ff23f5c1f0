-- The oldest content with something, by its number and by its place in the list.
use Rattle.std.proofs.Common.{◌≡◌, ℕ, zero, suc, ◌<◌, ◌≤◌, ◌==◌, ◌||◌, not, Bool, true, false, cond, if◌then◌else◌, List, [], ◌∷◌, Option, Some, None, refl, ap, sym, subst, ◌∙◌, arith, nat_le, position, eq-eqb, option_map}
use Rattle.std.specs.List.{list_any, position_or_len}
use Rattle.std.specs.Prelude.{is_some}
use Rattle.std.specs.Option.{option_map_or, option_and_then}
use Rattle.std.proofs.lemmas.Bool.{eqb-true, eqb-false, leb-true, leb-false}
use Rattle.number_windows.specs.Numbered.{at, without, changed_at, Above, Ascending}
use Rattle.number_windows.proofs.Numbered.{apart_after, at_above, without_above, changed_above}
use Rattle.conversation_ids.specs.Ways.{fits}
use Rattle.conversation_ids.specs.declared.ways.Way.{Way}
use Rattle.conversation_contents.proofs.Lists.{at_index, behind, here, position-first, position_is_place, removed_is}
use Rattle.conversation_dues.specs.Found.{first_of, target_at, whole_if}
use Rattle.conversation_contents.specs.Left.{index_of}
use Rattle.conversation_dues.specs.declared.targets.Place.TheVariants as places
use Rattle.conversation_open.specs.Open.{contents_of, settled_at, IsNoneBetween, IsNoneBehind}
use Rattle.conversation_contents.specs.Settled.{place_at, and_removed, is_empty}
use Rattle.conversation_reading.specs.declared.entry.WrittenId.{WrittenId}
use Rattle.conversation_rules.specs.Dues.{settled, settled_entry, fit_in, found}
use Rattle.conversation_rules.specs.Matching.{oldest, place_in, later}
use Rattle.conversation_rules.specs.Owed.{Owed, Due}
use Rattle.conversation_rules.specs.declared.found.Found.TheVariants.{Entry}
use Rattle.conversation_rules.specs.declared.found.Target.{Target}
use Rattle.conversation_rules.specs.declared.found.Target.TheVariants.{EntryOf, WholeOf}

-- ---- the first

pub first_none : (f : Due → Option ℕ) (es : List (ℕ × Due)) → Ascending es → ((n : ℕ) (x : Due) → at n es ≡ Some x → f x ≡ None) → first_of f es ≡ None
first_none f [] order fails = refl
first_none f (e ∷ es) order fails =
    ap (λ o. option_map_or (λ p. Some (e.0, p)) o (first_of f es)) (fails e.0 e.1 (here e es)) ∙ first_none f es order.1 (λ n x is. fails n x (behind e es n x order.0 is))

pub first_found : (f : Due → Option ℕ) (k p : ℕ) (x : Due) (es : List (ℕ × Due)) → Ascending es → at k es ≡ Some x → f x ≡ Some p → ((n : ℕ) (y : Due) → n < k → at n es ≡ Some y → f y ≡ None) → first_of f es ≡ Some (k, p)
first_found f k p x [] order is passes fails = cc
first_found f k p x (e ∷ es) order is passes fails = from (k == e.0) refl is (λ it. first_found f k p x es order.1 it passes (λ n y lt there. fails n y lt (behind e es n y order.0 there)))
  where
    from : (b : Bool) → (k == e.0) ≡ b → cond b (Some e.1) (at k es) ≡ Some x → (at k es ≡ Some x → first_of f es ≡ Some (k, p)) → option_map_or (λ at. Some (e.0, at)) (f e.1) (first_of f es) ≡ Some (k, p)
    from true same it rest =
        let value : e.1 ≡ x = cc in
        ap (λ o. option_map_or (λ at. Some (e.0, at)) o (first_of f es)) (ap f value ∙ passes) ∙ ap (λ n. Some (n, p)) (sym (eqb-true k e.0 same))
    from false other it rest =
        ap (λ o. option_map_or (λ at. Some (e.0, at)) o (first_of f es)) (fails e.0 e.1 (at_above e.0 k x es order.0 it) (here e es)) ∙ rest it

-- what is found is above what all are above
above_by : (m : ℕ) (e : ℕ × Due) (o : Option ℕ) (rest : Option (ℕ × ℕ)) (n p : ℕ) → m < e.0 → option_map_or (λ at. Some (e.0, at)) o rest ≡ Some (n, p) → (rest ≡ Some (n, p) → m < n) → m < n
above_by m e (Some spot) rest n p over is others = let same : e.0 ≡ n = ap (λ o. option_map_or (λ x. x.0) o e.0) is in omega arith
above_by m e None rest n p over is others = others is

first_above : (f : Due → Option ℕ) (m n p : ℕ) (es : List (ℕ × Due)) → Above m es → first_of f es ≡ Some (n, p) → m < n
first_above f m n p [] above is = cc
first_above f m n p (e ∷ es) above is = above_by m e (f e.1) (first_of f es) n p above.0 is (λ rest. first_above f m n p es above.1 rest)

-- ---- by its place

apart_index : (n : ℕ) (e : ℕ × Due) (es : List (ℕ × Due)) → e.0 < n → index_of n (e ∷ es) ≡ suc (index_of n es)
apart_index n e es over = ap (λ b. if b then zero else suc (index_of n es)) (apart_after n e.0 over)

same_index : (e : ℕ × Due) (es : List (ℕ × Due)) → index_of e.0 (e ∷ es) ≡ zero
same_index e es = ap (λ b. if b then zero else suc (index_of e.0 es)) (eq-eqb e.0 e.0 refl)

abbrev pub entry_at : List (ℕ × Due) → ℕ × ℕ → Target
entry_at es found = EntryOf (index_of found.0 es) found.1

later_by : (f : Due → Option ℕ) (e : ℕ × Due) (es : List (ℕ × Due)) (o : Option (ℕ × ℕ)) → Above e.0 es → first_of f es ≡ o → option_map later (option_map (entry_at es) o) ≡ option_map (entry_at (e ∷ es)) o
later_by f e es None above is = refl
later_by f e es (Some found) above is = ap (λ i. Some (EntryOf i found.1)) (sym (apart_index found.0 e es (first_above f e.0 found.0 found.1 es above is)))

oldest_by : (e : ℕ × Due) (es : List (ℕ × Due)) (o : Option ℕ) (rest others : Option Target) (found : Option (ℕ × ℕ)) → rest ≡ option_map (entry_at (e ∷ es)) found →
    option_map_or (λ place. Some (EntryOf 0 place)) o rest ≡ option_map (entry_at (e ∷ es)) (option_map_or (λ at. Some (e.0, at)) o found)
oldest_by e es (Some place) rest others found is = ap (λ i. Some (EntryOf i place)) (sym (same_index e es))
oldest_by e es None rest others found is = is

pub oldest_is : (batches : Bool) (fits : Owed → Bool) (es : List (ℕ × Due)) → Ascending es → oldest batches fits (contents_of es) ≡ option_map (entry_at es) (first_of (place_in batches fits) es)
oldest_is batches fits [] order = refl
oldest_is batches fits (e ∷ es) order =
    oldest_by e es (place_in batches fits e.1) (option_map later (oldest batches fits (contents_of es))) None (first_of (place_in batches fits) es)
    (ap (option_map later) (oldest_is batches fits es order.1) ∙ later_by (place_in batches fits) e es (first_of (place_in batches fits) es) order.0 refl)

abbrev index_at : List (ℕ × Due) → ℕ × ℕ → ℕ
index_at es found = index_of found.0 es

suc_by : (f : Due → Option ℕ) (e : ℕ × Due) (es : List (ℕ × Due)) (o : Option (ℕ × ℕ)) → Above e.0 es → first_of f es ≡ o → option_map suc (option_map (index_at es) o) ≡ option_map (index_at (e ∷ es)) o
suc_by f e es None above is = refl
suc_by f e es (Some found) above is = ap Some (sym (apart_index found.0 e es (first_above f e.0 found.0 found.1 es above is)))

position_by : (e : ℕ × Due) (es : List (ℕ × Due)) (b : Bool) (rest : Option ℕ) (found : Option (ℕ × ℕ)) → rest ≡ option_map (index_at (e ∷ es)) found →
    cond b (Some 0) rest ≡ option_map (index_at (e ∷ es)) (option_map_or (λ at. Some (e.0, at)) (if b then Some 0 else None) found)
position_by e es true rest found is = ap Some (sym (same_index e es))
position_by e es false rest found is = is

pub position_is : (p : Due → Bool) (es : List (ℕ × Due)) → Ascending es → position p (contents_of es) ≡ option_map (index_at es) (first_of (whole_if p) es)
position_is p [] order = refl
position_is p (e ∷ es) order =
    position-first p e.1 (contents_of es)
    ∙ position_by e es (p e.1) (option_map suc (position p (contents_of es))) (first_of (whole_if p) es)
    (ap (option_map suc) (position_is p es order.1) ∙ suc_by (whole_if p) e es (first_of (whole_if p) es) order.0 refl)

any_step : (e : ℕ × Due) (b rest : Bool) (found : Option (ℕ × ℕ)) → is_some found ≡ rest → is_some (option_map_or (λ at. Some (e.0, at)) (if b then Some 0 else None) found) ≡ (b || rest)
any_step e true rest found is = refl
any_step e false rest found is = is

pub any_is : (p : Due → Bool) (es : List (ℕ × Due)) → is_some (first_of (whole_if p) es) ≡ list_any p (contents_of es)
any_is p [] = refl
any_is p (e ∷ es) = any_step e (p e.1) (list_any p (contents_of es)) (first_of (whole_if p) es) (any_is p es)

-- by its number alone
pub found_some : (o : Option (ℕ × ℕ)) → is_some (option_map (λ found. found.0) o) ≡ is_some o
found_some None = refl
found_some (Some found) = refl

pub whole_found : (es : List (ℕ × Due)) (number : Option ℕ) (o : Option (ℕ × ℕ)) → number ≡ option_map (λ found. found.0) o → option_map (λ n. WholeOf (index_of n es)) number ≡ option_map (λ found. WholeOf (index_of found.0 es)) o
whole_found es number None is = ap (option_map (λ n. WholeOf (index_of n es))) is
whole_found es number (Some found) is = ap (option_map (λ n. WholeOf (index_of n es))) is

-- ---- what stands there

keeps : (b : Bool) (n place : ℕ) (e : ℕ × Due) (es : List (ℕ × Due)) → contents_of (if b then e ∷ without n es else e ∷ changed_at n (and_removed place) es) ≡ e.1 ∷ contents_of (if b then without n es else changed_at n (and_removed place) es)
keeps true n place e es = refl
keeps false n place e es = refl

ends : (b : Bool) (place : ℕ) (e : ℕ × Due) (es : List (ℕ × Due)) → (if b then contents_of es else and_removed place e.1 ∷ contents_of es) ≡ contents_of (if b then es else (e.0, and_removed place e.1) ∷ es)
ends true place e es = refl
ends false place e es = refl

settled_step : (b : Bool) (n place : ℕ) (e : ℕ × Due) (es : List (ℕ × Due)) → (b ≡ true → Above n es) → settled_entry (index_of n es) place (contents_of es) ≡ contents_of (settled_at n place es) →
    settled_entry (if b then zero else suc (index_of n es)) place (contents_of (e ∷ es)) ≡
    contents_of (if option_map_or is_empty (cond b (Some (if b then and_removed place e.1 else e.1)) (at n (changed_at n (and_removed place) es))) false
    then cond (not b) (e ∷ without n es) (without n es) else (e.0, (if b then and_removed place e.1 else e.1)) ∷ changed_at n (and_removed place) es)
settled_step true n place e es above rest =
    ends (is_empty (and_removed place e.1)) place e es
    ∙ ap (λ xs. contents_of (if is_empty (and_removed place e.1) then xs else (e.0, and_removed place e.1) ∷ es)) (sym (without_above n es (above refl)))
    ∙ ap (λ xs. contents_of (if is_empty (and_removed place e.1) then without n es else (e.0, and_removed place e.1) ∷ xs)) (sym (changed_above n (and_removed place) es (above refl)))
settled_step false n place e es above rest =
    ap (λ xs. e.1 ∷ xs) rest ∙ sym (keeps (option_map_or is_empty (at n (changed_at n (and_removed place) es)) false) n place e es)

pub settled_is : (n place : ℕ) (es : List (ℕ × Due)) → Ascending es → settled_entry (index_of n es) place (contents_of es) ≡ contents_of (settled_at n place es)
settled_is n zero [] order = refl
settled_is n (suc place) [] order = refl
settled_is n place (e ∷ es) order =
    settled_step (n == e.0) n place e es (λ same. subst (λ m. Above m es) (sym (eqb-true n e.0 same)) order.0) (settled_is n place es order.1)

-- ---- what a place says

-- the first that is found has the place of the first that fits
place_by : (b : Bool) (passes : Owed → Bool) (due : Due) (spot : ℕ) → (if b then position passes due.entries else None) ≡ Some spot → position_or_len passes due.entries ≡ spot
place_by true passes due spot is = position_is_place passes due.entries spot is
place_by false passes due spot is = cc

place_from : (batches : Bool) (passes : Owed → Bool) (n p : ℕ) (e : ℕ × Due) (es : List (ℕ × Due)) (o : Option ℕ) → Above e.0 es → place_in batches passes e.1 ≡ o →
    option_map_or (λ at. Some (e.0, at)) o (first_of (place_in batches passes) es) ≡ Some (n, p) → (first_of (place_in batches passes) es ≡ Some (n, p) → place_at passes (at n es) ≡ p) → place_at passes (at n (e ∷ es)) ≡ p
place_from batches passes n p e es (Some spot) above there it rest =
    let number : e.0 ≡ n = ap (λ o. option_map_or (λ x. x.0) o e.0) it in
    let place : spot ≡ p = ap (λ o. option_map_or (λ x. x.1) o spot) it in
    ap (λ k. place_at passes (at k (e ∷ es))) (sym number) ∙ ap (place_at passes) (here e es)
    ∙ place_by (if batches then e.1.is_batch else not e.1.is_batch) passes e.1 spot there ∙ place
place_from batches passes n p e es None above there it rest =
    ap (λ b. place_at passes (cond b (Some e.1) (at n es))) (apart_after n e.0 (first_above (place_in batches passes) e.0 n p es above it))
    ∙ rest it

first_place : (batches : Bool) (passes : Owed → Bool) (n p : ℕ) (es : List (ℕ × Due)) → Ascending es → first_of (place_in batches passes) es ≡ Some (n, p) → place_at passes (at n es) ≡ p
first_place batches passes n p [] order is = cc
first_place batches passes n p (e ∷ es) order is = place_from batches passes n p e es (place_in batches passes e.1) order.0 refl is (first_place batches passes n p es order.1)

pub oldest_found : (batches : Bool) (passes : Owed → Bool) (n : ℕ) (es : List (ℕ × Due)) → Ascending es → Some n ≡ option_map (λ found. found.0) (first_of (place_in batches passes) es) →
    oldest batches passes (contents_of es) ≡ Some (EntryOf (index_of n es) (place_at passes (at n es)))
oldest_found batches passes n es order is = oldest_is batches passes es order ∙ from (first_of (place_in batches passes) es) refl is
  where
    from : (o : Option (ℕ × ℕ)) → first_of (place_in batches passes) es ≡ o → Some n ≡ option_map (λ found. found.0) o → option_map (entry_at es) o ≡ Some (EntryOf (index_of n es) (place_at passes (at n es)))
    from None there it = cc
    from (Some found) there it =
        let number : n ≡ found.0 = ap (λ o. option_map_or (λ k. k) o n) it in
        ap (λ k. Some (EntryOf (index_of k es) found.1)) (sym number)
        ∙ ap (λ p. Some (EntryOf (index_of n es) p)) (sym (ap (λ k. place_at passes (at k es)) number ∙ first_place batches passes found.0 found.1 es order there))

pub oldest_missing : (batches : Bool) (passes : Owed → Bool) (es : List (ℕ × Due)) → Ascending es → None ≡ option_map (λ found. found.0) (first_of (place_in batches passes) es) → oldest batches passes (contents_of es) ≡ None
oldest_missing batches passes es order is = oldest_is batches passes es order ∙ from (first_of (place_in batches passes) es) is
  where
    from : (o : Option (ℕ × ℕ)) → None ≡ option_map (λ found. found.0) o → option_map (entry_at es) o ≡ None
    from None it = refl
    from (Some found) it = cc

pub entry_settled : (id : WrittenId) (n : ℕ) (way : Way) (es now : List (ℕ × Due)) → Ascending es → now ≡ settled_at n (place_at (fits way id) (at n es)) es →
    contents_of now ≡ settled (target_at id es (Some (places.EntryOf n way))) (contents_of es)
entry_settled id n way es now order is = ap contents_of is ∙ sym (settled_is n (place_at (fits way id) (at n es)) es order)

pub whole_settled : (n : ℕ) (es now : List (ℕ × Due)) → Ascending es → now ≡ without n es → contents_of now ≡ settled (Some (WholeOf (index_of n es))) (contents_of es)
whole_settled n es now order is = ap contents_of is ∙ sym (removed_is n es order)

pub entry_found : (id : WrittenId) (n : ℕ) (way : Way) (es : List (ℕ × Due)) → option_map Entry (option_and_then (fit_in (place_at (fits way id) (at n es))) (at n es)) ≡ found (target_at id es (Some (places.EntryOf n way))) (contents_of es)
entry_found id n way es = ap (λ o. option_map Entry (option_and_then (fit_in (place_at (fits way id) (at n es))) o)) (sym (at_index n es))

-- ---- contents under a mark, one behind another: what isn't found by it isn't such a one

pub scan_first : (f : Due → Option ℕ) (es : List (ℕ × Due)) → Above 0 es → (n : ℕ) (x : Due) → n ≤ 0 → at n es ≡ Some x → f x ≡ None
scan_first f es above n x le there = absurd (let over : 0 < n = at_above 0 n x es above there in omega arith)

nothing : (o : Option ℕ) → is_some o ≡ false → o ≡ None
nothing None is = refl
nothing (Some p) is = cc

pub scan_next : (f : Due → Option ℕ) (is_one : Due → Bool) (after number : ℕ) (es : List (ℕ × Due)) → ((n : ℕ) (x : Due) → n ≤ after → at n es ≡ Some x → f x ≡ None) → IsNoneBetween is_one after number es →
    ((x : Due) → is_one x ≡ false → f x ≡ None) → is_some (option_and_then f (at number es)) ≡ false → (n : ℕ) (x : Due) → n ≤ number → at n es ≡ Some x → f x ≡ None
scan_next f is_one after number es before between fails none n x le there = from (nat_le n after) (n == number) refl refl
  where
    from : (low same : Bool) → nat_le n after ≡ low → (n == number) ≡ same → f x ≡ None
    from true same within is = before n x (leb-true n after within) there
    from false true beyond is = nothing (f x) (sym (ap (λ o. is_some (option_and_then f o)) (ap (λ k. at k es) (sym (eqb-true n number is)) ∙ there)) ∙ none)
    from false false beyond is = let differs : n ≡ number → ⊥ = eqb-false n number is in fails x (between n x (leb-false n after beyond) (omega arith) there)

pub scan_none : (f : Due → Option ℕ) (is_one : Due → Bool) (after : ℕ) (es : List (ℕ × Due)) → Ascending es → ((n : ℕ) (x : Due) → n ≤ after → at n es ≡ Some x → f x ≡ None) → IsNoneBehind is_one after es →
    ((x : Due) → is_one x ≡ false → f x ≡ None) → None ≡ option_map (λ found. found.0) (first_of f es)
scan_none f is_one after es order before behind fails = sym (ap (option_map (λ found. found.0)) (first_none f es order (λ n x there. from n x there (nat_le n after) refl)))
  where
    from : (n : ℕ) (x : Due) → at n es ≡ Some x → (low : Bool) → nat_le n after ≡ low → f x ≡ None
    from n x there true within = before n x (leb-true n after within) there
    from n x there false beyond = fails x (behind n x (leb-false n after beyond) there)

pub scan_found : (f : Due → Option ℕ) (is_one : Due → Bool) (after number : ℕ) (es : List (ℕ × Due)) → Ascending es → ((n : ℕ) (x : Due) → n ≤ after → at n es ≡ Some x → f x ≡ None) → IsNoneBetween is_one after number es →
    ((x : Due) → is_one x ≡ false → f x ≡ None) → is_some (option_and_then f (at number es)) ≡ true → Some number ≡ option_map (λ found. found.0) (first_of f es)
scan_found f is_one after number es order before between fails found = at_it (at number es) refl found
  where
    earlier : (n : ℕ) (x : Due) → n < number → at n es ≡ Some x → (low : Bool) → nat_le n after ≡ low → f x ≡ None
    earlier n x lt there true within = before n x (leb-true n after within) there
    earlier n x lt there false beyond = fails x (between n x (leb-false n after beyond) lt there)

    spot_it : (x : Due) → at number es ≡ Some x → (o : Option ℕ) → f x ≡ o → is_some o ≡ true → Some number ≡ option_map (λ found. found.0) (first_of f es)
    spot_it x is None none it = cc
    spot_it x is (Some p) there it = sym (ap (option_map (λ found. found.0)) (first_found f number p x es order is there (λ n y lt at_n. earlier n y lt at_n (nat_le n after) refl)))

    at_it : (o : Option Due) → at number es ≡ o → is_some (option_and_then f o) ≡ true → Some number ≡ option_map (λ found. found.0) (first_of f es)
    at_it None is it = cc
    at_it (Some x) is it = spot_it x is (f x) refl it

-- the same of a test
pub whole_none : (passes : Due → Bool) (x : Due) → passes x ≡ false → whole_if passes x ≡ None
whole_none passes x no_pass = ap (λ b. if b then Some 0 else None) no_pass

pub not_whole : (passes : Due → Bool) (o : Option Due) → option_map_or passes o false ≡ false → is_some (option_and_then (whole_if passes) o) ≡ false
not_whole passes None is = refl
not_whole passes (Some x) is = ap (λ b. is_some {T = ℕ} (if b then Some 0 else None)) is

pub is_whole : (passes : Due → Bool) (o : Option Due) → option_map_or passes o false ≡ true → is_some (option_and_then (whole_if passes) o) ≡ true
is_whole passes None is = is
is_whole passes (Some x) is = ap (λ b. is_some {T = ℕ} (if b then Some 0 else None)) is

fused : {X Y Z : Type 0} (f : Y → Z) (g : X → Y) (o : Option X) → option_map f (option_map g o) ≡ option_map (λ x. f (g x)) o
fused f g None = refl
fused f g (Some x) = refl

-- the whole of the first
pub whole_is : (p : Due → Bool) (es : List (ℕ × Due)) → Ascending es → option_map WholeOf (position p (contents_of es)) ≡ option_map (λ found. WholeOf (index_of found.0 es)) (first_of (whole_if p) es)
whole_is p es order = ap (option_map WholeOf) (position_is p es order) ∙ fused WholeOf (index_at es) (first_of (whole_if p) es)

pub number_is : (p : Due → Bool) (es : List (ℕ × Due)) (number : Option ℕ) → Ascending es → number ≡ option_map (λ found. found.0) (first_of (whole_if p) es) → position p (contents_of es) ≡ option_map (λ n. index_of n es) number
number_is p es number order is =
    position_is p es order ∙ sym (fused (λ n. index_of n es) (λ found. found.0) (first_of (whole_if p) es)) ∙ ap (option_map (λ n. index_of n es)) (sym is)
