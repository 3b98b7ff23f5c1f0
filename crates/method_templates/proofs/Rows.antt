-- Registers in the byte order of their names, and the members that they stand for.
use Rattle.std.proofs.Common.{IfSome, IfNone, None, ap, ◌≡◌, ℕ, suc, ◌+◌, ◌<◌, ◌≤◌, List, [], ◌∷◌, length, get_or, drop, Bool, true, false, Option, Some, unwrap_or, Ordering, Less, Equal, Greater, nat_cmp, is_eq, bytes_eq, refl, sym, ◌∙◌, subst, arith, true≢false}
use lib.ListN.{set}
use Rattle.std.proofs.lemmas.List.{set-get_or}
use Rattle.std.proofs.lemmas.Cmp.{nat_list_cmp_total, tied_itself}
use Rattle.std.proofs.lemmas.Map.Text.{is_eq-slice_cmp}
use Rattle.std.proofs.lemmas.Slice.Eq.{bytes_eq-Decides}
use Rattle.std.specs.Cmp.Lexicographic.{slice_cmp}
use Rattle.std.specs.List.{insert}
use Rattle.std.specs.Ordering.{match_ordering}
use Rattle.serde_json.specs.Data.{Data, Members, member, put}
use Rattle.serde_json.specs.Find.{get_member}
use Rattle.method_templates.specs.Locals.{with_lent}
use Rattle.method_templates.specs.Inner.Rows.{place_from, place_in}
use Rattle.method_templates.specs.declared.locals.Place.{Place}
use Rattle.method_templates.specs.declared.locals.Place.TheVariants.{At, Before}
use Rattle.method_templates.specs.declared.locals.Row.{Row}

-- ---- what is found

same_text : (xs : List ℕ) → slice_cmp nat_cmp xs xs ≡ Equal
same_text xs = tied_itself nat_list_cmp_total xs

pub found_here : (name l : List ℕ) (d : Data) (ms : Members) → name ≡ l → get_member name (member l d ms) ≡ Some d
found_here name l d ms is = rw (is, same_text)

either : (o : Ordering) (a b : Option Data) → is_eq o ≡ false → match_ordering o a b a ≡ a
either Less a b e = refl
either Equal a b e = absurd (true≢false e)
either Greater a b e = refl

differ : (xs ys : List ℕ) (b : Bool) → bytes_eq xs ys ≡ b → (xs ≡ ys → ⊥) → b ≡ false
differ xs ys true e other = absurd (other ((bytes_eq-Decides xs ys).0 e))
differ xs ys false e other = refl

pub found_later : (name l : List ℕ) (d : Data) (ms : Members) → (name ≡ l → ⊥) → get_member name (member l d ms) ≡ get_member name ms
found_later name l d ms other = either (slice_cmp nat_cmp name l) _ _ (is_eq-slice_cmp name l ∙ differ name l _ refl other)

-- ---- what is put

-- the register with a value of its own
abbrev pub set_row : Data → Row → Row
set_row d r = record { name = r.name; value = Some d }

abbrev pub new_row : List ℕ → Data → Row
new_row name d = record { name = name; value = Some d }

-- what is put at the place that was found, so many rows having been passed over
abbrev pub Puts : List ℕ → Data → Data → ℕ → List Row → Place → Type 0
Puts name d lent k rows (At j) = (i : ℕ) × (j ≡ k + i) × (i < length rows)
    × ((r : Row) → r ≡ get_or rows i r → with_lent lent (set rows i (set_row d r)) ≡ put name d (with_lent lent rows))
Puts name d lent k rows (Before j) = (i : ℕ) × (j ≡ k + i) × (i ≤ length rows)
    × (with_lent lent (insert rows i (new_row name d)) ≡ put name d (with_lent lent rows))

passed : (o : Ordering) (name : List ℕ) (d lent : Data) (k : ℕ) (r : Row) (rows : List Row) (q : Place) → slice_cmp nat_cmp name r.name ≡ o → Puts name d lent (k + 1) rows q
    → Puts name d lent k (r ∷ rows) (match_ordering o (Before k) (At k) q)
passed Less name d lent k r rows q is later = (0, omega arith, omega arith, rw is)
passed Equal name d lent k r rows q is later = (0, omega arith, omega arith, λ s same. rw (is, same))
passed Greater name d lent k r rows (At j) is (i, at, within, same) = (suc i, omega arith, omega arith, λ s there. rw (is, same s there))
passed Greater name d lent k r rows (Before j) is (i, at, within, same) = (suc i, omega arith, omega arith, rw (is, same))

pub puts : (name : List ℕ) (d lent : Data) (k : ℕ) (rows : List Row) → Puts name d lent k rows (place_from k name rows)
puts name d lent k [] = (0, omega arith, omega arith, refl)
puts name d lent k (r ∷ rows) = passed _ name d lent k r rows (place_from (k + 1) name rows) refl (puts name d lent (k + 1) rows)

-- from the first row on
pub at_within : (name : List ℕ) (d lent : Data) (rows : List Row) (j : ℕ) → At j ≡ place_in name rows → j < length rows
at_within name d lent rows j is =
    let P : Place → Type 0 = λ q. Puts name d lent 0 rows q in
    let (i, at, within, same) = subst P (sym is) (puts name d lent 0 rows) in
    omega arith

pub put_at : (name : List ℕ) (d lent : Data) (rows : List Row) (j : ℕ) (r : Row) → At j ≡ place_in name rows → r ≡ get_or rows j r → with_lent lent (set rows j (set_row d r)) ≡ put name d (with_lent lent rows)
put_at name d lent rows j r is there =
    let P : Place → Type 0 = λ q. Puts name d lent 0 rows q in
    let (i, at, within, same) = subst P (sym is) (puts name d lent 0 rows) in
    let e : i ≡ j = omega arith in
    let Q : ℕ → Type 0 = λ n. (r : Row) → r ≡ get_or rows n r → with_lent lent (set rows n (set_row d r)) ≡ put name d (with_lent lent rows) in
    subst Q e same r there

pub before_within : (name : List ℕ) (d lent : Data) (rows : List Row) (j : ℕ) → Before j ≡ place_in name rows → j ≤ length rows
before_within name d lent rows j is =
    let P : Place → Type 0 = λ q. Puts name d lent 0 rows q in
    let (i, at, within, same) = subst P (sym is) (puts name d lent 0 rows) in
    omega arith

pub put_before : (name : List ℕ) (d lent : Data) (rows : List Row) (j : ℕ) → Before j ≡ place_in name rows → with_lent lent (insert rows j (new_row name d)) ≡ put name d (with_lent lent rows)
put_before name d lent rows j is =
    let P : Place → Type 0 = λ q. Puts name d lent 0 rows q in
    let (i, at, within, same) = subst P (sym is) (puts name d lent 0 rows) in
    let e : i ≡ j = omega arith in
    let Q : ℕ → Type 0 = λ n. with_lent lent (insert rows n (new_row name d)) ≡ put name d (with_lent lent rows) in
    subst Q e same

-- ---- what a scan finds

pub scan_finds : (name : List ℕ) (lent : Data) (rows : List Row) (i : ℕ) (r : Row) → drop i rows ≡ r ∷ drop (i + 1) rows → name ≡ r.name
    → get_member name (with_lent lent (drop i rows)) ≡ Some (unwrap_or r.value lent)
scan_finds name lent rows i r here is = rw here (found_here name r.name (unwrap_or r.value lent) (with_lent lent (drop (i + 1) rows)) is)

pub scan_goes_on : (name : List ℕ) (lent : Data) (rows : List Row) (i : ℕ) (r : Row) → drop i rows ≡ r ∷ drop (i + 1) rows → (name ≡ r.name → ⊥)
    → get_member name (with_lent lent (drop (i + 1) rows)) ≡ get_member name (with_lent lent (drop i rows))
scan_goes_on name lent rows i r here other = rw here (sym (found_later name r.name (unwrap_or r.value lent) (with_lent lent (drop (i + 1) rows)) other))

-- what a test of two names says
pub same_names : (xs ys : List ℕ) (b : Bool) → b ≡ bytes_eq xs ys → b ≡ true → xs ≡ ys
same_names xs ys b told is = (bytes_eq-Decides xs ys).0 (sym told ∙ is)

pub other_names : (xs ys : List ℕ) (b : Bool) → b ≡ bytes_eq xs ys → b ≡ false → xs ≡ ys → ⊥
other_names xs ys b told is same = true≢false (sym ((bytes_eq-Decides xs ys).1 same) ∙ sym told ∙ is)

-- ---- what is taken

abbrev Finds : List ℕ → Data → ℕ → List Row → Place → Type 0
Finds name lent k rows (At j) = (i : ℕ) × (j ≡ k + i) × (i < length rows) × ((r : Row) → r ≡ get_or rows i r → get_member name (with_lent lent rows) ≡ Some (unwrap_or r.value lent))
Finds name lent k rows (Before j) = Unit {0}

found : (o : Ordering) (name : List ℕ) (lent : Data) (k : ℕ) (r : Row) (rows : List Row) (q : Place) → slice_cmp nat_cmp name r.name ≡ o → Finds name lent (k + 1) rows q → Finds name lent k (r ∷ rows) (match_ordering o (Before k) (At k) q)
found Less name lent k r rows q is later = tt
found Equal name lent k r rows q is later = (0, omega arith, omega arith, λ s same. rw (is, same))
found Greater name lent k r rows (At j) is (i, at, within, same) = (suc i, omega arith, omega arith, λ s there. rw is (same s there))
found Greater name lent k r rows (Before j) is later = tt

finds : (name : List ℕ) (lent : Data) (k : ℕ) (rows : List Row) → Finds name lent k rows (place_from k name rows)
finds name lent k [] = tt
finds name lent k (r ∷ rows) = found _ name lent k r rows (place_from (k + 1) name rows) refl (finds name lent (k + 1) rows)

found_at : (name : List ℕ) (lent : Data) (rows : List Row) (j : ℕ) (r : Row) → At j ≡ place_in name rows → r ≡ get_or rows j r → get_member name (with_lent lent rows) ≡ Some (unwrap_or r.value lent)
found_at name lent rows j r is there =
    let P : Place → Type 0 = λ q. Finds name lent 0 rows q in
    let (i, at, within, same) = subst P (sym is) (finds name lent 0 rows) in
    let e : i ≡ j = omega arith in
    let Q : ℕ → Type 0 = λ n. (r : Row) → r ≡ get_or rows n r → get_member name (with_lent lent rows) ≡ Some (unwrap_or r.value lent) in
    subst Q e same r there

pub taken_at : (name : List ℕ) (rows : List Row) (j : ℕ) (r : Row) (o : Option Data) → At j ≡ place_in name rows → r ≡ get_or rows j r → o ≡ r.value
    → IfSome o (λ d. (lent : Data) → get_member name (with_lent lent rows) ≡ Some d)
taken_at name rows j r None is there same = tt
taken_at name rows j r (Some d) is there same = λ lent. found_at name lent rows j r is there ∙ ap (λ v. Some (unwrap_or v lent)) (sym same)

pub kept_at : (rows : List Row) (j : ℕ) (r : Row) (o : Option Data) → r ≡ get_or rows j r → o ≡ r.value → IfNone o (set rows j (record { name = r.name; value = None }) ≡ rows)
kept_at rows j r (Some d) there same = tt
kept_at rows j r None there same =
    let as_it_was : Row = record { name = r.name; value = None } in
    let e : as_it_was ≡ get_or rows j r = ap (λ v. record { name = r.name; value = v }) same ∙ there in
    rw e (set-get_or rows j r)
