-- Templates that are made one after another.
use Rattle.std.proofs.Common.{◌≡◌, ℕ, List, [], ◌∷◌, ◌++◌, length, get_or, drop, map, String, Global, Less, Greater, string_bytes, nat_cmp, refl, ap, sym, ◌∙◌, arith, append_assoc, append-nil}
use Rattle.std.proofs.lemmas.Cmp.{nat_list_cmp_total}
use Rattle.std.specs.Cmp.Lexicographic.{slice_cmp}
use Rattle.std.specs.List.{AllByRecursion}
use Rattle.std.specs.List.Sorted.{IsStrictlySortedBy}
use Rattle.std.specs.Map.{keys_of}
use Rattle.std.specs.String.{string_cmp}
use Rattle.std.specs.Ordering.{ordering_reverse}
use Rattle.std.specs.BTreeMap.{insert_entry}
use Rattle.toml.specs.declared.value.Value.{Value}
use Rattle.toml.specs.View.{view, items_view, members_view}
use Rattle.toml.proofs.Views.{Entry}
use Rattle.method_templates.specs.Form.{shapes_of, parts_of}
use Rattle.method_templates.specs.Shape.{Shape, Shapes, Parts, no_parts, part}
use Rattle.table_reading.specs.Templates.{shape_from, shapes_from, parts_from}

abbrev pub Named : Type 0
Named = String Global × Shape

pub shapes_of-view : (vs : List Value) → shapes_of (map (λ v. shape_from (view v)) vs) ≡ shapes_from (items_view vs)
shapes_of-view [] = refl
shapes_of-view (v ∷ vs) = ap (Rattle.method_templates.specs.Shape.shape (shape_from (view v))) (shapes_of-view vs)

-- made stands for what is done of the members, in order
pub record MadeMembers (all : List Entry) (made : List Named) (rest : List Entry) : Type 0 where
  pub done : List Entry
  pub split : all ≡ done ++ rest
  pub names : map (λ m. string_bytes m.0) made ≡ map (λ e. string_bytes e.0) done
  pub parts : parts_of made ≡ parts_from (members_view done)

pub made_start : (all : List Entry) → MadeMembers all [] all
made_start all = record { done = []; split = refl; names = refl; parts = refl }

below_middle : (first : Entry) (es : List Entry) (e : Entry) (more : List Entry) → AllByRecursion (λ y. string_cmp first.0 y ≡ Less) (keys_of (es ++ e ∷ more)) → string_cmp first.0 e.0 ≡ Less
below_middle first [] e more h = h.0
below_middle first (x ∷ es) e more h = below_middle first es e more h.1

-- a name that is above those before it goes last
insert_last : (made : List Named) (done : List Entry) (e : Entry) (more : List Entry) (k : String Global) (t : Shape) → string_bytes k ≡ string_bytes e.0
    → map (λ m. string_bytes m.0) made ≡ map (λ d. string_bytes d.0) done → IsStrictlySortedBy string_cmp (keys_of (done ++ e ∷ more)) → insert_entry string_cmp made k t ≡ made ++ (k, t) ∷ []
unfolding IsStrictlySortedBy
insert_last [] done e more k t named same h = refl
insert_last (m ∷ made) [] e more k t named same h = absurd (omega (arith, ap length same))
insert_last (m ∷ made) (first ∷ done) e more k t named same h =
    let heads : string_bytes m.0 ≡ string_bytes first.0 = ap (λ ks. get_or ks 0 (string_bytes m.0)) same in
    let tails : map (λ m. string_bytes m.0) made ≡ map (λ d. string_bytes d.0) done = ap (drop 1) same in
    let above : slice_cmp nat_cmp (string_bytes k) (string_bytes m.0) ≡ Greater =
    rw (heads, named) (nat_list_cmp_total.antisymm (string_bytes e.0) (string_bytes first.0) ∙ ap ordering_reverse (below_middle first done e more h.0)) in
    rw above (ap (λ ms. m ∷ ms) (insert_last made done e more k t named tails h.1))

names-last : (made : List Named) (done : List Entry) (e : Entry) (k : String Global) (t : Shape) → string_bytes k ≡ string_bytes e.0 → map (λ m. string_bytes m.0) made ≡ map (λ d. string_bytes d.0) done
    → map (λ m. string_bytes m.0) (made ++ (k, t) ∷ []) ≡ map (λ d. string_bytes d.0) (done ++ e ∷ [])
names-last [] [] e k t named same = rw named
names-last [] (x ∷ done) e k t named same = absurd (omega (arith, ap length same))
names-last (m ∷ made) [] e k t named same = absurd (omega (arith, ap length same))
names-last (m ∷ made) (x ∷ done) e k t named same =
    let heads : string_bytes m.0 ≡ string_bytes x.0 = ap (λ ks. get_or ks 0 (string_bytes m.0)) same in
    let tails : map (λ m. string_bytes m.0) made ≡ map (λ d. string_bytes d.0) done = ap (drop 1) same in
    rw heads (ap (λ ks. string_bytes x.0 ∷ ks) (names-last made done e k t named tails))

-- parts with one more at the end
abbrev part_last : Parts → List ℕ → Shape → Parts
part_last no_parts k t = part k t no_parts
part_last (part l s ms) k t = part l s (part_last ms k t)

parts_of-last : (made : List Named) (k : String Global) (t : Shape) → parts_of (made ++ (k, t) ∷ []) ≡ part_last (parts_of made) (string_bytes k) t
parts_of-last [] k t = refl
parts_of-last (m ∷ made) k t = ap (part (string_bytes m.0) m.1) (parts_of-last made k t)

parts_from-last : (done : List Entry) (e : Entry) → parts_from (members_view (done ++ e ∷ [])) ≡ part_last (parts_from (members_view done)) (string_bytes e.0) (shape_from (view e.1))
parts_from-last [] e = refl
parts_from-last (d ∷ done) e = ap (part (string_bytes d.0) (shape_from (view d.1))) (parts_from-last done e)

pub made_more : (all : List Entry) (made : List Named) (e : Entry) (rest : List Entry) (k : String Global) (t : Shape) (next : List Named) → IsStrictlySortedBy string_cmp (keys_of all) → MadeMembers all made (e ∷ rest)
    → string_bytes k ≡ string_bytes e.0 → t ≡ shape_from (view e.1) → next ≡ insert_entry string_cmp made k t → MadeMembers all next rest
made_more all made e rest k t next sorted before named seen after =
    let last : next ≡ made ++ (k, t) ∷ [] = after ∙ insert_last made before.done e rest k t named before.names (rw before.split at sorted) in
    record {
      done = before.done ++ e ∷ [];
      split = before.split ∙ sym (append_assoc before.done (e ∷ []) rest);
      names = rw last (names-last made before.done e k t named before.names);
      parts = rw (last, parts_of-last made k t, before.parts, named, seen) (sym (parts_from-last before.done e));
    }

pub made_all : (all : List Entry) (made : List Named) → MadeMembers all made [] → parts_of made ≡ parts_from (members_view all)
made_all all made before = before.parts ∙ ap (λ es. parts_from (members_view es)) (sym (before.split ∙ append-nil before.done))
