-- Values that are filled one after another.
use Rattle.std.proofs.Common.{◌≡◌, ℕ, zero, suc, ◌<◌, ◌≤◌, List, [], ◌∷◌, ◌++◌, length, get_or, drop, map, append_assoc, String, Global, Result, Ok, Err, Less, Greater, string_bytes, nat_cmp, refl, ap, sym, ◌∙◌, arith}
use Rattle.std.proofs.lemmas.Cmp.{nat_list_cmp_total}
use Rattle.std.specs.Cmp.Lexicographic.{slice_cmp}
use Rattle.std.specs.List.{AllByRecursion}
use Rattle.std.specs.List.Sorted.{IsStrictlySortedBy}
use Rattle.std.specs.Map.{keys_of}
use Rattle.std.specs.String.{string_cmp}
use Rattle.std.specs.Ordering.{ordering_reverse}
use Rattle.serde_json.specs.Data.{Data, Items, no_items, item, Members, no_members, member, put}
use Rattle.serde_json.specs.View.{items_of}
use Rattle.method_templates.specs.declared.filling.FillFault.{FillFault}
use Rattle.method_templates.specs.Form.{shapes_of, parts_of}
use Rattle.method_templates.specs.Shape.{Shape, size_of, shapes_size, parts_size}
use Rattle.method_templates.specs.Value.{with_value, value_of, values_of, members_of}

-- ---- items

-- the data, and the items after them
abbrev pub prepend : List Data → Items → Items
prepend [] rest = rest
prepend (d ∷ ds) rest = item d (prepend ds rest)

prepend-last : (ds : List Data) (d : Data) (rest : Items) → prepend (ds ++ d ∷ []) rest ≡ prepend ds (item d rest)
prepend-last [] d rest = refl
prepend-last (e ∷ ds) d rest = ap (item e) (prepend-last ds d rest)

prepend-none : (ds : List Data) → prepend ds no_items ≡ items_of ds
prepend-none [] = refl
prepend-none (e ∷ ds) = ap (item e) (prepend-none ds)

-- what is filled, and what filling the rest gives
abbrev pub FilledItems : Members → List Shape → List Data → List Shape → Type 0
FilledItems registers all done rest =
    values_of registers (shapes_of all) ≡ with_value (prepend done) (values_of registers (shapes_of rest))

pub prepend_start : (r : Result Items FillFault) → r ≡ with_value (prepend []) r
prepend_start (Ok ds) = refl
prepend_start (Err e) = refl

one_more : (done : List Data) (d : Data) (r : Result Items FillFault) → with_value (prepend done) (with_value (item d) r) ≡ with_value (prepend (done ++ d ∷ [])) r
one_more done d (Ok ds) = ap Ok (sym (prepend-last done d ds))
one_more done d (Err e) = refl

pub filled_more : (registers : Members) (all : List Shape) (done : List Data) (t : Shape) (rest : List Shape) (d : Data) → FilledItems registers all done (t ∷ rest) → value_of registers t ≡ Ok d
    → FilledItems registers all (done ++ d ∷ []) rest
filled_more registers all done t rest d before here =
    before ∙ rw here (one_more done d (values_of registers (shapes_of rest)))

pub filled_fault : (registers : Members) (all : List Shape) (done : List Data) (t : Shape) (rest : List Shape) (e : FillFault) → FilledItems registers all done (t ∷ rest) → value_of registers t ≡ Err e
    → values_of registers (shapes_of all) ≡ Err e
filled_fault registers all done t rest e before here = before ∙ rw here

pub filled_all : (registers : Members) (all : List Shape) (done : List Data) → FilledItems registers all done [] → values_of registers (shapes_of all) ≡ Ok (items_of done)
filled_all registers all done before = before ∙ ap Ok (prepend-none done)

pub size_within : (ts : List Shape) (i : ℕ) (d : Shape) → i < length ts → size_of (get_or ts i d) ≤ shapes_size (shapes_of ts)
size_within [] i d h = absurd (omega arith)
size_within (t ∷ ts) zero d h = omega arith
size_within (t ∷ ts) (suc i) d h = omega (arith, size_within ts i d (omega arith))

-- ---- members

abbrev pub Pair : Type 0
Pair = List ℕ × Data

abbrev pub Named : Type 0
Named = String Global × Shape

-- the pairs, and the members after them
abbrev pub prepend_members : List Pair → Members → Members
prepend_members [] rest = rest
prepend_members (p ∷ ps) rest = member p.0 p.1 (prepend_members ps rest)

members_last : (ps : List Pair) (p : Pair) (rest : Members) → prepend_members (ps ++ p ∷ []) rest ≡ prepend_members ps (member p.0 p.1 rest)
members_last [] p rest = refl
members_last (q ∷ ps) p rest = ap (member q.0 q.1) (members_last ps p rest)

abbrev pub names_of : List Pair → List (List ℕ)
names_of = map (λ p. p.0)

abbrev pub texts_of : List Named → List (List ℕ)
texts_of = map (λ e. string_bytes e.0)

-- what is filled of a map's templates, in `values`, and what filling the rest gives
pub record FilledMembers (registers : Members) (all : List Named) (values : Members) (rest : List Named) : Type 0 where
  pub done : List Named
  pub pairs : List Pair
  pub split : all ≡ done ++ rest
  pub named : names_of pairs ≡ texts_of done
  pub built : values ≡ prepend_members pairs no_members
  pub filled : members_of registers (parts_of all) ≡ with_value (prepend_members pairs) (members_of registers (parts_of rest))

members_start : (r : Result Members FillFault) → r ≡ with_value (prepend_members []) r
members_start (Ok ms) = refl
members_start (Err e) = refl

pub filled_members_start : (registers : Members) (all : List Named) → FilledMembers registers all no_members all
filled_members_start registers all = record {
  done = [];
  pairs = [];
  split = refl;
  named = refl;
  built = refl;
  filled = members_start (members_of registers (parts_of all));
}

below_middle : (first : Named) (es : List Named) (e : Named) (more : List Named) → AllByRecursion (λ y. string_cmp first.0 y ≡ Less) (keys_of (es ++ e ∷ more)) → string_cmp first.0 e.0 ≡ Less
below_middle first [] e more h = h.0
below_middle first (x ∷ es) e more h = below_middle first es e more h.1

-- a name that is above those before it goes last
put_last : (ps : List Pair) (done : List Named) (e : Named) (more : List Named) (d : Data) → names_of ps ≡ texts_of done → IsStrictlySortedBy string_cmp (keys_of (done ++ e ∷ more))
    → put (string_bytes e.0) d (prepend_members ps no_members) ≡ prepend_members (ps ++ (string_bytes e.0, d) ∷ []) no_members
unfolding IsStrictlySortedBy
put_last [] done e more d same h = refl
put_last (p ∷ ps) [] e more d same h = absurd (omega (arith, ap length same))
put_last (p ∷ ps) (first ∷ done) e more d same h =
    let heads : p.0 ≡ string_bytes first.0 = ap (λ ks. get_or ks 0 p.0) same in
    let tails : names_of ps ≡ texts_of done = ap (drop 1) same in
    let above : slice_cmp nat_cmp (string_bytes e.0) p.0 ≡ Greater =
    rw heads (nat_list_cmp_total.antisymm (string_bytes e.0) (string_bytes first.0) ∙ ap ordering_reverse (below_middle first done e more h.0)) in
    rw above (ap (member p.0 p.1) (put_last ps done e more d tails h.1))

names_of-last : (ps : List Pair) (done : List Named) (e : Named) (d : Data) → names_of ps ≡ texts_of done → names_of (ps ++ (string_bytes e.0, d) ∷ []) ≡ texts_of (done ++ e ∷ [])
names_of-last [] [] e d same = refl
names_of-last [] (x ∷ done) e d same = absurd (omega (arith, ap length same))
names_of-last (p ∷ ps) [] e d same = absurd (omega (arith, ap length same))
names_of-last (p ∷ ps) (x ∷ done) e d same =
    let heads : p.0 ≡ string_bytes x.0 = ap (λ ks. get_or ks 0 p.0) same in
    let tails : names_of ps ≡ texts_of done = ap (drop 1) same in
    rw heads (ap (λ ks. string_bytes x.0 ∷ ks) (names_of-last ps done e d tails))

one_more_member : (ps : List Pair) (p : Pair) (r : Result Members FillFault) → with_value (prepend_members ps) (with_value (member p.0 p.1) r) ≡ with_value (prepend_members (ps ++ p ∷ [])) r
one_more_member ps p (Ok ms) = ap Ok (sym (members_last ps p ms))
one_more_member ps p (Err e) = refl

pub filled_members_more : (registers : Members) (all : List Named) (values : Members) (e : Named) (rest : List Named) (d : Data) → IsStrictlySortedBy string_cmp (keys_of all) → FilledMembers registers all values (e ∷ rest)
    → value_of registers e.1 ≡ Ok d → FilledMembers registers all (put (string_bytes e.0) d values) rest
filled_members_more registers all values e rest d sorted before here = record {
  done = before.done ++ e ∷ [];
  pairs = before.pairs ++ (string_bytes e.0, d) ∷ [];
  split = before.split ∙ sym (append_assoc before.done (e ∷ []) rest);
  named = names_of-last before.pairs before.done e d before.named;
  built = ap (put (string_bytes e.0) d) before.built ∙ put_last before.pairs before.done e rest d before.named (rw before.split at sorted);
  filled = before.filled ∙ rw here (one_more_member before.pairs (string_bytes e.0, d) (members_of registers (parts_of rest)));
}

pub filled_members_fault : (registers : Members) (all : List Named) (values : Members) (e : Named) (rest : List Named) (fault : FillFault) → FilledMembers registers all values (e ∷ rest) → value_of registers e.1 ≡ Err fault
    → members_of registers (parts_of all) ≡ Err fault
filled_members_fault registers all values e rest fault before here = before.filled ∙ rw here

pub filled_members_all : (registers : Members) (all : List Named) (values : Members) → FilledMembers registers all values [] → members_of registers (parts_of all) ≡ Ok values
filled_members_all registers all values before = before.filled ∙ ap Ok (sym before.built)

part_within_middle : (done : List Named) (e : Named) (rest : List Named) → size_of e.1 ≤ parts_size (parts_of (done ++ e ∷ rest))
part_within_middle [] e rest = omega arith
part_within_middle (x ∷ done) e rest = omega (arith, part_within_middle done e rest)

pub part_within : (all done : List Named) (e : Named) (rest : List Named) → all ≡ done ++ e ∷ rest → size_of e.1 ≤ parts_size (parts_of all)
part_within all done e rest same = rw same (part_within_middle done e rest)
