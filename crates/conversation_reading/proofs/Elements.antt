-- The elements of an array, and how many.
use Rattle.std.proofs.Common.{◌≡◌, ℕ, zero, suc, ◌+◌, ◌<◌, ◌≤◌, nat_lt, Bool, true, false, if◌then◌else◌, List, [], ◌∷◌, ◌++◌, length, take, get_or, refl, sym, ap, ◌∙◌, arith, Global}
use Rattle.std.proofs.lemmas.Bool.Decides.{nat_tests}
use Rattle.json.specs.Value.{value_view, items_view}
use Rattle.json.specs.declared.value.Value.{Value}
use Rattle.conversation_reading.specs.declared.entry.Entry.{Entry}
use Rattle.conversation_reading.specs.Strictly.{entry_of, entries_of, limited}
use Rattle.conversation_reading.specs.declared.reading.Reading.TheVariants.{Array, OverLimits}
use Rattle.conversation_reading.specs.declared.reading.TheConstants.{MOST_ENTRIES_IN}

entries_of-append : (vs : List (Value Global)) (v : Value Global) → entries_of (items_view (vs ++ v ∷ [])) ≡ entries_of (items_view vs) ++ entry_of (value_view v) ∷ []
entries_of-append [] v = refl
entries_of-append (w ∷ vs) v = ap (λ es. entry_of (value_view w) ∷ es) (entries_of-append vs v)

taken : (vs : List (Value Global)) (k : ℕ) (v : Value Global) → k < length vs → v ≡ get_or vs k v → take (k + 1) vs ≡ take k vs ++ v ∷ []
taken [] k v h e = absurd (let f : k < 0 = h in omega (arith, f))
taken (w ∷ vs) zero v h e = ap (λ u. u ∷ []) (sym e)
taken (w ∷ vs) (suc k) v h e = ap (λ n. take n (w ∷ vs)) (let f : suc k + 1 ≡ suc (k + 1) = omega arith in f) ∙ ap (λ us. w ∷ us) (taken vs k v (let f : suc k < suc (length vs) = h in omega (arith, f)) e)

-- one more element
pub entries_of-more : (vs : List (Value Global)) (k : ℕ) (v : Value Global) (es : List Entry) (e : Entry) → k < length vs → v ≡ get_or vs k v →
    es ≡ entries_of (items_view (take k vs)) → e ≡ entry_of (value_view v) → es ++ e ∷ [] ≡ entries_of (items_view (take (k + 1) vs))
entries_of-more vs k v es e h is so_far one =
    ap (λ xs. xs ++ e ∷ []) so_far ∙ ap (λ x. entries_of (items_view (take k vs)) ++ x ∷ []) one
    ∙ sym (entries_of-append (take k vs) v) ∙ ap (λ ws. entries_of (items_view ws)) (sym (taken vs k v h is))

-- ---- how many

entries_of-length : (vs : List (Value Global)) → length (entries_of (items_view vs)) ≡ length vs
entries_of-length [] = refl
entries_of-length (v ∷ vs) = ap suc (entries_of-length vs)

too_many : (n : ℕ) → MOST_ENTRIES_IN < n → nat_lt MOST_ENTRIES_IN n ≡ true
too_many n more = grind (arith, nat_tests)

few : (n : ℕ) → n ≤ MOST_ENTRIES_IN → nat_lt MOST_ENTRIES_IN n ≡ false
few n most = grind (arith, nat_tests)

limited_by : (vs : List (Value Global)) (b : Bool) → nat_lt MOST_ENTRIES_IN (length vs) ≡ b →
    (if b then OverLimits else Array (entries_of (items_view vs))) ≡ limited (Array (entries_of (items_view vs)))
limited_by vs b is = ap (λ b. if b then OverLimits else Array (entries_of (items_view vs))) (sym (ap (nat_lt MOST_ENTRIES_IN) (entries_of-length vs) ∙ is))

pub over_limits : (vs : List (Value Global)) → MOST_ENTRIES_IN < length vs → OverLimits ≡ limited (Array (entries_of (items_view vs)))
over_limits vs more = limited_by vs true (too_many (length vs) more)

pub within_limits : (vs : List (Value Global)) → length vs ≤ MOST_ENTRIES_IN → Array (entries_of (items_view vs)) ≡ limited (Array (entries_of (items_view vs)))
within_limits vs most = limited_by vs false (few (length vs) most)
