-- The units that came, each with its place and the number of its first call.
use Rattle.std.proofs.Common.{◌≡◌, ◌⊎◌, inl, inr, ℕ, zero, suc, ◌+◌, List, [], ◌∷◌, ◌++◌, length, Option, Some, None, refl, sym, ap, ◌∙◌, arith}
use Rattle.std.specs.Prelude.{slice_get, get_or}
use Rattle.connection_messages.specs.declared.call.Call.{Call as Came}
use Rattle.connection_messages.specs.declared.unit.Unit.{Unit}
use Rattle.connection_history.specs.Answers.{Due, due_of, dues_along}
use Rattle.connection_history.specs.History.{History}
use Rattle.connection_history.specs.Stream.{entries_in, entries_along, calls_in}
use Rattle.connection.specs.BackToBack.{answer_of, answers_along}
use Rattle.call_laws.proofs.Histories.{calls_in-append}

abbrev pub count_of : Unit → ℕ
count_of u = length (calls_in (entries_in u))

-- the unit at a place, and the number of its first call
abbrev pub placed : ℕ → List Unit → ℕ → Option (ℕ × Unit)
placed n [] place = None
placed n (u ∷ us) zero = Some (n, u)
placed n (u ∷ us) (suc place) = placed (n + count_of u) us place

pub placed_answer : (history : History) (n : ℕ) (us : List Unit) (place m : ℕ) (u : Unit) → placed n us place ≡ Some (m, u) → get_or (answers_along history n us) place [] ≡ answer_of history m u
placed_answer history n [] place m u is = absurd (cc)
placed_answer history n (v ∷ us) zero m u is = let same : (n, v) ≡ (m, u) = cc in ap (λ (x : ℕ × Unit). answer_of history x.0 x.1) same
placed_answer history n (v ∷ us) (suc place) m u is = placed_answer history (n + count_of v) us place m u is

pub placed_due : (history : History) (n : ℕ) (us : List Unit) (place m : ℕ) (u : Unit) → placed n us place ≡ Some (m, u) → slice_get (dues_along history n us) place ≡ Some (due_of history m u)
placed_due history n [] place m u is = absurd (cc)
placed_due history n (v ∷ us) zero m u is = let same : (n, v) ≡ (m, u) = cc in ap (λ (x : ℕ × Unit). Some (due_of history x.0 x.1)) same
placed_due history n (v ∷ us) (suc place) m u is = placed_due history (n + count_of v) us place m u is

pub due_placed : (history : History) (n : ℕ) (us : List Unit) (place : ℕ) (due : Due) → slice_get (dues_along history n us) place ≡ Some due → (x : ℕ × Unit) × (placed n us place ≡ Some x) × (due ≡ due_of history x.0 x.1)
due_placed history n [] place due is = absurd (cc)
due_placed history n (v ∷ us) zero due is = ((n, v), refl, (cc))
due_placed history n (v ∷ us) (suc place) due is = due_placed history (n + count_of v) us place due is

pub placed-kept : (n : ℕ) (us vs : List Unit) (place : ℕ) (x : ℕ × Unit) → placed n us place ≡ Some x → placed n (us ++ vs) place ≡ Some x
placed-kept n [] vs place x is = absurd (cc)
placed-kept n (u ∷ us) vs zero x is = is
placed-kept n (u ∷ us) vs (suc place) x is = placed-kept (n + count_of u) us vs place x is

-- the call with a number stands in a unit
pub record Stands (number : ℕ) (c : Came) (n : ℕ) (us : List Unit) : Type 0 where
  pub place : ℕ
  pub first : ℕ
  pub unit : Unit
  pub is : placed n us place ≡ Some (first, unit)
  pub index : ℕ
  pub at : slice_get (calls_in (entries_in unit)) index ≡ Some c
  pub numbered : number ≡ first + index

either_at : {X : Type 0} (xs ys : List X) (i : ℕ) (x : X) → slice_get (xs ++ ys) i ≡ Some x → (slice_get xs i ≡ Some x) ⊎ ((j : ℕ) × (slice_get ys j ≡ Some x) × (i ≡ length xs + j))
either_at [] ys i x at = inr (i, at, omega arith)
either_at (y ∷ xs) ys zero x at = inl at
either_at (y ∷ xs) ys (suc i) x at = from (either_at xs ys i x at)
  where
    from : (slice_get xs i ≡ Some x) ⊎ ((j : ℕ) × (slice_get ys j ≡ Some x) × (i ≡ length xs + j)) → (slice_get xs i ≡ Some x) ⊎ ((j : ℕ) × (slice_get ys j ≡ Some x) × (suc i ≡ length (y ∷ xs) + j))
    from (inl it) = inl it
    from (inr it) = inr (it.0, it.1, (let is = it.2 in omega (arith, is)))

pub stands : (number : ℕ) (c : Came) (n i : ℕ) (us : List Unit) → slice_get (calls_in (entries_along us)) i ≡ Some c → number ≡ n + i → Stands number c n us
stands number c n i [] at is = absurd (cc)
stands number c n i (u ∷ us) at is =
    from (λ j. stands number c (n + count_of u) j us) (either_at (calls_in (entries_in u)) (calls_in (entries_along us)) i c (ap (λ cs. slice_get cs i) (sym (calls_in-append (entries_in u) (entries_along us))) ∙ at))
  where
    later : Stands number c (n + count_of u) us → Stands number c n (u ∷ us)
    later it = record { place = suc it.place; first = it.first; unit = it.unit; is = it.is; index = it.index; at = it.at; numbered = it.numbered }

    from : ((j : ℕ) → slice_get (calls_in (entries_along us)) j ≡ Some c → number ≡ n + count_of u + j → Stands number c (n + count_of u) us)
        → (slice_get (calls_in (entries_in u)) i ≡ Some c) ⊎ ((j : ℕ) × (slice_get (calls_in (entries_along us)) j ≡ Some c) × (i ≡ count_of u + j)) → Stands number c n (u ∷ us)
    from rest (inl it) = record { place = 0; first = n; unit = u; is = refl; index = i; at = it; numbered = is }
    from rest (inr it) = later (rest it.0 it.1 (let where_it : i ≡ count_of u + it.0 = it.2 in omega (arith, is, where_it)))
