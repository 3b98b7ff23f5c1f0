-- The map of the free slots beside the clerk's looks.
use Rattle.std.proofs.Common.{◌≡◌, ◌≢◌, ℕ, zero, suc, ◌<◌, Bool, true, false, cond, ltb, List, [], ◌∷◌, length, set, replicate, sym, refl, ap, ◌∙◌, subst, arith}
use Rattle.std.specs.Prelude.{Some, None, slice_get, position, if◌then◌else◌}
use Rattle.std.specs.List.{list_all, position_or_len}
use Rattle.std.specs.Int.{bit_at}
use Rattle.std.proofs.lemmas.Bool.{lt-ltb, le-ltb, ltb-true, ltb-false}
use native.Mathlib.Decide.{ℕ_discrete}
use Rattle.job_slots.specs.declared.view.Look.{Look}
use Rattle.job_slots.specs.declared.view.Look.TheVariants.{Free, Filling, In, Seen}
use Rattle.job_slots.specs.Looks.{is_free, is_settled}
use Rattle.job_slots.specs.Inner.FreeSlots.{free_bit}

module _ {J : Type 0} where
  pub free_there : (looks : List (Look J)) (i : ℕ) → free_bit looks i ≡ 1 → slice_get looks i ≡ Some Free
  free_there [] i e = absurd (omega arith)
  free_there (Free ∷ ls) zero e = refl
  free_there (l ∷ ls) zero e = absurd (omega arith)
  free_there (l ∷ ls) (suc i) e = free_there ls i e

  pub free_within : (looks : List (Look J)) (i : ℕ) → free_bit looks i ≡ 1 → i < length looks
  free_within [] i e = absurd (omega arith)
  free_within (l ∷ ls) zero e = omega arith
  free_within (l ∷ ls) (suc i) e = let h = free_within ls i e in omega arith

  -- a slot between two calls that is not free has a job
  pub in_use_there : (looks : List (Look J)) (i : ℕ) → list_all is_settled looks ≡ true → i < length looks → free_bit looks i ≢ 1 → (job : J) × (slice_get looks i ≡ Some (In job))
  in_use_there [] i all near used = absurd (omega arith)
  in_use_there (Free ∷ ls) zero all near used = absurd (used refl)
  in_use_there (Filling ∷ ls) zero all near used = cc
  in_use_there (In job ∷ ls) zero all near used = (job, refl)
  in_use_there (Seen job after ∷ ls) zero all near used = cc
  in_use_there (Free ∷ ls) (suc i) all near used = in_use_there ls i all (omega arith) used
  in_use_there (Filling ∷ ls) (suc i) all near used = cc
  in_use_there (In job ∷ ls) (suc i) all near used = in_use_there ls i all (omega arith) used
  in_use_there (Seen job after ∷ ls) (suc i) all near used = cc

  pub settled_set : (looks : List (Look J)) (i : ℕ) (x : Look J) → list_all is_settled looks ≡ true → is_settled x ≡ true → list_all is_settled (set looks i x) ≡ true
  settled_set [] i x all new = refl
  settled_set (Free ∷ ls) zero x all new = simp new all
  settled_set (Filling ∷ ls) zero x all new = cc
  settled_set (In job ∷ ls) zero x all new = simp new all
  settled_set (Seen job after ∷ ls) zero x all new = cc
  settled_set (Free ∷ ls) (suc i) x all new = settled_set ls i x all new
  settled_set (Filling ∷ ls) (suc i) x all new = cc
  settled_set (In job ∷ ls) (suc i) x all new = settled_set ls i x all new
  settled_set (Seen job after ∷ ls) (suc i) x all new = cc

  bit_here : (looks : List (Look J)) (i : ℕ) (x : Look J) → i < length looks → free_bit (set looks i x) i ≡ (if is_free x then 1 else 0)
  bit_here [] i x near = absurd (omega arith)
  bit_here (l ∷ ls) zero x near = refl
  bit_here (l ∷ ls) (suc i) x near = bit_here ls i x (omega arith)

  bit_elsewhere : (looks : List (Look J)) (i k : ℕ) (x : Look J) → k ≢ i → free_bit (set looks i x) k ≡ free_bit looks k
  bit_elsewhere [] i k x other = refl
  bit_elsewhere (l ∷ ls) zero zero x other = absurd (other refl)
  bit_elsewhere (l ∷ ls) zero (suc k) x other = refl
  bit_elsewhere (l ∷ ls) (suc i) zero x other = refl
  bit_elsewhere (l ∷ ls) (suc i) (suc k) x other = bit_elsewhere ls i k x (λ same. other (ap suc same))

  -- the map follows a change of one look
  pub mapped_set : (looks : List (Look J)) (i : ℕ) (x : Look J) (bits after : ℕ) → i < length looks
      → ((k : ℕ) → k < 128 → bit_at bits k ≡ free_bit looks k) → bit_at after i ≡ (if is_free x then 1 else 0) → ((k : ℕ) → k < 128 → k ≢ i → bit_at after k ≡ bit_at bits k)
      → (k : ℕ) → k < 128 → bit_at after k ≡ free_bit (set looks i x) k
  mapped_set looks i x bits after near map here others k low = elim (ℕ_discrete k i) [
    | yes same ↦ subst (λ (j : ℕ). bit_at after j ≡ free_bit (set looks i x) j) (sym same) (here ∙ sym (bit_here looks i x near))
    | no other ↦ others k low other ∙ map k low ∙ sym (bit_elsewhere looks i k x other)
  ]

  first_len : (looks : List (Look J)) (i : ℕ) → free_bit looks i ≡ 1 → ((k : ℕ) → k < i → free_bit looks k ≡ 0) → position_or_len is_free looks ≡ i
  first_len [] i e below = absurd (omega arith)
  first_len (Free ∷ ls) zero e below = refl
  first_len (l ∷ ls) zero e below = absurd (omega arith)
  first_len (Free ∷ ls) (suc i) e below = absurd (let taken = below 0 (omega arith) in omega arith)
  first_len (l ∷ ls) (suc i) e below = let h = first_len ls i e (λ k lt. below (suc k) (omega arith)) in omega (arith, h)

  no_len : (looks : List (Look J)) → ((k : ℕ) → k < length looks → free_bit looks k ≡ 0) → position_or_len is_free looks ≡ length looks
  no_len [] none = refl
  no_len (Free ∷ ls) none = absurd (let taken = none 0 (omega arith) in omega arith)
  no_len (l ∷ ls) none = let h = no_len ls (λ k lt. none (suc k) (omega arith)) in omega (arith, h)

  -- the least slot that the map has is the first that the clerk sees as free
  pub first_is : (looks : List (Look J)) (i : ℕ) → free_bit looks i ≡ 1 → ((k : ℕ) → k < i → free_bit looks k ≡ 0) → position is_free looks ≡ Some i
  first_is looks i e below = ap (λ (n : ℕ). cond (ltb n (length looks)) (Some n) None) (first_len looks i e below) ∙ ap (λ (b : Bool). cond b (Some i) None) (lt-ltb i (length looks) (free_within looks i e))

  pub none_is : (looks : List (Look J)) → ((k : ℕ) → k < length looks → free_bit looks k ≡ 0) → position is_free looks ≡ None
  none_is looks none = ap (λ (n : ℕ). cond (ltb n (length looks)) (Some n) None) (no_len looks none) ∙ ap (λ (b : Bool). cond b (Some (length looks)) None) (le-ltb (length looks) (length looks) (omega arith))

-- as the table is made: each slot is free
pub settled_all : (T : Type 0) (n : ℕ) → list_all is_settled (replicate {A = Look T} n Free) ≡ true
settled_all T zero = refl
settled_all T (suc n) = settled_all T n

bit_of_all : (T : Type 0) (n k : ℕ) (b : Bool) → ltb k n ≡ b → free_bit (replicate {A = Look T} n Free) k ≡ (if b then 1 else 0)
bit_of_all T zero k true e = absurd (let no_slot = ltb-true k 0 e in omega arith)
bit_of_all T zero k false e = refl
bit_of_all T (suc n) zero true e = refl
bit_of_all T (suc n) zero false e = absurd (let no_slot = ltb-false 0 (suc n) e in omega arith)
bit_of_all T (suc n) (suc k) true e = bit_of_all T n k true (let near = ltb-true (suc k) (suc n) e in lt-ltb k n (omega arith))
bit_of_all T (suc n) (suc k) false e = bit_of_all T n k false (let far = ltb-false (suc k) (suc n) e in le-ltb k n (omega arith))

pub bit_all : (T : Type 0) (n k : ℕ) → free_bit (replicate {A = Look T} n Free) k ≡ (if ltb k n then 1 else 0)
bit_all T n k = bit_of_all T n k (ltb k n) refl
