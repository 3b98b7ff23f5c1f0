-- Tests, and options.
use Rattle.std.proofs.Common.{◌≡◌, ◌≢◌, ℕ, ◌==◌, Bool, true, false, ◌&&◌, ◌||◌, not, ◌⊎◌, inl, inr, Option, Some, None, refl}
use Rattle.std.proofs.lemmas.Bool.Decides.{Decides-eqb, not_from_Decides}
use Rattle.std.specs.Prelude.{is_some}
use Rattle.std.specs.Option.{is_none}
use Rattle.connection_history.specs.History.{or_else}

-- ---- numbers

-- equal by the test
pub same : (a b : ℕ) → (a == b) ≡ true → a ≡ b
same a b h = (Decides-eqb a b).0 h

-- the test of equal numbers
pub same_test : (a b : ℕ) → a ≡ b → (a == b) ≡ true
same_test a b h = (Decides-eqb a b).1 h

-- different by the test
pub apart : (a b : ℕ) → (a == b) ≡ false → a ≢ b
apart a b h = not_from_Decides (a == b) (Decides-eqb a b) h

different_if : (a b : ℕ) (test : Bool) → (a == b) ≡ test → a ≢ b → (a == b) ≡ false
different_if a b true is other = absurd (other (same a b is))
different_if a b false is other = is

-- the test of different numbers
pub different : (a b : ℕ) → a ≢ b → (a == b) ≡ false
different a b other = different_if a b (a == b) refl other

-- ---- one test

-- it holds or it doesn't
pub two : (b : Bool) → (b ≡ true) ⊎ (b ≡ false)
two true = inl refl
two false = inr refl

-- ---- two tests

-- both hold, so the first does
pub and-left : (a b : Bool) → (a && b) ≡ true → a ≡ true
and-left true b h = refl
and-left false b h = h

-- both hold, so the second does
pub and-right : (a b : Bool) → (a && b) ≡ true → b ≡ true
and-right true b h = h
and-right false b h = absurd (cc)

pub or_assoc : (a b c : Bool) → ((a || b) || c) ≡ (a || (b || c))
or_assoc true b c = refl
or_assoc false b c = refl

-- a test or nothing
pub or-false : (a : Bool) → (a || false) ≡ a
or-false true = refl
or-false false = refl

-- its opposite holds
pub not-true : (a : Bool) → not a ≡ true → a ≡ false
not-true true h = absurd (cc)
not-true false h = refl

-- ---- options

-- nothing is there
pub is_none-none : {A : Type 0} (o : Option A) → is_none o ≡ true → o ≡ None
is_none-none None h = refl
is_none-none (Some x) h = absurd (cc)

-- something is there
pub is_some-some : {A : Type 0} (o : Option A) → is_some o ≡ true → (x : A) × (o ≡ Some x)
is_some-some None h = absurd (cc)
is_some-some (Some x) h = (x, refl)

-- nothing comes later
pub or_else-none : {A : Type 0} (o : Option A) → or_else o None ≡ o
or_else-none None = refl
or_else-none (Some x) = refl
