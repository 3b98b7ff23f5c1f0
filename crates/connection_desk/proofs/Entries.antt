-- What the laws of open_calls say of entries with a number each.
use Rattle.std.specs.Prelude.{◌≡◌, ℕ, suc, ◌<◌, ◌≤◌, ◌==◌, ◌&&◌, ◌++◌, ◌∷◌, [], List, Bool, Some, length, filter, if◌then◌else◌}
use Rattle.std.specs.List.{find}
use Rattle.open_calls.specs.Numbered.{at, without, up_to, changed_at, Above, Below}

-- Where each number is above one: so is each that something stands under, and none goes with that one or stands up to it.
abbrev pub AtAbove : Type 0 → Type 0
AtAbove X = (m n : ℕ) (x : X) (es : List (ℕ × X)) → Above m es → at n es ≡ Some x → m < n

abbrev pub WithoutAbove : Type 0 → Type 0
WithoutAbove X = (m : ℕ) (es : List (ℕ × X)) → Above m es → without m es ≡ es

abbrev pub UpToAbove : Type 0 → Type 0
UpToAbove X = (m : ℕ) (es : List (ℕ × X)) → Above m es → up_to m es ≡ []

abbrev pub PassAbove : Type 0 → Type 0
PassAbove X = (m : ℕ) (test : ℕ × X → Bool) (es : List (ℕ × X)) → Above m es → Above m (filter test es)

-- Where each number is below one: so it is below a greater one, and a new last one too; all stand up to the one before it.
abbrev pub BelowMore : Type 0 → Type 0
BelowMore X = (m k : ℕ) (es : List (ℕ × X)) → m ≤ k → Below m es → Below k es

abbrev pub BelowPush : Type 0 → Type 0
BelowPush X = (m n : ℕ) (x : X) (es : List (ℕ × X)) → n < m → Below m es → Below m (es ++ (n, x) ∷ [])

abbrev pub UpToBelow : Type 0 → Type 0
UpToBelow X = (m : ℕ) (es : List (ℕ × X)) → Below (suc m) es → up_to m es ≡ es

-- an entry is changed, or goes, or is the first that passes
abbrev pub AtChanged : Type 0 → Type 0
AtChanged X = (n k : ℕ) (change : X → X) (x : X) (es : List (ℕ × X)) → at n es ≡ Some x → at k (changed_at n change es) ≡ (if n == k then Some (change x) else at k es)

abbrev pub FewerWithout : Type 0 → Type 0
FewerWithout X = (n : ℕ) (x : X) (es : List (ℕ × X)) → at n es ≡ Some x → length (without n es) < length es

abbrev pub FoundAmong : Type 0 → Type 0
FoundAmong X = (test other : ℕ × X → Bool) (es : List (ℕ × X)) → find test (filter other es) ≡ find (λ e. other e && test e) es

-- what is used of calls that come
pub record ArrivalLaws (X : Type 0) : Type 0 where
  pub up_to_above : UpToAbove X
  pub more : BelowMore X
  pub push : BelowPush X
  pub up_to_below : UpToBelow X

-- what is used of calls that are withdrawn
pub record WithdrawalLaws (X : Type 0) : Type 0 where
  pub at : AtAbove X
  pub pass : PassAbove X
  pub found : FoundAmong X
