-- What is summed over the stages of all numbers.
use Rattle.std.proofs.Common.{◌≡◌, ◌≢◌, ℕ, zero, suc, ◌+◌, ◌<◌, ◌≤◌, List, [], ◌∷◌, ◌++◌, length, map, get_or, set, refl, ap, subst, arith}
use Rattle.peer_events.specs.declared.stage.Stage.{Stage}
use Rattle.peer_events.specs.declared.stage.Stage.TheVariants.{Gone}

-- the sum over numbers from n on
abbrev pub total : (ℕ → Stage → ℕ) → ℕ → List Stage → ℕ
total F n [] = 0
total F n (stage ∷ stages) = F n stage + total F (n + 1) stages

pub total-append : (F : ℕ → Stage → ℕ) (n m : ℕ) (xs ys : List Stage) → m ≡ n + length xs → total F n (xs ++ ys) ≡ total F n xs + total F m ys
total-append F n m [] ys is =
    let same : n ≡ m = omega arith in
    let here : total F n ys ≡ total F m ys = ap (λ j. total F j ys) same in
    omega arith
total-append F n m (x ∷ xs) ys is =
    let rest = total-append F (n + 1) m xs ys (omega (arith, is)) in
    omega arith

-- two functions that say the same of the numbers from n on
pub total-same : (F G : ℕ → Stage → ℕ) (n : ℕ) (stages : List Stage) → ((j : ℕ) (o : Stage) → n ≤ j → G j o ≡ F j o) → total G n stages ≡ total F n stages
total-same F G n [] same = refl
total-same F G n (stage ∷ stages) same =
    let here = same n stage (omega arith) in
    let rest = total-same F G (n + 1) stages (λ j o later. same j o (omega arith)) in
    omega arith

-- number m changes its stage, and what is said of it
pub total-changed : (F G : ℕ → Stage → ℕ) (n k m : ℕ) (stages : List Stage) (stage : Stage) → m ≡ n + k → k < length stages
    → ((j : ℕ) (o : Stage) → j ≢ m → G j o ≡ F j o)
    → total G n (set stages k stage) + F m (get_or stages k Gone) ≡ total F n stages + G m stage
total-changed F G n k m [] stage is within others = absurd (omega (arith, within))
total-changed F G n zero m (o ∷ os) stage is within others =
    let same : n ≡ m = omega arith in
    let tail = total-same F G (n + 1) os (λ j p later. others j p (λ e. absurd (omega arith))) in
    subst (λ j. G n stage + total G (n + 1) os + F j o ≡ F n o + total F (n + 1) os + G j stage) same (omega arith)
total-changed F G n (suc k) m (o ∷ os) stage is within others =
    let head : G n o ≡ F n o = others n o (λ e. absurd (omega arith)) in
    let rest = total-changed F G (n + 1) k m os stage (omega arith) (omega (arith, within)) others in
    omega arith

-- stages that say at most as much, each in its place
pub total-most : (F G : ℕ → Stage → ℕ) (n : ℕ) (xs ys : List Stage) → length xs ≡ length ys
    → ((k m : ℕ) → m ≡ n + k → k < length xs → F m (get_or xs k Gone) ≤ G m (get_or ys k Gone))
    → total F n xs ≤ total G n ys
total-most F G n [] ys same each = omega arith
total-most F G n (x ∷ xs) [] same each = absurd (omega (arith, same))
total-most F G n (x ∷ xs) (y ∷ ys) same each =
    let here : F n x ≤ G n y = each 0 n (omega arith) (omega arith) in
    let rest = total-most F G (n + 1) xs ys (omega (arith, same)) (λ k m is within. each (suc k) m (omega arith) (omega arith)) in
    omega arith

-- each stage is changed, and is less by so much
pub total-mapped : (F U : ℕ → Stage → ℕ) (f : Stage → Stage) (n : ℕ) (stages : List Stage) → ((j : ℕ) (o : Stage) → F j o ≡ U j o + F j (f o))
    → total F n stages ≡ total U n stages + total F n (map f stages)
total-mapped F U f n [] each = refl
total-mapped F U f n (stage ∷ stages) each =
    let here = each n stage in
    let rest = total-mapped F U f (n + 1) stages each in
    omega arith

-- stages that say nothing
pub total-none : (F : ℕ → Stage → ℕ) (n : ℕ) (stages : List Stage) → ((k m : ℕ) → F m (get_or stages k Gone) ≡ 0) → total F n stages ≡ 0
total-none F n [] none = refl
total-none F n (stage ∷ stages) none =
    let here = none 0 n in
    let rest = total-none F (n + 1) stages (λ k m. none (suc k) m) in
    omega arith
