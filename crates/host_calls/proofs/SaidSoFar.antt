-- Several things are said one after the other.
use Rattle.std.proofs.Common.{◌≡◌, ℕ, zero, suc, ℤ, pos, negsuc, ◌+◌, ◌-◌, ◌<◌, ◌≤◌, List, [], ◌∷◌, ◌++◌, length, take, drop, get_or, refl, sym, ap, ◌∙◌, subst, append_assoc, add_assoc, arith}
use Rattle.std.proofs.lemmas.Grind.{common_steps}
use Rattle.std.proofs.lemmas.List.{append-nil, drop-drop, take_more, take_more_set}
use Rattle.std.proofs.Math.ListN.{set}
use Rattle.std.proofs.Math.Seq.{drop-cons}
use Rattle.host_calls.specs.declared.outlet.Outlet.{Outlet}
use Rattle.host_calls.specs.declared.sayings.Saying.{Saying}
use Rattle.host_calls.specs.Sayings.{behind, calls_of, refused_by, refused_of, SaysOne, SaysAll}

-- What was said so far: with whatever is said of those that are left it is said of all.
abbrev pub SoFar : Outlet → List Saying → List ℕ → Outlet → ℕ → List Saying → List ℕ → List Saying → ℕ → Type 0
SoFar a hs bytes m passed left rest done refused =
    (b : Outlet) (gs : List Saying) (n : ℕ) → SaysAll m passed left rest b gs n → SaysAll a 0 hs bytes b (done ++ gs) (refused + n)

module _ (a : Outlet) (hs : List Saying) (bytes : List ℕ) where
  pub said-none : SoFar a hs bytes a 0 hs bytes [] 0
  said-none b gs n says = subst (λ k. SaysAll a 0 hs bytes b gs k) (sym (zero_plus n)) says
    where
      zero_plus : (n : ℕ) → 0 + n ≡ n
      zero_plus n = omega arith

  same : (m m' : Outlet) (k k' : ℕ) (left left' : List Saying) (rest rest' : List ℕ) (done done' : List Saying) (r r' : ℕ)
      → m' ≡ m → k' ≡ k → left' ≡ left → rest' ≡ rest → done' ≡ done → r' ≡ r → SoFar a hs bytes m k left rest done r → SoFar a hs bytes m' k' left' rest' done' r'
  same m m' k k' left left' rest rest' done done' r r' e f g h i j said =
      let P : Outlet → Type 0 = λ x. SoFar a hs bytes x k left rest done r in
      let Q : ℕ → Type 0 = λ x. SoFar a hs bytes m' x left rest done r in
      let R : List Saying → Type 0 = λ x. SoFar a hs bytes m' k' x rest done r in
      let S : List ℕ → Type 0 = λ x. SoFar a hs bytes m' k' left' x done r in
      let T : List Saying → Type 0 = λ x. SoFar a hs bytes m' k' left' rest' x r in
      let U : ℕ → Type 0 = λ x. SoFar a hs bytes m' k' left' rest' done' x in
      subst U (sym j) (subst T (sym i) (subst S (sym h) (subst R (sym g) (subst Q (sym f) (subst P (sym e) said)))))

  -- one that is the call of a batch
  over : (m : Outlet) (k : ℕ) (h : Saying) (left : List Saying) (rest : List ℕ) (done : List Saying) (r : ℕ)
      → SoFar a hs bytes m (suc k) (h ∷ left) rest done r → SoFar a hs bytes m k left (behind h rest) (done ++ h ∷ []) r
  over m k h left rest done r said b gs n says =
      subst (λ l. SaysAll a 0 hs bytes b l (r + n)) (sym (append_assoc done (h ∷ []) gs)) (said b (h ∷ gs) n (refl, says))

  -- one that is said
  one : (m m' : Outlet) (h g : Saying) (left : List Saying) (rest : List ℕ) (done : List Saying) (r : ℕ)
      → SaysOne m m' h left rest g → SoFar a hs bytes m 0 (h ∷ left) rest done r → SoFar a hs bytes m' (calls_of h) left (behind h rest) (done ++ g ∷ []) (r + refused_of g)
  one m m' h g left rest done r is said b gs n says =
      subst (λ l. SaysAll a 0 hs bytes b l (r + refused_of g + n)) (sym (append_assoc done (g ∷ []) gs))
      (subst (λ k. SaysAll a 0 hs bytes b (done ++ g ∷ gs) k) (sym (add_assoc r (refused_of g) n)) (said b (g ∷ gs) (refused_of g + n) (m', n, is, says, refl)))

pub refused-most : (g : Saying) → refused_of g ≤ 1
refused-most g = most g.said
  where
    most : (code : ℤ) → refused_by code ≤ 1
    most (pos zero) = omega arith
    most (pos (suc n)) = omega arith
    most (negsuc n) = omega arith

-- ---- by their places

pub drop-more : (i : ℕ) (xs ys : List Saying) → drop i xs ≡ drop i ys → drop (i + 1) xs ≡ drop (i + 1) ys
drop-more i xs ys e = sym (drop-drop 1 i xs) ∙ ap (λ (l : List Saying). drop 1 l) e ∙ drop-drop 1 i ys

-- the one at this place, and those behind it
next : (i : ℕ) (xs ys : List Saying) (d : Saying) → i < length xs → drop i xs ≡ drop i ys → drop i ys ≡ get_or xs i d ∷ drop (i + 1) ys
next i xs ys d h e = sym e ∙ drop-cons xs i d h ∙ ap (λ n. get_or xs i d ∷ drop n xs) (plus_one i) ∙ ap (λ l. get_or xs i d ∷ l) (drop-more i xs ys e)
  where
    plus_one : (i : ℕ) → suc i ≡ i + 1
    plus_one i = omega arith

module _ (a : Outlet) (hs : List Saying) (bytes : List ℕ) where
  pub said-over : (m m' : Outlet) (k k' i r r' : ℕ) (ss ss' : List Saying) (rest rest' : List ℕ) (d : Saying)
      → i < length ss → drop i ss ≡ drop i hs → 0 < k → m' ≡ m → ss' ≡ ss → k' ≡ k - 1 → r' ≡ r → rest' ≡ behind (get_or ss i d) rest
      → SoFar a hs bytes m k (drop i hs) rest (take i ss) r → SoFar a hs bytes m' k' (drop (i + 1) hs) rest' (take (i + 1) ss') r'
  said-over m m' zero k' i r r' ss ss' rest rest' d below e some f g h j q said = absurd (omega (arith, some))
  said-over m m' (suc k) k' i r r' ss ss' rest rest' d below e some f g h j q said =
      let it = get_or ss i d in let left = drop (i + 1) hs in
      let before : SoFar a hs bytes m (suc k) (it ∷ left) rest (take i ss) r = same a hs bytes m m (suc k) (suc k) (drop i hs) (it ∷ left) rest rest (take i ss) (take i ss) r r refl refl (sym (next i ss hs d below e)) refl refl refl said in
      same a hs bytes m m' k k' left left (behind it rest) rest' (take i ss ++ it ∷ []) (take (i + 1) ss') r r' f (h ∙ minus_one k) refl q (ap (λ (l : List Saying). take (i + 1) l) g ∙ take_more ss i d below) j
      (over a hs bytes m k it left rest (take i ss) r before)
    where
      minus_one : (k : ℕ) → suc k - 1 ≡ k
      minus_one k = omega arith

  pub said-one : (m m' m'' : Outlet) (k k' i r r' : ℕ) (ss ss' : List Saying) (rest rest' : List ℕ) (g d : Saying)
      → i < length ss → drop i ss ≡ drop i hs → k ≡ 0 → SaysOne m m'' (get_or ss i d) (drop (i + 1) ss) rest g → m' ≡ m''
      → ss' ≡ set ss i g → k' ≡ calls_of (get_or ss i d) → r' ≡ r + refused_of g → rest' ≡ behind (get_or ss i d) rest
      → SoFar a hs bytes m k (drop i hs) rest (take i ss) r → SoFar a hs bytes m' k' (drop (i + 1) hs) rest' (take (i + 1) ss') r'
  said-one m m' m'' k k' i r r' ss ss' rest rest' g d below e zero_k is out f h j q said =
      let it = get_or ss i d in let left = drop (i + 1) hs in
      let before : SoFar a hs bytes m 0 (it ∷ left) rest (take i ss) r = same a hs bytes m m k 0 (drop i hs) (it ∷ left) rest rest (take i ss) (take i ss) r r refl (sym zero_k) (sym (next i ss hs d below e)) refl refl refl said in
      let P : List Saying → Type 0 = λ l. SaysOne m m'' it l rest g in
      same a hs bytes m'' m' (calls_of it) k' left left (behind it rest) rest' (take i ss ++ g ∷ []) (take (i + 1) ss') (r + refused_of g) r' out h refl q (ap (λ (l : List Saying). take (i + 1) l) f ∙ take_more_set ss i g below) j
      (one a hs bytes m m'' it g left rest (take i ss) r (subst P (drop-more i ss hs e) is) before)

  pub said-all : (m : Outlet) (k i r : ℕ) (ss : List Saying) (rest : List ℕ) → length ss ≤ i → drop i ss ≡ drop i hs
      → SoFar a hs bytes m k (drop i hs) rest (take i ss) r → SaysAll a 0 hs bytes m ss r
  said-all m k i r ss rest h e said =
      let none : drop i hs ≡ [] = sym e ∙ drop_all i ss h in
      let P : List Saying → Type 0 = λ l. SaysAll m k l rest m [] 0 in
      let all : SaysAll a 0 hs bytes m (take i ss ++ []) (r + 0) = said m [] 0 (subst P (sym none) (refl, refl)) in
      subst (λ l. SaysAll a 0 hs bytes m l r) (append-nil (take i ss) ∙ whole i ss h) (subst (λ n. SaysAll a 0 hs bytes m (take i ss ++ []) n) (plus_zero r) all)
    where
      plus_zero : (n : ℕ) → n + 0 ≡ n
      plus_zero n = omega arith

      drop_all : (i : ℕ) (xs : List Saying) → length xs ≤ i → drop i xs ≡ []
      drop_all i xs h = grind (arith, common_steps)

      whole : (i : ℕ) (xs : List Saying) → length xs ≤ i → take i xs ≡ xs
      whole i xs h = grind (arith, common_steps)
