-- With one more number, runs have this one, and what they had.
use Rattle.std.proofs.Common.{◌≡◌, ℕ, ◌+◌, ◌<◌, ◌≤◌, ◌==◌, ◌||◌, List, [], ◌∷◌, Bool, true, false, refl, sym, ap, ◌∙◌, arith, ⊎_elim, if◌then◌else◌, subst}
use Rattle.std.proofs.lemmas.Bool.{cases_lt, cases_eq, lt-ltb, le-ltb, eq-eqb, ne_eqb}
use Rattle.conversation_rules.specs.Runs.{AreRuns, is_in, has_number, joined, with_number}
use Rattle.conversation_ids.proofs.Running.{with-behind, before-run, behind-run, in-run, missing-rest, past}

-- a run of a number and those on one side of it
or-swap : (a b c : Bool) → (a || (b || c)) ≡ (b || (a || c))
or-swap true true c = refl
or-swap true false c = refl
or-swap false b c = refl

or-true : (a : Bool) → (a || true) ≡ true
or-true true = refl
or-true false = refl

or-assoc : (a b c : Bool) → ((a || b) || c) ≡ (a || (b || c))
or-assoc true b c = refl
or-assoc false b c = refl

is : (m n : ℕ) → m ≡ n → (m == n) ≡ true
is m n h = eq-eqb m n h

is-not : (m n : ℕ) → (m ≡ n → ⊥) → (m == n) ≡ false
is-not m n h = ne_eqb m n h

-- by where m stands: below the first, the number itself, among the others, or behind the last
single : (m n : ℕ) → is_in m (n, n) ≡ (m == n)
single m n = ⊎_elim
    (λ l. before-run m (n, n) l ∙ sym (is-not m n (λ e. let f : m ≡ n = e in absurd (omega (arith, l, f)))))
    (λ g. ⊎_elim (λ b. behind-run m (n, n) b ∙ sym (is-not m n (λ e. let f : m ≡ n = e in absurd (omega (arith, b, f)))))
    (λ i. in-run m (n, n) g i ∙ sym (is m n (let f : m ≡ n = omega (arith, g, i) in f))) (cases_lt n m))
    (cases_lt m n)

-- a run that begins one number earlier
front : (m n : ℕ) (e : ℕ × ℕ) → e.1 ≡ n + 1 → e.1 ≤ e.0 → is_in m (e.0, n) ≡ ((m == n) || is_in m e)
front m n e near order = ⊎_elim
    (λ l. before-run m (e.0, n) l
    ∙ sym (ap (λ b. b || is_in m e) (is-not m n (λ q. let f : m ≡ n = q in absurd (omega (arith, l, f)))) ∙ before-run m e (let f : m < e.1 = omega (arith, l, near) in f)))
    (λ g. ⊎_elim
    (λ b. behind-run m (e.0, n) b
    ∙ sym (ap (λ x. x || is_in m e) (is-not m n (λ q. let f : m ≡ n = q in absurd (omega (arith, b, f, near, order)))) ∙ behind-run m e b))
    (λ i. in-run m (e.0, n) g i
    ∙ sym (⊎_elim
    (λ same. ap (λ x. x || is_in m e) (is m n same))
    (λ other. ap (λ x. x || is_in m e) (is-not m n other) ∙ in-run m e (⊎_elim (λ s. absurd (other (let f : m ≡ n = omega (arith, g, s, near) in f))) (λ h. h) (cases_lt m e.1)) i)
    (cases_eq m n)))
    (cases_lt e.0 m))
    (cases_lt m n)

-- a run that ends one number later
back : (m n : ℕ) (e : ℕ × ℕ) → n ≡ e.0 + 1 → e.1 ≤ e.0 → is_in m (n, e.1) ≡ ((m == n) || is_in m e)
back m n e near order = ⊎_elim
    (λ l. before-run m (n, e.1) l
    ∙ sym (ap (λ b. b || is_in m e) (is-not m n (λ q. let f : m ≡ n = q in absurd (omega (arith, l, f, near, order)))) ∙ before-run m e l))
    (λ g. ⊎_elim
    (λ b. behind-run m (n, e.1) b
    ∙ sym (ap (λ x. x || is_in m e) (is-not m n (λ q. let f : m ≡ n = q in absurd (omega (arith, b, f)))) ∙ behind-run m e (let f : e.0 < m = omega (arith, b, near) in f)))
    (λ i. in-run m (n, e.1) g i
    ∙ sym (⊎_elim
    (λ same. ap (λ x. x || is_in m e) (is m n same))
    (λ other. ap (λ x. x || is_in m e) (is-not m n other) ∙ in-run m e g (⊎_elim (λ s. absurd (other (let f : m ≡ n = omega (arith, i, s, near) in f))) (λ h. h) (cases_lt e.0 m)))
    (cases_eq m n)))
    (cases_lt n m))
    (cases_lt m e.1)

-- two runs that meet are one
meet : (m n : ℕ) (first : ℕ) (f : ℕ × ℕ) → f.1 ≡ n + 1 → f.1 ≤ f.0 → first ≤ n → is_in m (f.0, first) ≡ (is_in m (n, first) || is_in m f)
meet m n first f near order low = ⊎_elim
    (λ l. before-run m (f.0, first) l
    ∙ sym (ap (λ b. b || is_in m f) (before-run m (n, first) l) ∙ before-run m f (let h : m < f.1 = omega (arith, l, near, low) in h)))
    (λ g. ⊎_elim
    (λ b. behind-run m (f.0, first) b
    ∙ sym (ap (λ x. x || is_in m f) (behind-run m (n, first) (let h : n < m = omega (arith, b, near, order) in h)) ∙ behind-run m f b))
    (λ i. in-run m (f.0, first) g i
    ∙ sym (⊎_elim
    (λ later. ap (λ x. x || is_in m f) (behind-run m (n, first) later) ∙ in-run m f (let h : f.1 ≤ m = omega (arith, later, near) in h) i)
    (λ within. ap (λ x. x || is_in m f) (in-run m (n, first) g within))
    (cases_lt n m)))
    (cases_lt f.0 m))
    (cases_lt m first)

joined-has : (m n first : ℕ) (es : List (ℕ × ℕ)) → first ≤ n → AreRuns (n + 1) es → has_number m (joined n first es) ≡ (is_in m (n, first) || has_number m es)
joined-has m n first [] low runs = refl
joined-has m n first (f ∷ es) low runs = ⊎_elim
    (λ near. ap (has_number m) (ap (λ b. if b then (f.0, first) ∷ es else (n, first) ∷ (f ∷ es)) (eq-eqb f.1 (n + 1) near))
    ∙ ap (λ b. b || has_number m es) (meet m n first f near runs.1 low) ∙ or-assoc (is_in m (n, first)) (is_in m f) (has_number m es))
    (λ apart. ap (has_number m) (ap (λ b. if b then (f.0, first) ∷ es else (n, first) ∷ (f ∷ es)) (ne_eqb f.1 (n + 1) apart)))
    (cases_eq f.1 (n + 1))

with-before : (n : ℕ) (e : ℕ × ℕ) (es : List (ℕ × ℕ)) → n + 1 < e.1 → with_number n (e ∷ es) ≡ (n, n) ∷ (e ∷ es)
with-before n e es h = ap (λ b. if b then (n, n) ∷ (e ∷ es) else (if n + 1 == e.1 then (e.0, n) ∷ es else (if n == e.0 + 1 then joined n e.1 es else e ∷ with_number n es))) (lt-ltb (n + 1) e.1 h)

with-near : (n : ℕ) (e : ℕ × ℕ) (es : List (ℕ × ℕ)) → e.1 ≡ n + 1 → with_number n (e ∷ es) ≡ (e.0, n) ∷ es
with-near n e es h =
    ap (λ b. if b then (n, n) ∷ (e ∷ es) else (if n + 1 == e.1 then (e.0, n) ∷ es else (if n == e.0 + 1 then joined n e.1 es else e ∷ with_number n es))) (le-ltb (n + 1) e.1 (let f : e.1 ≤ n + 1 = omega (arith, h) in f))
    ∙ ap (λ b. if b then (e.0, n) ∷ es else (if n == e.0 + 1 then joined n e.1 es else e ∷ with_number n es)) (eq-eqb (n + 1) e.1 (sym h))

pub with-has : (from m n : ℕ) (es : List (ℕ × ℕ)) → AreRuns from es → has_number n es ≡ false → has_number m (with_number n es) ≡ ((m == n) || has_number m es)
with-has from m n [] runs missing = ap (λ b. b || false) (single m n)
with-has from m n (e ∷ es) runs missing =
    ⊎_elim
    (λ before. ⊎_elim
    (λ far. ap (has_number m) (with-before n e es far) ∙ ap (λ b. b || has_number m (e ∷ es)) (single m n))
    (λ near. let h : e.1 ≡ n + 1 = omega (arith, before, near) in
    ap (has_number m) (with-near n e es h) ∙ ap (λ b. b || has_number m es) (front m n e h runs.1) ∙ or-assoc (m == n) (is_in m e) (has_number m es))
    (cases_lt (n + 1) e.1))
    (λ behind.
    let later : e.0 < n = past n e es missing behind in
    ap (has_number m) (with-behind n e es runs.1 later)
    ∙ ⊎_elim
    (λ far.
    ap (has_number m) (ap (λ b. if b then joined n e.1 es else e ∷ with_number n es) (ne_eqb n (e.0 + 1) (λ same. let f : n ≡ e.0 + 1 = same in absurd (omega (arith, far, f)))))
    ∙ ap (λ b. is_in m e || b) (with-has (e.0 + 2) m n es runs.2 (missing-rest (is_in n e) (has_number n es) missing))
    ∙ or-swap (is_in m e) (m == n) (has_number m es))
    (λ near. let h : n ≡ e.0 + 1 = omega (arith, later, near) in
    ap (has_number m) (ap (λ b. if b then joined n e.1 es else e ∷ with_number n es) (eq-eqb n (e.0 + 1) h))
    ∙ joined-has m n e.1 es (let o : e.1 ≤ e.0 = runs.1 in let f : e.1 ≤ n = omega (arith, o, later) in f) (subst (λ k. AreRuns k es) (let f : e.0 + 2 ≡ n + 1 = omega (arith, h) in f) runs.2)
    ∙ ap (λ b. b || has_number m es) (back m n e h runs.1) ∙ or-assoc (m == n) (is_in m e) (has_number m es))
    (cases_lt (e.0 + 1) n))
    (cases_lt n e.1)
