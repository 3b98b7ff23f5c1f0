-- Which way a choice went, and small facts on lists.
use Rattle.std.proofs.Common.{◌≡◌, ℕ, suc, ◌+◌, ◌-◌, ◌⊎◌, inl, inr, Bool, true, false, ◌&&◌, cond, List, [], ◌∷◌, ◌++◌, length, take, drop, get_or, not, take-append-drop, refl, ap, sym, ◌∙◌, arith, length-append}
use Rattle.std.proofs.lemmas.Grind.{common_steps}
use Rattle.std.proofs.lemmas.List.{take_all, take_more}
use Rattle.std.proofs.lemmas.Slice.Eq.{bytes_eq-Decides}
use Rattle.std.specs.List.{list_all}
use Rattle.std.specs.Str.{bytes_eq}

pub choice : {X : Type 0} (t : Bool) (x y z : X) → cond t x y ≡ z → ((t ≡ true) × (x ≡ z)) ⊎ ((t ≡ false) × (y ≡ z))
choice true x y z h = inl (refl, h)
choice false x y z h = inr (refl, h)

pub both : (s t : Bool) → (s && t) ≡ true → (s ≡ true) × (t ≡ true)
both true t h = (refl, h)
both false t h = cc

pub all_of : (p q : ℕ → Bool) → ((b : ℕ) → p b ≡ true → q b ≡ true) → (xs : List ℕ) → list_all p xs ≡ true → list_all q xs ≡ true
all_of p q f [] h = refl
all_of p q f (x ∷ xs) h =
    let parts : (p x ≡ true) × (list_all p xs ≡ true) = both (p x) (list_all p xs) h in
    rw (f x parts.0, all_of p q f xs parts.1)

-- the last of a list that ends so, and what stands before it
pub last_at : (xs : List ℕ) (x : ℕ) → get_or (xs ++ x ∷ []) (length (xs ++ x ∷ []) - 1) 0 ≡ x
last_at xs x = grind (arith, common_steps, length-append xs (x ∷ []))

pub front_at : (xs : List ℕ) (x : ℕ) → take (length (xs ++ x ∷ []) - 1) (xs ++ x ∷ []) ≡ xs
front_at xs x = grind (arith, common_steps, length-append xs (x ∷ []))

pub ends_so : (xs : List ℕ) (x : ℕ) → get_or xs (length xs - 1) 0 ≡ suc x → xs ≡ take (length xs - 1) xs ++ suc x ∷ []
ends_so [] x h = absurd (omega arith)
ends_so (y ∷ ys) x h =
    let whole : take (length (y ∷ ys) - 1 + 1) (y ∷ ys) ≡ y ∷ ys = take_all (length (y ∷ ys) - 1 + 1) (y ∷ ys) (omega arith) in
    sym whole ∙ take_more (y ∷ ys) (length (y ∷ ys) - 1) 0 (omega arith) ∙ ap (λ (b : ℕ). take (length (y ∷ ys) - 1) (y ∷ ys) ++ b ∷ []) h

-- what a text is whose front is compared with a word
pub starts_is : (text front word : List ℕ) (n : ℕ) → front ≡ take n text → bytes_eq front word ≡ true → text ≡ word ++ drop n text
starts_is text front word n is same = sym (take-append-drop n text) ∙ ap (λ (l : List ℕ). l ++ drop n text) (sym is ∙ (bytes_eq-Decides front word).0 same)

pub same_if : (same : Bool) → not same ≡ false → same ≡ true
same_if true h = refl
same_if false h = sym h
