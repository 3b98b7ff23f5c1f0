-- Lists of which each element holds something, and fronts of lists.
use Rattle.std.proofs.Common.{◌≡◌, ℕ, zero, suc, List, [], ◌∷◌, ◌++◌, map, filter, Bool, true, false, cond, Some, refl, sym, ap, subst, ◌∙◌, append_assoc}
use Rattle.std.specs.Prelude.{⊤, slice_get, flat_map}

abbrev pub AllOf : {X : Type 0} → (X → Type 0) → List X → Type 0
AllOf P [] = ⊤
AllOf P (x ∷ xs) = P x × AllOf P xs

pub all-append : {X : Type 0} (P : X → Type 0) (xs ys : List X) → AllOf P xs → AllOf P ys → AllOf P (xs ++ ys)
all-append P [] ys first second = second
all-append P (x ∷ xs) ys first second = (first.0, all-append P xs ys first.1 second)

pub all-front : {X : Type 0} (P : X → Type 0) (xs ys : List X) → AllOf P (xs ++ ys) → AllOf P xs
all-front P [] ys all = tt
all-front P (x ∷ xs) ys all = (all.0, all-front P xs ys all.1)

pub all-back : {X : Type 0} (P : X → Type 0) (xs ys : List X) → AllOf P (xs ++ ys) → AllOf P ys
all-back P [] ys all = all
all-back P (x ∷ xs) ys all = all-back P xs ys all.1

pub all-weaker : {X : Type 0} (P Q : X → Type 0) → ((x : X) → P x → Q x) → (xs : List X) → AllOf P xs → AllOf Q xs
all-weaker P Q weaker [] all = tt
all-weaker P Q weaker (x ∷ xs) all = (weaker x all.0, all-weaker P Q weaker xs all.1)

pub all-at : {X : Type 0} (P : X → Type 0) (xs : List X) (i : ℕ) (x : X) → AllOf P xs → slice_get xs i ≡ Some x → P x
all-at P [] i x all at = absurd (cc)
all-at P (y ∷ xs) zero x all at = subst P (let same : y ≡ x = cc in same) all.0
all-at P (y ∷ xs) (suc i) x all at = all-at P xs i x all.1 at

-- a list that is mapped, cut in two
pub split_map : {X Y : Type 0} (f : X → Y) (xs ys : List Y) (zs : List X) → xs ++ ys ≡ map f zs → (front : List X) × (rest : List X) × (zs ≡ front ++ rest) × (xs ≡ map f front)
split_map f [] ys zs same = ([], zs, refl, refl)
split_map f (x ∷ xs) ys [] same = absurd (cc)
split_map f (x ∷ xs) ys (z ∷ zs) same =
    let cut = split_map f xs ys zs (cc) in
    let head : x ≡ f z = cc in
    (z ∷ cut.0, cut.1, ap (λ l. z ∷ l) cut.2, (λ i. head i ∷ cut.3 i))

pub flat-append : {X Y : Type 0} (f : X → List Y) (xs ys : List X) → flat_map f (xs ++ ys) ≡ flat_map f xs ++ flat_map f ys
flat-append f [] ys = refl
flat-append f (x ∷ xs) ys = ap (λ l. f x ++ l) (flat-append f xs ys) ∙ sym (append_assoc (f x) (flat_map f xs) (flat_map f ys))

pub flat-empty : {X Y : Type 0} (f : X → List Y) (xs : List X) → AllOf (λ x. f x ≡ []) xs → flat_map f xs ≡ []
flat-empty f [] all = refl
flat-empty f (x ∷ xs) all = λ i. all.0 i ++ flat-empty f xs all.1 i

kept_on : {X : Type 0} (b : Bool) (x : X) (front rest whole : List X) → whole ≡ front ++ rest → cond b (x ∷ whole) whole ≡ cond b (x ∷ front) front ++ rest
kept_on true x front rest whole h = ap (λ l. x ∷ l) h
kept_on false x front rest whole h = h

pub filter-append : {X : Type 0} (p : X → Bool) (xs ys : List X) → filter p (xs ++ ys) ≡ filter p xs ++ filter p ys
filter-append p [] ys = refl
filter-append p (x ∷ xs) ys = kept_on (p x) x (filter p xs) (filter p ys) (filter p (xs ++ ys)) (filter-append p xs ys)
