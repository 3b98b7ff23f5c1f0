-- Lists that begin others.
use Rattle.std.proofs.Common.{◌≡◌, List, [], ◌∷◌, ◌++◌, map, refl, sym, ap, ◌∙◌, append_assoc, append-nil}
use Rattle.peer_output.specs.Cancelled.{Begins}

pub begins-nothing : {A : Type 0} (xs : List A) → Begins [] xs
begins-nothing xs = record { rest = xs; joined = refl }

pub begins-itself : {A : Type 0} (xs : List A) → Begins xs xs
begins-itself xs = record { rest = []; joined = sym (append-nil xs) }

pub begins-joined : {A : Type 0} (xs ys : List A) → Begins xs (xs ++ ys)
begins-joined xs ys = record { rest = ys; joined = refl }

pub begins-same : {A : Type 0} (xs ys : List A) → xs ≡ ys → Begins xs ys
begins-same xs ys same = record { rest = []; joined = sym same ∙ sym (append-nil xs) }

pub begins-more : {A : Type 0} (xs ys zs : List A) → Begins xs ys → Begins xs (ys ++ zs)
begins-more xs ys zs h = record { rest = h.rest ++ zs; joined = ap (λ l. l ++ zs) h.joined ∙ append_assoc xs h.rest zs }

pub begins-front : {A : Type 0} (xs ys zs : List A) → Begins (xs ++ ys) zs → Begins xs zs
begins-front xs ys zs h = record { rest = ys ++ h.rest; joined = h.joined ∙ append_assoc xs ys h.rest }

pub begins-on : {A : Type 0} (xs ys zs : List A) → Begins xs ys → Begins ys zs → Begins xs zs
begins-on xs ys zs h k = record { rest = h.rest ++ k.rest; joined = k.joined ∙ ap (λ l. l ++ k.rest) h.joined ∙ append_assoc xs h.rest k.rest }

-- a list that begins the empty one is empty
pub begins-empty : {A : Type 0} (xs : List A) → Begins xs [] → xs ≡ []
begins-empty [] h = refl
begins-empty (x ∷ xs) h = let joined = h.joined in cc

-- what begins a list of constructed values begins a list of what they are made of
pub unmapped : {A B : Type 0} (f : A → B) (inj : (a b : A) → f a ≡ f b → a ≡ b) (xs ys : List A) → Begins (map f xs) (map f ys) → Begins xs ys
unmapped f inj [] ys h = begins-nothing ys
unmapped f inj (x ∷ xs) [] h = let joined = h.joined in cc
unmapped f inj (x ∷ xs) (y ∷ ys) h =
    let joined : f y ∷ map f ys ≡ f x ∷ (map f xs ++ h.rest) = h.joined in
    let rest = unmapped f inj xs ys (record { rest = h.rest; joined = cc }) in
    record { rest = rest.rest; joined = let first : y ≡ x = inj y x (cc) in let behind = rest.joined in cc }
