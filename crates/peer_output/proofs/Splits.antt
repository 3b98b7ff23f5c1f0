-- Where an item stands among items.
use Rattle.std.proofs.Common.{◌≡◌, List, [], ◌∷◌, ◌++◌, ◌⊎◌, inl, inr, refl}

-- in a list with one more item it is the last, or stands before that
pub record IsLast {A : Type 0} (xs before after : List A) (last here : A) : Type 0 where
  pub all : before ≡ xs
  pub same : here ≡ last
  pub none : after ≡ []

pub record IsEarlier {A : Type 0} (xs before : List A) (here : A) : Type 0 where
  pub after : List A
  pub joined : xs ≡ before ++ here ∷ after

not_nothing : {A : Type 0} (before after : List A) (here : A) → [] ≡ before ++ here ∷ after → ⊥
not_nothing [] after here h = cc
not_nothing (b ∷ before) after here h = cc

earlier : {A : Type 0} (x : A) (xs before after : List A) (last here b : A) → x ≡ b
    → IsLast xs before after last here ⊎ IsEarlier xs before here → IsLast (x ∷ xs) (b ∷ before) after last here ⊎ IsEarlier (x ∷ xs) (b ∷ before) here
earlier x xs before after last here b same (inl h) = inl (record { all = let all = h.all in cc; same = h.same; none = h.none })
earlier x xs before after last here b same (inr h) = inr (record { after = h.after; joined = let joined = h.joined in cc })

pub split-push : {A : Type 0} (xs before after : List A) (last here : A) → xs ++ last ∷ [] ≡ before ++ here ∷ after
    → IsLast xs before after last here ⊎ IsEarlier xs before here
split-push [] [] after last here h = inl (record { all = refl; same = cc; none = cc })
split-push [] (b ∷ before) after last here h = absurd (not_nothing before after here (cc))
split-push (x ∷ xs) [] after last here h = inr (record { after = xs; joined = cc })
split-push (x ∷ xs) (b ∷ before) after last here h = earlier x xs before after last here b (cc) (split-push xs before after last here (cc))
