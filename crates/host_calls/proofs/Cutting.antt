-- A batch is cut call by call.
use Rattle.std.proofs.Common.{◌≡◌, ◌↔◌, ℕ, ◌<◌, List, [], ◌∷◌, ◌++◌, length, take, drop, IsUtf8, refl, sym, ap, ◌∙◌, subst, inl, inr, arith}
use Rattle.std.proofs.lemmas.List.{append_assoc}
use Rattle.connection_messages.specs.declared.outgoing.Outgoing.{Outgoing}
use Rattle.host_calls.specs.declared.code.Why.{Why}
use Rattle.host_calls.specs.Passed.{IsOutgoing, IsNoOutgoing}
use Rattle.host_calls.specs.Batches.{Part, parts, AreTexts, AreOutgoings, LacksParams, AreNoOutgoings}

too_short : (m p : ℕ) (more : List ℕ) → length (m ∷ p ∷ more) < 2 → ⊥
too_short m p more h = grind (arith, h)

pub parts-short : (bytes lengths : List ℕ) → length lengths < 2 → parts bytes lengths ≡ []
parts-short bytes [] h = refl
parts-short bytes (m ∷ []) h = refl
parts-short bytes (m ∷ p ∷ more) h = absurd (too_short m p more h)

-- the call in front, and what is left behind it
pub parts-next : (rest left more method params behind : List ℕ) (m p : ℕ) → left ≡ m ∷ p ∷ more
    → method ≡ take m rest → params ≡ take p (drop m rest) → behind ≡ drop p (drop m rest)
    → parts rest left ≡ (method, params) ∷ parts behind more
parts-next rest left more method params behind m p e f g h =
    ap (parts rest) e ∙ ap (λ xs. (xs, take p (drop m rest)) ∷ parts (drop p (drop m rest)) more) (sym f)
    ∙ ap (λ xs. (method, xs) ∷ parts (drop p (drop m rest)) more) (sym g) ∙ ap (λ xs. (method, params) ∷ parts xs more) (sym h)

-- ---- are they texts?

pub texts-step : (all ps rest : List Part) (p : Part) → (AreTexts ps ↔ AreTexts all) → ps ≡ p ∷ rest → IsUtf8 p.0 → AreTexts rest ↔ AreTexts all
texts-step all ps rest p h e u =
    let Same : List Part → Type 0 = λ xs. AreTexts xs ↔ AreTexts all in let both = subst Same e h in
    (λ r. both.0 (u, r), λ a. (both.1 a).1)

pub texts-not : (all ps rest : List Part) (p : Part) → (AreTexts ps ↔ AreTexts all) → ps ≡ p ∷ rest → ¬ (IsUtf8 p.0) → ¬ (AreTexts all)
texts-not all ps rest p h e not =
    let Same : List Part → Type 0 = λ xs. AreTexts xs ↔ AreTexts all in let both = subst Same e h in
    λ a. not (both.1 a).0

pub texts-end : (all ps : List Part) → (AreTexts ps ↔ AreTexts all) → ps ≡ [] → AreTexts all
texts-end all ps h e = let Same : List Part → Type 0 = λ xs. AreTexts xs ↔ AreTexts all in (subst Same e h).0 tt

-- ---- the calls

-- of all calls the first are these, and then come those
pub record Made (all ps : List Part) (made : List Outgoing) : Type 0 where
  pub texts : AreTexts ps
  pub done : (more : List Outgoing) → AreOutgoings ps more → AreOutgoings all (made ++ more)
  pub lacks : (why : Why) → LacksParams ps why → LacksParams all why

pub made-none : (all : List Part) → AreTexts all → Made all all []
made-none all texts = record { texts = texts; done = λ more are. are; lacks = λ why none. none }

pub made-one : (all ps rest : List Part) (p : Part) (made : List Outgoing) (o : Outgoing) → Made all ps made → ps ≡ p ∷ rest → IsOutgoing p.0 p.1 o → Made all rest (made ++ o ∷ [])
made-one all ps rest p made o h e is =
    let So : List Part → Type 0 = λ xs. Made all xs made in let m = subst So e h in
    record {
      texts = m.texts.1;
      done = λ more are. subst (AreOutgoings all) (sym (append_assoc made (o ∷ []) more)) (m.done (o ∷ more) (is, are));
      lacks = λ why none. m.lacks why (inr none);
    }

pub made-all : (all ps : List Part) (made : List Outgoing) → Made all ps made → ps ≡ [] → AreOutgoings all (made ++ [])
made-all all ps made h e = let So : List Part → Type 0 = λ xs. Made all xs made in (subst So e h).done [] tt

pub made-not : (all ps rest : List Part) (p : Part) (made : List Outgoing) (why : Why) → AreTexts all → Made all ps made → ps ≡ p ∷ rest → IsNoOutgoing p.0 p.1 why → AreNoOutgoings all why
made-not all ps rest p made why texts h e none =
    let So : List Part → Type 0 = λ xs. Made all xs made in let m = subst So e h in
    elim none [
      | inl unread ↦ elim unread [
        | inl memory ↦ inl memory
        | inr not ↦ absurd (not.1 m.texts.0)
      ]
      | inr lacking ↦ inr (inr (texts, m.lacks why (inl lacking.1)))
    ]
