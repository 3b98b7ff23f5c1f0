-- The texts of calls, at their places.
use Rattle.std.proofs.Common.{◌≡◌, ℕ, zero, suc, ◌+◌, ◌<◌, List, [], ◌∷◌, length, get_or, refl, sym, ap, ◌∙◌, arith}
use Rattle.connection_messages.specs.Texts.{call_text, call_texts}
use Rattle.connection_messages.specs.declared.outgoing.Outgoing.{Outgoing}

pub length_call_texts : (k : ℕ) (os : List Outgoing) → length (call_texts k os) ≡ length os
length_call_texts k [] = refl
length_call_texts k (o ∷ os) = ap suc (length_call_texts (k + 1) os)

pub call_texts_at : (k i : ℕ) (os : List Outgoing) (o : Outgoing) → i < length os → o ≡ get_or os i o → get_or (call_texts k os) i [] ≡ call_text (k + i) o
call_texts_at k i [] o h is = absurd (let f : i < 0 = h in omega (arith, f))
call_texts_at k zero (p ∷ os) o h is = (let e : k ≡ k + 0 = omega arith in ap (λ n. call_text n p) e) ∙ ap (call_text (k + 0)) (sym is)
call_texts_at k (suc i) (p ∷ os) o h is =
    call_texts_at (k + 1) i os o (let f : suc i < suc (length os) = h in omega (arith, f)) is ∙ ap (λ n. call_text n o) (let e : k + 1 + i ≡ k + suc i = omega arith in e)
