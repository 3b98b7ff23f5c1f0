-- The calls of a batch, one after the other.
use Rattle.std.proofs.Common.{◌≡◌, ℕ, ◌+◌, ◌<◌, List, [], ◌∷◌, ◌++◌, take, length, get_or, sym, ap, subst, ◌∙◌}
use Rattle.std.proofs.lemmas.List.{take_more}
use Rattle.connection_messages.specs.ReadBack.{IsSayable, AreSayable}
use Rattle.connection_messages.specs.declared.outgoing.Outgoing.{Outgoing}

sayable_behind : (os : List Outgoing) (o : Outgoing) → AreSayable os → IsSayable o → AreSayable (os ++ o ∷ [])
sayable_behind [] o are is = (is, tt)
sayable_behind (x ∷ os) o are is = (are.0, sayable_behind os o are.1 is)

pub sayable_more : (os : List Outgoing) (n : ℕ) (o : Outgoing) → n < length os → o ≡ get_or os n o → AreSayable (take n os) → IsSayable o → AreSayable (take (n + 1) os)
sayable_more os n o within same are is =
    subst AreSayable (sym (take_more os n o within ∙ ap (λ x. take n os ++ x ∷ []) (sym same))) (sayable_behind (take n os) o are is)
