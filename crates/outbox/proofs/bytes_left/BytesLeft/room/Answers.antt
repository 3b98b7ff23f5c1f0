use Rattle.std.proofs.Common.{ℕ, ◌≡◌, ◌∙◌, List, [], ◌∷◌, ◌++◌, refl, arith}
use Rattle.outbox.proofs.bytes_left.BytesLeft.room.Goals as goal

no_front : (front back : List ℕ) → front ++ back ≡ [] → front ≡ []
no_front [] back is = refl
no_front (b ∷ bytes) back is = cc

pub returns-clause-little : goal.returns-clause-little
returns-clause-little c = λ none.
    let front = no_front c.self.inside.front.items c.self.inside.back.items (c.self.view_is ∙ none) in
    let little = c.self.invariant in
    omega (arith, c.saturating_add.ensures, c.capacity.ensures, c.capacity-2.ensures, little.front_room front, little.back_room (little.order front))
