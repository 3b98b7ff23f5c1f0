-- The handler at a place of those that are ready.
use Rattle.std.proofs.Common.{◌≡◌, ℕ, zero, suc, ◌%◌, ◌<◌, List, [], ◌∷◌, length, slice_get, slice_index_or, Option, Some, None, refl, subst, sym, ap, ◌∙◌, arith}
use Rattle.std.proofs.lemmas.Nat.{mod_below}
use Rattle.std.proofs.lemmas.Option.{get_or_from_slice_get}
use Rattle.handler_future.specs.State.{HandlerState}
use Rattle.peer_events.specs.Core.{Core}
use Rattle.peer_events.specs.Turning.{Leaves, ready}
use Rattle.peer_session.specs.Events.{picked}
use Rattle.peer_session.specs.Inner.Turns.{LeavesFrom}

pub no-numbers : (xs : List ℕ) → length xs ≡ 0 → xs ≡ []
no-numbers [] none = refl
no-numbers (x ∷ xs) none = absurd (omega (arith, none))

there-is : (xs : List ℕ) (k : ℕ) → k < length xs → slice_get xs k ≡ Some (slice_index_or xs k 0)
there-is [] k below = absurd (omega (arith, below))
there-is (x ∷ xs) zero below = refl
there-is (x ∷ xs) (suc k) below = there-is xs k (omega (arith, below))

-- where a handler goes out, it is the one that is picked
pub picked-leaves : (core : Core) (pick count : ℕ) (job : HandlerState) (after : Core) → count ≡ length (ready core) → 0 < count
    → LeavesFrom core (slice_get (ready core) (pick % count)) (Some job) after → Leaves core (picked core pick) job after
picked-leaves core pick count job after many some leaves =
    let below : pick % count < count = mod_below pick count some in
    let place : slice_get (ready core) (pick % count) ≡ Some (slice_index_or (ready core) (pick % count) 0) = there-is (ready core) (pick % count) (omega (arith, below, many)) in
    let is : slice_index_or (ready core) (pick % count) 0 ≡ picked core pick = ap (λ n. slice_index_or (ready core) (pick % n) 0) many in
    subst (λ o. LeavesFrom core o (Some job) after) (place ∙ ap Some is) leaves

-- the number at that place is the one that is picked
pub picked-number : (core : Core) (pick count n : ℕ) → count ≡ length (ready core) → slice_get (ready core) (pick % count) ≡ Some n → n ≡ picked core pick
picked-number core pick count n many is =
    sym (get_or_from_slice_get (ready core) (pick % count) n 0 is) ∙ ap (λ k. slice_index_or (ready core) (pick % k) 0) many
