-- The least free slot of the map is the first that the clerk sees as free.
use Rattle.std.proofs.Common.{◌≡◌, ℕ, ◌<◌, ◌≤◌, List, length, Option, Some, None, position, is_some, sym, ap, ◌∙◌, arith}
use Rattle.std.specs.Prelude.{MatchOption}
use Rattle.std.specs.Int.{bit_at}
use Rattle.job_slots.specs.declared.view.Look.{Look}
use Rattle.job_slots.specs.Looks.{is_free, view_looks}
use Rattle.job_slots.specs.Inner.FreeSlots.{free_bit}
use Rattle.job_slots.proofs.Frees.{first_is, none_is}
use Rattle.job_slots.proofs.clerk.ClerkSeat.has_room.Goals as goal

found_is : {J : Type 0} (looks : List (Look J)) (bits : ℕ) (found : Option ℕ) → length looks ≤ 128 → ((k : ℕ) → k < 128 → bit_at bits k ≡ free_bit looks k)
    → MatchOption found ((k : ℕ) → k < 128 → bit_at bits k ≡ 0) (λ slot. (slot < 128) × (bit_at bits slot ≡ 1) × ((k : ℕ) → k < slot → bit_at bits k ≡ 0))
    → is_some found ≡ is_some (position is_free looks)
found_is looks bits None few mapped none =
    sym (ap is_some (none_is looks (λ k near. let low : k < 128 = omega (arith, near, few) in sym (mapped k low) ∙ none k low)))
found_is looks bits (Some slot) few mapped least =
    sym (ap is_some (first_is looks slot (sym (mapped slot least.0) ∙ least.1)
    (λ k below. let low : k < 128 = omega (arith, below, least.0) in sym (mapped k low) ∙ least.2 k below)))

pub returns : goal.returns
returns g c =
    let clerk = c.args.self.now in
    let looks = view_looks clerk.seat.me.0 in
    let few : length looks ≤ 128 = omega (arith, clerk.sized.0, clerk.sized.1) in
    c.is_some.ensures ∙ found_is looks clerk.free.bits c.least.result few clerk.mapped c.least.ensures
