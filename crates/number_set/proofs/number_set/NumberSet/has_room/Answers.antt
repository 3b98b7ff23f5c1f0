use Rattle.std.proofs.Common.{◌-◌, IsTrue, map, take, nat_lt, subst, arith}
use Rattle.number_set.specs.Numbers.{HasRoom}
use Rattle.number_set.specs.Words.{marks_of}
use Rattle.number_set.proofs.Sets.{length-room, room-told}
use Rattle.number_set.proofs.number_set.NumberSet.has_room.Goals as goal

pub returns-then-number-self : goal.returns-then-number-self
returns-then-number-self c =
    let set = c.self.inside in
    let long = length-room set.first set.room set.len set.words.items (map (λ counts. counts.items) set.levels.items) c.self.invariant in
    let told = room-told (record { first = set.first; marks = take set.room (marks_of set.words.items) }) c.args.number set.room long (omega (arith, c.if-number-self.true)) in
    subst (λ s. (IsTrue (nat_lt (c.args.number - set.first) set.room) → HasRoom s c.args.number) × (HasRoom s c.args.number → IsTrue (nat_lt (c.args.number - set.first) set.room))) c.self.view_is told
