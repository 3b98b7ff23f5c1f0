use Rattle.std.proofs.Common.{◌≡◌, ◌++◌, map, take, drop, true}
use Rattle.answer_desk.specs.Waiting.{whole_front, behind_front}
use Rattle.answer_desk.specs.Seen.{waiting_of}
use Rattle.answer_desk.specs.Inner.Units.{front_finished}
use Rattle.answer_desk.proofs.front.Front.find.Given as goal

-- the units so far are whole, and what is left leads to the same front and the same rest as all units
abbrev pub invariant-loop-count : goal.invariant-loop-count
invariant-loop-count l =
    let units = map (waiting_of l.numbers) l.units.items in
    let left = drop l.count units in
    record {
      whole : map (waiting_of l.numbers) (take l.count l.units.items) ++ whole_front left ≡ whole_front units;
      behind : behind_front left ≡ behind_front units;
      known : front_finished l.known left ≡ true;
    }
