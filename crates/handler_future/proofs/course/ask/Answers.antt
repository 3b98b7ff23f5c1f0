use Rattle.std.proofs.Common.{◌≡◌, ℕ, List, [], length, length-append, ap, ◌∙◌, arith}
use Rattle.std.proofs.lemmas.List.FromFn.{length-range_with_len}
use Rattle.serde_json.specs.Data.{null}
use Rattle.handler_future.specs.Inner.Course.{Seen}
use Rattle.handler_future.proofs.course.ask.Goals as goal

pub returns-clause-room : goal.returns-clause-room
returns-clause-room c =
    let waits_of : Seen → List ℕ = λ s. s.waits in
    let none : c.make_room.new.course.waits.items ≡ [] = ap waits_of (c.make_room.ensures.same null) ∙ c.requires.no_waits in
    let pushed = c.push_turns.ensures in
    let n : length c.push_turns.new.waits.items ≡ c.args.calls = rw pushed (simp (length-append, length-range_with_len) (rw none (omega arith))) in
    let room = c.in_default.ensures.heard in
    omega (arith, room)

pub push_turns-requires-clause-turns : goal.push_turns-requires-clause-turns
push_turns-requires-clause-turns c =
    let turn_of : Seen → ℕ = λ s. s.turn in
    let same : c.make_room.new.course.turn ≡ c.args.course.now.turn = ap turn_of (c.make_room.ensures.same null) in
    omega (arith, same, c.requires.turns)
