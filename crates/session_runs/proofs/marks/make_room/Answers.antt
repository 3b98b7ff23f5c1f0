use Rattle.std.proofs.Common.{◌≤◌, ◌-◌, ◌+◌, arith}
use Rattle.session_runs.proofs.Rooms.{made-same, made-room}
use Rattle.session_runs.proofs.marks.make_room.Goals as goal

pub returns-clause-same : goal.returns-clause-same
returns-clause-same c =
    let wide : c.args.end ≤ c.args.first + (c.min.result - c.args.first) = omega (arith, c.min.ensures, c.requires.most, c.requires.order) in
    λ n. made-same c.make_room.result c.args.set.now c.make_room.new.self c.args.first (c.min.result - c.args.first) c.args.end n c.make_room.ensures.ok c.make_room.ensures.err wide c.requires.room

pub returns-clause-room : goal.returns-clause-room
returns-clause-room c =
    let wide : c.args.end ≤ c.args.first + (c.min.result - c.args.first) = omega (arith, c.min.ensures, c.requires.most, c.requires.order) in
    made-room c.make_room.result c.args.set.now c.make_room.new.self c.args.first (c.min.result - c.args.first) c.args.end c.make_room.ensures.ok wide
