-- A unit is opened where there is room for its numbers.
use Rattle.std.proofs.Common.{◌≡◌, length, sym, ap, subst, arith}
use Rattle.number_set.specs.Numbers.{Marked, HasRoom, is_in}
use Rattle.rpc_messages.specs.Unit.{unit_seen}
use Rattle.answer_desk.specs.Desk.{view as desk_view}
use Rattle.peer_events.specs.Core.{Core, stage_at}
use Rattle.peer_events.specs.Taking.{opened}
use Rattle.peer_events.specs.Turning.{is_ready_stage}
use Rattle.session_runs.specs.Runs.{AreRuns, core_of}
use Rattle.session_runs.proofs.Opening.{AreRuns-roomed, AreRuns-opened, given-here}
use Rattle.session_runs.proofs.runs.Runs.open.Goals as goal

pub overflow_cast-end : goal.overflow_cast-end
overflow_cast-end c = omega (arith, c.requires, ap (λ core. length core.stages) c.self.view_is, c.numbers_of.ensures)

pub overflow_add-end : goal.overflow_add-end
overflow_add-end c = omega (arith, c.requires, ap (λ core. length core.stages) c.self.view_is, c.numbers_of.ensures, c.len-first.ensures.len)

pub make_room-requires-clause-most : goal.make_room-requires-clause-most
make_room-requires-clause-most c = omega (arith, c.requires, ap (λ core. length core.stages) c.self.view_is, c.numbers_of.ensures, c.len-first.ensures.len)

pub make_room-requires-2-clause-most : goal.make_room-requires-2-clause-most
make_room-requires-2-clause-most c = omega (arith, c.requires, ap (λ core. length core.stages) c.self.view_is, c.numbers_of.ensures, c.len-first.ensures.len)

pub enter-requires-clause-numbers : goal.enter-requires-clause-numbers
enter-requires-clause-numbers c = c.self.invariant.numbers

pub enter-requires-clause-room : goal.enter-requires-clause-room
enter-requires-clause-room c = omega (arith, c.requires, ap (λ core. length core.stages) c.self.view_is)

pub invariant_of-self-in_err-make_room-2 : goal.invariant_of-self-in_err-make_room-2
invariant_of-self-in_err-make_room-2 c =
    AreRuns-roomed (record { desk = desk_view c.self.inside.desk; stages = c.self.inside.stages }) c.self.inside.ready c.self.inside.unwritten c.make_room.new.set c.make_room-2.new.set
    c.make_room.ensures.same c.make_room-2.ensures.same
    (λ k here. let h = given-here c.self.inside.stages c.first-lowest.result k c.first-lowest.ensures.gone here in (
      c.in_ok-make_room.ensures.room k h.0 (omega (arith, h.1, c.len-first.ensures.len)),
      subst (λ (s : Marked). HasRoom s k) (sym c.in_err-make_room-2.ensures.err) (c.self.invariant.room k here).1,
    ))
    c.self.invariant

pub invariant_of-self-in_err-enter : goal.invariant_of-self-in_err-enter
invariant_of-self-in_err-enter c =
    subst (λ (core : Core). AreRuns core c.make_room.new.set c.make_room-2.new.set) (sym c.in_err-enter.ensures.err)
    (AreRuns-roomed (record { desk = desk_view c.self.inside.desk; stages = c.self.inside.stages }) c.self.inside.ready c.self.inside.unwritten c.make_room.new.set c.make_room-2.new.set
    c.make_room.ensures.same c.make_room-2.ensures.same
    (λ k here. let h = given-here c.self.inside.stages c.first-lowest.result k c.first-lowest.ensures.gone here in (
      c.in_ok-make_room.ensures.room k h.0 (omega (arith, h.1, c.len-first.ensures.len)),
      c.in_ok-make_room-2.ensures.room k h.0 (omega (arith, h.1, c.len-first.ensures.len)),
    ))
    c.self.invariant)

pub mark_ready-requires-clause-room : goal.mark_ready-requires-clause-room
mark_ready-requires-clause-room c = λ n low high ready. c.in_ok-make_room.ensures.room n (omega (arith, low, c.first-lowest.ensures.within, c.len-first.ensures.len)) high

pub invariant_of-self-2 : goal.invariant_of-self-2
invariant_of-self-2 c =
    let before : Core = record { desk = desk_view c.self.inside.desk; stages = c.self.inside.stages } in
    let u = unit_seen c.args.unit.now in
    let table = c.args.table.now in
    let same : core_of (desk_view c.enter.new.desk) c.enter.new.stages ≡ opened table before u = c.in_ok-enter.ensures.ok in
    let roomed = AreRuns-roomed before c.self.inside.ready c.self.inside.unwritten c.make_room.new.set c.make_room-2.new.set
    c.make_room.ensures.same c.make_room-2.ensures.same
    (λ k here. let h = given-here c.self.inside.stages c.first-lowest.result k c.first-lowest.ensures.gone here in (
      c.in_ok-make_room.ensures.room k h.0 (omega (arith, h.1, c.len-first.ensures.len)),
      c.in_ok-make_room-2.ensures.room k h.0 (omega (arith, h.1, c.len-first.ensures.len)),
    ))
    c.self.invariant in
    subst (λ (core : Core). AreRuns core c.mark_ready.new.set c.make_room-2.new.set) (sym same)
    (AreRuns-opened table before u c.make_room.new.set c.mark_ready.new.set c.make_room-2.new.set c.first-lowest.result c.first-lowest.ensures.within
    (omega (arith, c.requires, ap (λ core. length core.stages) c.self.view_is)) c.first-lowest.ensures.gone
    (λ k low high. (
      c.mark_ready.ensures.room k (c.in_ok-make_room.ensures.room k low (omega (arith, high, c.numbers_of.ensures, c.len-first.ensures.len))),
      c.in_ok-make_room-2.ensures.room k low (omega (arith, high, c.numbers_of.ensures, c.len-first.ensures.len)),
    ))
    (λ k low high. subst (λ (core : Core). is_in c.mark_ready.new.set k ≡ is_ready_stage core.desk (stage_at core k)) same
    (c.mark_ready.ensures.within k (omega (arith, low, c.len-first.ensures.len)) (omega (arith, high, c.numbers_of.ensures, c.len-first.ensures.len))))
    (λ k lt. c.mark_ready.ensures.below k (omega (arith, lt, c.len-first.ensures.len)))
    (λ k le. c.mark_ready.ensures.beyond k (omega (arith, le, c.numbers_of.ensures, c.len-first.ensures.len)))
    roomed)
