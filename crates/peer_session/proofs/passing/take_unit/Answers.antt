-- A unit is opened, and its entries are passed.
use Rattle.std.proofs.Common.{length, subst, arith}
use Rattle.rpc_messages.specs.Numbering.{entries_in}
use Rattle.rpc_messages.specs.Unit.{unit_seen}
use Rattle.peer_events.specs.Taking.{PassesEntries}
use Rattle.peer_session.proofs.passing.take_unit.Goals as goal

pub pass_unit-requires : goal.pass_unit-requires
pass_unit-requires c = omega (arith, c.requires, c.next_number-first.ensures.next)

pub returns-clause-ok : goal.returns-clause-ok
returns-clause-ok c =
    let runs = c.args.runs.now in
    let entries = entries_in (unit_seen c.args.unit) in
    subst (λ core. PassesEntries core (length runs.stages) entries c.pass_unit.new.runs) c.in_default.ensures.ok
    (subst (λ n. PassesEntries c.open.new.self n entries c.pass_unit.new.runs) c.next_number-first.ensures.next c.pass_unit.ensures)
