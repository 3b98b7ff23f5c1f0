-- The params of a call whose method isn't in the table may be others.
use Rattle.std.proofs.Common.{sym, ◌∙◌}
use Rattle.rpc_messages.specs.Unit.{unit_of, unit_seen}
use Rattle.peer_session.proofs.Alike.{units-alike}
use Rattle.peer_session.proofs.reading.read_unit.Goals as goal

pub returns-then-not-has_method : goal.returns-then-not-has_method
returns-then-not-has_method c =
    units-alike c.args.table.now (unit_seen c.in_ok-unit.unit) (unit_of c.args.frame.now.foreign c.args.frame.now.content) c.in_ok-unit.ensures
    (sym c.has_method.ensures ∙ c.if-not-has_method.true)
