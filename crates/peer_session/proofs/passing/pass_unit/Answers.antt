-- A unit of one entry, and one of none.
use Rattle.std.proofs.Common.{sym, subst}
use Rattle.rpc_messages.specs.Numbering.{entries_in}
use Rattle.rpc_messages.specs.Unit.{unit_seen}
use Rattle.peer_events.specs.Taking.{PassesEntries}
use Rattle.peer_events.specs.Taking.PassesEntries.{none_left, next}
use Rattle.peer_session.proofs.passing.pass_unit.Goals as goal

pub returns-in-Unreadable : goal.returns-in-Unreadable
returns-in-Unreadable c =
    subst (λ u. PassesEntries c.args.runs.now c.args.first (entries_in (unit_seen u)) c.args.runs.now) (sym c.in-Unreadable.is) none_left

pub returns-in-Single : goal.returns-in-Single
returns-in-Single c =
    subst (λ u. PassesEntries c.args.runs.now c.args.first (entries_in (unit_seen u)) c.pass_entry.new.runs) (sym c.in-Single.is) (next c.pass_entry.ensures.passes none_left)
