-- What waits, or what was told, is at hand.
use Rattle.std.proofs.Common.{◌≡◌, None, sym, ◌∙◌}
use Rattle.host_calls.proofs.AtHand.{none_waits, asked, failed}
use Rattle.host_calls.proofs.outlet.Outlet.fetch.Goals as goal

pub returns-else-is_some-clause-ok : goal.returns-else-is_some-clause-ok
returns-else-is_some-clause-ok c =
    let next : c.args.self.now.next ≡ None = none_waits c.args.self.now.next (sym c.is_some.ensures ∙ c.if-is_some.false) in
    asked c.args.self.now c.next_event.new.self c.next_event.result next (c.next_event.ensures.settings, c.next_event.ensures.pieces, c.next_event.ensures.taken) c.next_event.ensures.told c.next_event.ensures.none

pub returns-else-is_some-clause-err : goal.returns-else-is_some-clause-err
returns-else-is_some-clause-err c =
    let next : c.args.self.now.next ≡ None = none_waits c.args.self.now.next (sym c.is_some.ensures ∙ c.if-is_some.false) in
    failed c.args.self.now c.next_event.new.self c.args.self.now.next c.next_event.result next next (c.next_event.ensures.settings, c.next_event.ensures.pieces, c.next_event.ensures.taken) c.next_event.ensures.err
