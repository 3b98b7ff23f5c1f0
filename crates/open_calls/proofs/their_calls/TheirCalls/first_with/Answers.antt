use Rattle.std.proofs.Common.{Some, subst}
use Rattle.number_windows.specs.Windows.{window_entries}
use Rattle.open_calls.specs.Theirs.{TheirState, is_reached}
use Rattle.open_calls.specs.Inner.{is_listed, IsFirst}
use Rattle.open_calls.proofs.Newest.{passing, first_listed, first_newer}
use Rattle.open_calls.proofs.their_calls.TheirCalls.first_with.Goals as goal

pub returns-in-Some : goal.returns-in-Some
returns-in-Some c =
    let id = c.args.id.now in
    subst (λ (s : TheirState). IsFirst (passing (is_reached id) s.calls) (Some c.in-Some.number)) c.self.view_is
    (first_listed (is_listed c.self.inside.by_id id) (is_reached id) c.self.inside.indexed (window_entries c.self.inside.calls) c.in-Some.number (c.self.invariant.by_id id) c.in-Some.ensures)

pub returns-in-None : goal.returns-in-None
returns-in-None c =
    let id = c.args.id.now in
    subst (λ (s : TheirState). IsFirst (passing (is_reached id) s.calls) c.first_behind.result) c.self.view_is
    (first_newer (is_listed c.self.inside.by_id id) (is_reached id) c.self.inside.indexed (window_entries c.self.inside.calls) c.first_behind.result (c.self.invariant.by_id id) c.in-None.ensures c.first_behind.ensures)
