-- An end closes the board, and an end after another changes nothing.
use Rattle.std.proofs.Common.{Some, sym, ap, ◌∙◌, arith}
use Rattle.std.proofs.lemmas.Grind.{common_steps}
use Rattle.peer_session.specs.Events.{ended_at}
use Rattle.peer_session.specs.Session.{view}
use Rattle.peer_session.proofs.Ended.{none-from, ended-again}
use Rattle.peer_session.proofs.session.Session.end.Goals as goal

pub returns-then-is_none : goal.returns-then-is_none
unfolding view
returns-then-is_none c =
    ap (λ core. record (view c.args.self.now) { core = core; close = Some c.args.close }) c.close_board.ensures
    ∙ sym (ap (ended_at (view c.args.self.now) c.args.close) (none-from c.args.self.now.close (grind (arith, common_steps, c.is_none.ensures, c.if-is_none.true))))

pub returns-else-is_none : goal.returns-else-is_none
unfolding view
returns-else-is_none c =
    sym (ended-again (view c.args.self.now) c.args.close c.args.self.now.close (grind (arith, common_steps, c.is_none.ensures, c.if-is_none.false)))
