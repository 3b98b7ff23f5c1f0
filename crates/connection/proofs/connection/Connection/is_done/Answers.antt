use Rattle.std.proofs.Common.{ap, sym, subst}
use Rattle.connection_desk.specs.Desks as desks
use Rattle.connection_desk.specs.Desks.{Desk}
use Rattle.connection.specs.Connections.{Connection}
use Rattle.connection.proofs.Fed.{done_from, done_to}
use Rattle.connection.proofs.connection.Connection.is_done.Goals as goal

pub returns : goal.returns
returns c =
    let same = ap (λ (b : Connection). b.desk) c.self.view_is in
    let P : Desk → Type 0 = λ d. desks.IsDone d in
    λ history told stands. (
      (λ is. done_from c.args.self.now history told stands (subst P same (c.is_done.ensures.0 is))),
      (λ is. c.is_done.ensures.1 (subst P (sym same) (done_to c.args.self.now history told stands is))),
    )
