use Rattle.std.proofs.Common.{ap, ◌∙◌}
use Rattle.connection.specs.Connections.{Connection, asked}
use Rattle.connection.proofs.AskedOf.{asked_is}
use Rattle.connection.proofs.connection.Connection.is_request.Goals as goal

pub returns-clause-history : goal.returns-clause-history
returns-clause-history c = λ history told stands.
    c.is_request.ensures ∙ ap (λ (b : Connection). asked b c.args.number) c.self.view_is ∙ asked_is c.args.self.now history told c.args.number stands
