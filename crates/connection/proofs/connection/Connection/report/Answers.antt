use Rattle.std.proofs.Common.{ap, ◌∙◌}
use Rattle.connection.specs.Connections.{Connection}
use Rattle.connection.proofs.Reported.{report, said_by, reported}
use Rattle.connection.proofs.connection.Connection.report.Goals as goal

pub returns : goal.returns
returns c = λ history told stands.
    let t = c.tally-tally.result in
    (λ i. report (c.came.ensures i) t.requests (c.open.ensures i) (c.waiting.ensures i) (c.made.ensures i) t.answers t.unreadable t.invalid t.ignored)
    ∙ ap (said_by c.self.inside.desk.state) c.tally-tally.ensures
    ∙ ap (λ (b : Connection). said_by b.desk.state b.desk.tally) c.self.view_is
    ∙ reported c.args.self.now history told stands
