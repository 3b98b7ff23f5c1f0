use Rattle.std.proofs.Common.{◌≡◌, false, None, ap, sym, ◌∙◌}
use Rattle.content_streams.specs.Streams.{next_content}
use Rattle.connection_desk.specs.Desks.{after_end}
use Rattle.connection.specs.Connections.{Connection}
use Rattle.connection.proofs.Asked.{close_moves, moves_as}
use Rattle.connection.proofs.connection.Connection.end_if_closed.Goals as goal

pub returns-in-Some : goal.returns-in-Some
returns-in-Some c =
    let before : Connection = record { settings = c.self.inside.settings; stream = c.self.inside.stream; desk = c.self.inside.desk } in
    let over : before.desk.state.is_over ≡ false = ap (λ (b : Connection). b.desk.state.is_over) c.self.view_is ∙ c.requires.over in
    let none : next_content before.stream ≡ None = ap (λ (b : Connection). next_content b.stream) c.self.view_is ∙ c.requires.next in
    let ended : after_end c.close_of.result before.desk ≡ c.end.new.self = sym c.end.ensures in
    let closes = sym c.close_of.ensures in
    moves_as before c.args.self.now _ _ c.self.view_is (λ i. record { settings = before.settings; stream = before.stream; desk = (ap (λ k. after_end k before.desk) closes ∙ ended) i })
    (close_moves before c.in-Some.end over none (sym c.in-Some.ensures))
