use Rattle.std.proofs.Common.{rules, sym}
use Rattle.connection.specs.Connections.{Connection}
use Rattle.connection.proofs.Fed.{not_ended, fed_stands, stands_as}
use Rattle.connection.proofs.StreamLaws.{OnlyGrow}
use Rattle.connection.proofs.connection.Connection.feed.Goals as goal

pub returns-clause-stands : goal.returns-clause-stands
returns-clause-stands c = λ history told stands.
    let grow : OnlyGrow = record {
      places_are = c.placed_contents_are_the_contents.ensures;
      contents = c.contents_only_grow.ensures;
      places = c.places_stay.ensures.grow;
    } in
    let before : Connection = record { settings = c.self.inside.settings; stream = c.self.inside.stream; desk = c.self.inside.desk } in
    fed_stands grow before history told c.args.piece.now c.feed.new.self (not_ended c.self.inside.stream.ended (search rules)) (search rules) c.in_ok-feed.ensures.ok
    (stands_as before c.args.self.now history told (sym c.self.view_is) stands)
