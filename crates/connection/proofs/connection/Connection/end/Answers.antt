use Rattle.std.proofs.Common.{rules, sym}
use Rattle.connection.specs.Connections.{Connection}
use Rattle.connection.proofs.Fed.{not_ended, ended_stands, stands_as}
use Rattle.connection.proofs.StreamLaws.{OnlyGrow, FaultsStay}
use Rattle.connection.proofs.connection.Connection.end.Goals as goal

pub returns-clause-stands : goal.returns-clause-stands
returns-clause-stands c = λ history told stands.
    let grow : OnlyGrow = record {
      places_are = c.placed_contents_are_the_contents.ensures;
      contents = c.contents_only_grow.ensures;
      places = c.places_stay.ensures.grow;
    } in
    let stay : FaultsStay = record { end = c.faults_stay.ensures.end; contents = c.faults_stay.ensures.contents } in
    let before : Connection = record { settings = c.self.inside.settings; stream = c.self.inside.stream; desk = c.self.inside.desk } in
    ended_stands grow stay before history told c.args.how c.end.new.self (not_ended c.self.inside.stream.ended (search rules)) c.end.ensures
    (stands_as before c.args.self.now history told (sym c.self.view_is) stands)
