use Rattle.std.proofs.Common.{◌≡◌, ◌≤◌, ◌<◌, ◌-◌, None, false, ap, sym, ◌∙◌, arith}
use Rattle.std.specs.Prelude.{is_some}
use Rattle.content_streams.specs.Streams.{next_placed}
use Rattle.connection.specs.Connections.{Connection, calls_of}
use Rattle.connection.specs.Inner.{IsNext, lone}
use Rattle.connection.proofs.Asked.{full_moves, unit_moves, moves_as, next_as, placed_frame}
use Rattle.connection.proofs.connection.Connection.take_in_call.Goals as goal

pub returns-then-came-calls-clause-step : goal.returns-then-came-calls-clause-step
returns-then-came-calls-clause-step c =
    let before : Connection = record { settings = c.self.inside.settings; stream = c.self.inside.stream; desk = c.self.inside.desk } in
    let over : before.desk.state.is_over ≡ false = ap (λ (b : Connection). b.desk.state.is_over) c.self.view_is ∙ c.requires.over in
    let next : IsNext before (lone c.args.call) None = next_as before c.args.self.now (lone c.args.call) None (sym c.self.view_is) c.requires.next in
    let many : before.settings.calls - before.desk.state.theirs.came < calls_of (lone c.args.call) = omega arith in
    moves_as before c.args.self.now _ _ c.self.view_is (λ i. record { settings = before.settings; stream = before.stream; desk = (sym c.end.ensures) i })
    (full_moves c.placed_contents_are_the_contents.ensures before (lone c.args.call) None over next many)

pub pop-requires : goal.pop-requires
pop-requires c =
    let s = c.self.inside.stream in
    let next = ap (λ (b : Connection). next_placed b.stream) c.self.view_is ∙ c.requires.next.next in
    ap is_some (placed_frame c.placed_contents_are_the_contents.ensures s s.taken c.requires.next.placed next)

pub returns-clause-step : goal.returns-clause-step
returns-clause-step c =
    let before : Connection = record { settings = c.self.inside.settings; stream = c.self.inside.stream; desk = c.self.inside.desk } in
    let over : before.desk.state.is_over ≡ false = ap (λ (b : Connection). b.desk.state.is_over) c.self.view_is ∙ c.requires.over in
    let next : IsNext before (lone c.args.call) None = next_as before c.args.self.now (lone c.args.call) None (sym c.self.view_is) c.requires.next in
    let few : calls_of (lone c.args.call) ≤ before.settings.calls - before.desk.state.theirs.came = omega arith in record {
      moved = moves_as before c.args.self.now _ _ c.self.view_is
          (λ i. record { settings = before.settings; stream = (sym c.pop.ensures) i; desk = (sym c.in_ok-event.ensures.ok) i })
          (unit_moves c.placed_contents_are_the_contents.ensures before (lone c.args.call) None over next few);
      none = c.in_ok-event.ensures.told;
    }
