use Rattle.std.proofs.Common.{◌≡◌, ◌≤◌, ◌<◌, ◌-◌, false, ap, sym, ◌∙◌, arith}
use Rattle.std.specs.Prelude.{is_some}
use Rattle.content_streams.specs.Streams.{next_placed}
use Rattle.connection.specs.Connections.{Connection, calls_of}
use Rattle.connection.specs.Inner.{IsNext}
use Rattle.connection.proofs.Asked.{full_moves, unit_moves, moves_as, next_as, placed_frame}
use Rattle.connection.proofs.connection.Connection.take_in.Goals as goal

pub returns-then-call_count-saturating_sub-clause-moved : goal.returns-then-call_count-saturating_sub-clause-moved
returns-then-call_count-saturating_sub-clause-moved c =
    let before : Connection = record { settings = c.self.inside.settings; stream = c.self.inside.stream; desk = c.self.inside.desk } in
    let over : before.desk.state.is_over ≡ false = ap (λ (b : Connection). b.desk.state.is_over) c.self.view_is ∙ c.requires.over in
    let next : IsNext before c.args.unit c.args.broken = next_as before c.args.self.now c.args.unit c.args.broken (sym c.self.view_is) c.requires.next in
    let many : before.settings.calls - before.desk.state.theirs.came < calls_of c.args.unit = omega arith in
    moves_as before c.args.self.now _ _ c.self.view_is (λ i. record { settings = before.settings; stream = before.stream; desk = (sym c.end.ensures) i })
    (full_moves c.placed_contents_are_the_contents.ensures before c.args.unit c.args.broken over next many)

pub returns-clause-moved : goal.returns-clause-moved
returns-clause-moved c =
    let before : Connection = record { settings = c.self.inside.settings; stream = c.self.inside.stream; desk = c.self.inside.desk } in
    let over : before.desk.state.is_over ≡ false = ap (λ (b : Connection). b.desk.state.is_over) c.self.view_is ∙ c.requires.over in
    let next : IsNext before c.args.unit c.args.broken = next_as before c.args.self.now c.args.unit c.args.broken (sym c.self.view_is) c.requires.next in
    let few : calls_of c.args.unit ≤ before.settings.calls - before.desk.state.theirs.came = omega arith in
    moves_as before c.args.self.now _ _ c.self.view_is
    (λ i. record { settings = before.settings; stream = (sym c.pop.ensures) i; desk = (sym c.in_ok-take_in.ensures.ok) i })
    (unit_moves c.placed_contents_are_the_contents.ensures before c.args.unit c.args.broken over next few)

pub pop-requires : goal.pop-requires
pop-requires c =
    let s = c.self.inside.stream in
    let next = ap (λ (b : Connection). next_placed b.stream) c.self.view_is ∙ c.requires.next.next in
    ap is_some (placed_frame c.placed_contents_are_the_contents.ensures s s.taken c.requires.next.placed next)
