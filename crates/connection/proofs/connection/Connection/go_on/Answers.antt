use Rattle.std.proofs.Common.{◌≡◌, None, ap, sym, ◌∙◌}
use Rattle.connection_messages.specs.Reading.{unit_of}
use Rattle.connection_history.specs.Events.{broken_in}
use Rattle.lsp_frames.specs.Gathered.{frame_of_content}
use Rattle.connection.specs.Connections.{Connection, origin_of, read}
use Rattle.connection.specs.Settings.{rules_of}
use Rattle.connection.specs.Inner.{lone}
use Rattle.connection.proofs.Asked.{next_from, no_defect}
use Rattle.connection.proofs.connection.Connection.go_on.Goals as goal

pub take_in_call-requires-clause-next : goal.take_in_call-requires-clause-next
take_in_call-requires-clause-next c =
    let before : Connection = record { settings = c.self.inside.settings; stream = c.self.inside.stream; desk = c.self.inside.desk } in
    let frame = frame_of_content c.in-Some.content in
    let call = c.in-Ok.call in
    let is : lone call ≡ read (rules_of before.settings) frame =
    sym (c.in-Ok.ensures.ok) ∙ c.in_ok-unit.ensures.unit ∙ ap (λ rules. unit_of rules frame.foreign frame.content) c.self.invariant in
    next_from c.placed_contents_are_the_contents.ensures before frame (lone call) None (sym c.in-Some.ensures) is
    (λ placed next. sym (no_defect (origin_of before.settings.tells_broken placed) call))

pub take_in-requires-clause-next : goal.take_in-requires-clause-next
take_in-requires-clause-next c =
    let before : Connection = record { settings = c.self.inside.settings; stream = c.self.inside.stream; desk = c.self.inside.desk } in
    let frame = frame_of_content c.in-Some.content in
    let unit = c.in-Err.unit in
    let is : unit ≡ read (rules_of before.settings) frame =
    c.in-Err.ensures.err ∙ c.in_ok-unit.ensures.unit ∙ ap (λ rules. unit_of rules frame.foreign frame.content) c.self.invariant in
    next_from c.placed_contents_are_the_contents.ensures before frame unit c.in_ok-broken.broken (sym c.in-Some.ensures) is
    (λ placed next. c.in_ok-broken.ensures placed next ∙ ap (λ tells. broken_in (origin_of tells placed) unit) c.tells_broken.ensures)
