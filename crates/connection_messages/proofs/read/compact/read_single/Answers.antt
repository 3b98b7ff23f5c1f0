use Rattle.std.proofs.Common.{sym, ap, ◌∙◌}
use Rattle.json.specs.Json.{object}
use Rattle.connection_messages.specs.Envelope.{GivesEntry}
use Rattle.connection_messages.specs.Reading.{unit_of_reading}
use Rattle.connection_messages.specs.declared.unit.Unit.TheVariants.{Single}
use Rattle.connection_messages.proofs.Enveloped.{some_holds}
use Rattle.connection_messages.proofs.read.compact.read_single.Goals as goal

pub returns-in-Some : goal.returns-in-Some
returns-in-Some c =
    let e = c.note_whole.new.self in
    let h = c.note_whole.ensures c.if-not-note_whole.false in
    let gives : GivesEntry c.args.rules e c.in-Some.entry = some_holds (GivesEntry c.args.rules e) c.in_ok-entry.field-0 c.in-Some.entry c.in-Some.is c.in_ok-entry.ensures in
    ap Single (gives (object h.members) h.numbers h.names) ∙ ap (unit_of_reading c.args.rules) (sym h.is)
