use Rattle.std.proofs.Common.{eqb-true}
use Rattle.connection_messages.proofs.Noted.{whole_envelope}
use Rattle.connection_messages.proofs.read.envelope.Envelope.note_whole.Goals as goal

pub returns-in-Some : goal.returns-in-Some
returns-in-Some c is = whole_envelope c.args.text.now c.note_object.new.self c.in-Some.end c.utf8.text c.in-Some.ensures.envelope (eqb-true _ _ is)
