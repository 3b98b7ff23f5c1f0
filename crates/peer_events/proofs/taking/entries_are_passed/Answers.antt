use Rattle.std.proofs.Common.{◌+◌, refl}
use Rattle.rpc_messages.specs.Numbering.{numbers_in}
use Rattle.peer_events.proofs.Takings.{entry-passes}
use Rattle.peer_events.proofs.taking.entries_are_passed.Goals as goal

pub returns : goal.returns
returns c = λ table passed entry s after past jobs fits more passes.
    let told = entry-passes c.known.ensures table passed jobs s past fits (1 + numbers_in passed) refl entry after more passes in
    (told.later, told.fits, told.passes)
