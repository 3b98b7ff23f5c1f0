use Rattle.std.specs.Prelude.{codes}
use Rattle.json.specs.Find.{get}
use Rattle.json.proofs.Numbered.{HasNumbers-get}
use Rattle.std.proofs.Common.{sym}
use Rattle.connection_messages.specs.Envelope.{GivesTarget}
use Rattle.connection_messages.proofs.Enveloped.{member_found, member_absent, cancel_is, some_holds}
use Rattle.connection_messages.proofs.read.compact.read_cancel.Goals as goal

pub returns-in-Some : goal.returns-in-Some
returns-in-Some c rules j theirs numbers names version named =
    let e = c.args.envelope.now in
    let parts = c.in-None-Some in
    let target = c.in-Some.target in
    let text = parts.params.now in
    let by = c.args.by in
    let gives : GivesTarget by text target = some_holds (GivesTarget by text) c.in_ok-target.field-0 target c.in-Some.is c.in_ok-target.ensures in
    let absent = member_absent e.id (get (codes "id") j) parts.is-0 names.id in
    let params = member_found e.params parts.params (get (codes "params") j) parts.is-1 names.params in
    let aimed = gives params.0 (HasNumbers-get (codes "params") j params.0 numbers (sym params.1)) params.2 in
    cancel_is rules by j params.0 text target theirs version named.0 named.1 absent params.1 (aimed.0 rules.null_params) aimed.1
