use Rattle.std.proofs.Common.{Some, sym, ap, ◌∙◌}
use Rattle.std.specs.Prelude.{codes}
use Rattle.json.specs.Find.{get}
use Rattle.connection_messages.specs.Envelope.{GivesId, GivesParams}
use Rattle.connection_messages.proofs.Enveloped.{call_is, member_numbers, some_holds}
use Rattle.connection_messages.proofs.read.compact.read_call.Goals as goal

pub returns-clause-call : goal.returns-clause-call
returns-clause-call c j numbers names version named =
    let e = c.args.envelope.now in
    let given : GivesParams c.args.null_params e.params c.in-Some.params = some_holds (GivesParams c.args.null_params e.params) c.in_ok-params.field-0 c.in-Some.params c.in-Some.is c.in_ok-params.ensures in
    let identified : GivesId e.id c.in-Some-2.id = some_holds (GivesId e.id) c.in_ok-id.field-0 c.in-Some-2.id c.in-Some-2.is c.in_ok-id.ensures in
    call_is c.args.null_params j c.args.method.now c.in-Some.params c.in-Some-2.id version named (given (get (codes "params") j) (member_numbers (codes "params") j numbers) names.params)
    (identified (get (codes "id") j) (member_numbers (codes "id") j numbers) names.id)
    ∙ ap (λ m. Some (record { id = c.in-Some-2.id; method = m; params = c.in-Some.params })) (sym c.in_ok-copy_name.ensures)
