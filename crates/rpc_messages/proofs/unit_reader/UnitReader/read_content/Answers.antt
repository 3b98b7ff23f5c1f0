use Rattle.std.proofs.Common.{ap, ◌∙◌}
use Rattle.std.proofs.lemmas.Result.{IfOk-weaker}
use Rattle.rpc_messages.specs.Shown.{shown}
use Rattle.rpc_messages.proofs.Contents.{unit_of_text, unit_of_refused}
use Rattle.rpc_messages.proofs.unit_reader.UnitReader.read_content.Goals as goal

pub returns-in_default : goal.returns-in_default
returns-in_default c = ap (shown c.args.with_params) (unit_of_refused c.args.content.now (λ utf8. absurd (c.in_default.ensures utf8)))

pub returns-in-Ok : goal.returns-in-Ok
returns-in-Ok c =
    let text = c.in-Some.ensures in
    c.in-Ok.ensures ∙ ap (shown c.args.with_params) (unit_of_text c.args.content.now c.in-Some.text.now text.1 text.0)

pub returns-in-Err-Unusual : goal.returns-in-Err-Unusual
returns-in-Err-Unusual c =
    let text = c.in-Some.ensures in
    IfOk-weaker c.read_tokens.result _ _
    (λ u read. ap (shown c.args.with_params) (read ∙ unit_of_text c.args.content.now c.in-Some.text.now text.1 text.0)) c.read_tokens.ensures
