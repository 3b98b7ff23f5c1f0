use Rattle.std.proofs.Common.{◌+◌, drop, ap, ◌∙◌}
use Rattle.std.specs.List.{prefix_len}
use Rattle.json.specs.Run.{is_plain}
use Rattle.value_reading.proofs.Quoted.{run_bytes}
use Rattle.value_reading.proofs.strings.pass_run.Goals as goal

pub returns-clause-bytes : goal.returns-clause-bytes
returns-clause-bytes c =
    let text = c.args.text.now in
    let from = c.args.at.now in
    run_bytes text from c.plain_end-end.result (c.plain_end-end.ensures.value ∙ ap (λ t. from + prefix_len is_plain (drop from t)) c.as_bytes.ensures.value)
