use Rattle.serde_json.specs.Data.{unsigned}
use Rattle.value_reading.proofs.Placed.{whole_read}
use Rattle.value_reading.proofs.passed.pass_number.Goals as goal

pub returns-clause-number : goal.returns-clause-number
returns-clause-number c =
    let whole = c.in-Some.ensures.number in
    (unsigned whole.0, whole_read 0 c.args.text.now c.args.at.now c.in-Some.end whole.0 whole.1 whole.2)
