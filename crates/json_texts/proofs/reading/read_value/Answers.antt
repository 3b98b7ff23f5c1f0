use Rattle.json_texts.proofs.ReadBack.{value_of_no_text}
use Rattle.json_texts.proofs.reading.read_value.Goals as goal

pub returns-in_default-clause-value : goal.returns-in_default-clause-value
returns-in_default-clause-value c = value_of_no_text c.args.levels c.args.bytes.now (λ utf8. absurd (c.in_default.ensures utf8))
