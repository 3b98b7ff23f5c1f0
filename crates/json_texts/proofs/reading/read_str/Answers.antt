use Rattle.std.proofs.Common.{refl, ◌∙◌}
use Rattle.json_texts.proofs.ReadBack.{value_of_text, IfOk-follows}
use Rattle.json_texts.proofs.reading.read_str.Goals as goal

pub returns-clause-value : goal.returns-clause-value
returns-clause-value c = IfOk-follows c.read_tokens.result (λ v e. e ∙ value_of_text c.args.levels c.args.text.now c.args.text.now c.utf8.text refl) c.read_tokens.ensures.value
