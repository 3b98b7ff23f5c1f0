use Rattle.std.proofs.Common.{refl}
use Rattle.json.specs.Print.{print_from}
use Rattle.json_texts.specs.Texts.{json_text}
use Rattle.conversation_rules.proofs.law.null_answers.Goals as goal

pub returns-clause-null_call : goal.returns-clause-null_call
unfolding json_text print_from
returns-clause-null_call c = refl
