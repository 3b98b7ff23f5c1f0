use Rattle.std.proofs.Common.{rules}
use Rattle.message_texts.specs.Texts.{error_head}
use Rattle.message_texts.proofs.answers.put_error_head.Goals as goal

pub returns-clause-text : goal.returns-clause-text
unfolding error_head
returns-clause-text c = search rules
