use Rattle.judge_laws.proofs.Failures.{answer_coded}
use Rattle.judge_laws.proofs.said.answers_have_their_codes.Goals as goal

pub returns : goal.returns
returns c = answer_coded
