use Rattle.call_laws.proofs.CameAnswered.{told_answered, one_answer, in_time}
use Rattle.call_laws.proofs.Talking.{both_hear}
use Rattle.call_laws.proofs.responses.a_response_is_the_answer_of_the_other_host.Goals as goal

pub returns-clause-told : goal.returns-clause-told
returns-clause-told c = λ first second ours theirs key reply more talk told. told_answered first second ours theirs key reply more (c.a_reply_is_told_once.ensures.first ours key) talk told

pub returns-clause-one : goal.returns-clause-one
returns-clause-one c = λ first second ours theirs key given other talk it that. one_answer first ours theirs key given other (both_hear first second ours theirs talk).0 it that

pub returns-clause-first : goal.returns-clause-first
returns-clause-first c = λ first second ours theirs key talk. in_time first second ours theirs key talk
