use Rattle.judge_laws.proofs.SaidStrictly.{notice_unnamed, withdrawal_unnamed}
use Rattle.judge_laws.proofs.said.notifications_have_no_ids.Goals as goal

pub returns-clause-notice : goal.returns-clause-notice
returns-clause-notice c = notice_unnamed

pub returns-clause-withdrawal : goal.returns-clause-withdrawal
returns-clause-withdrawal c = withdrawal_unnamed
