use Rattle.judge_laws.proofs.SaidStrictly.{withdrawal_message}
use Rattle.judge_laws.proofs.said.withdrawals_read_as_messages.Goals as goal

pub returns : goal.returns
returns c = withdrawal_message
