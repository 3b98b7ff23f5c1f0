use Rattle.connection_messages.proofs.OneLine.{call_line, calls_line, notice_line, withdrawal_line, answer_line, answers_line}
use Rattle.connection_messages.proofs.law.each_text_is_one_line.Goals as goal

pub returns-clause-call : goal.returns-clause-call
returns-clause-call c = call_line

pub returns-clause-calls : goal.returns-clause-calls
returns-clause-calls c = calls_line

pub returns-clause-notice : goal.returns-clause-notice
returns-clause-notice c = notice_line

pub returns-clause-withdrawal : goal.returns-clause-withdrawal
returns-clause-withdrawal c = withdrawal_line

pub returns-clause-answer : goal.returns-clause-answer
returns-clause-answer c = answer_line

pub returns-clause-answers : goal.returns-clause-answers
returns-clause-answers c = answers_line
