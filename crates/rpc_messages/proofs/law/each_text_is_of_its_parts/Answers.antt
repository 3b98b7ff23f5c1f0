use Rattle.std.proofs.Common.{sym}
use Rattle.rpc_messages.proofs.AnswerTexts.{result_is, error_is, fixed_is}
use Rattle.rpc_messages.proofs.CallTexts.{call_is, notice_is, withdrawal_is}
use Rattle.rpc_messages.proofs.law.each_text_is_of_its_parts.Goals as goal

pub returns-clause-result : goal.returns-clause-result
returns-clause-result c id d = sym (result_is id d)

pub returns-clause-error : goal.returns-clause-error
returns-clause-error c id e = sym (error_is id e)

pub returns-clause-fixed : goal.returns-clause-fixed
returns-clause-fixed c id s = sym (fixed_is id s)

pub returns-clause-call : goal.returns-clause-call
returns-clause-call c n t o n_fits t_fits = sym (call_is n t o n_fits t_fits)

pub returns-clause-notice : goal.returns-clause-notice
returns-clause-notice c o = sym (notice_is o)

pub returns-clause-withdrawal : goal.returns-clause-withdrawal
returns-clause-withdrawal c n t n_fits t_fits = sym (withdrawal_is n t n_fits t_fits)
