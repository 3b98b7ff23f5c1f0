use Rattle.connection_history.proofs.GivenUp.{lsp_waits, mcp_gives_up, stays_given_up, given_told, given_end}
use Rattle.connection_history.proofs.law.a_call_that_was_given_up_is_told_nothing_of.Goals as goal

pub returns-clause-lsp : goal.returns-clause-lsp
returns-clause-lsp c = lsp_waits

pub returns-clause-mcp : goal.returns-clause-mcp
returns-clause-mcp c = mcp_gives_up

pub returns-clause-stays : goal.returns-clause-stays
returns-clause-stays c = stays_given_up

pub returns-clause-reply : goal.returns-clause-reply
returns-clause-reply c = given_told

pub returns-clause-unanswered : goal.returns-clause-unanswered
returns-clause-unanswered c = given_end
