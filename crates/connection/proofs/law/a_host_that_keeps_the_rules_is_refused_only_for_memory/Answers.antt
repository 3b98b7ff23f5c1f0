use Rattle.connection.proofs.ReadIds.{params_again}
use Rattle.connection.proofs.Ruled.{RuleLaws, excused}
use Rattle.connection.proofs.law.a_host_that_keeps_the_rules_is_refused_only_for_memory.Goals as goal

rules : goal.After-what_the_rules_allow_is_not_refused → RuleLaws
rules c = record { told_open = c.what_the_rules_allow_is_not_refused.ensures.told; answer_allowed = c.what_the_rules_allow_is_not_refused.ensures.answer }

pub returns-clause-refused : goal.returns-clause-refused
returns-clause-refused c = λ connection history told happening why stands keeps refused. excused (rules c) connection.settings.cancels history told happening why keeps refused

pub returns-clause-again : goal.returns-clause-again
returns-clause-again c = params_again
