use Rattle.method_steps.proofs.FirstShown as laws
use Rattle.method_steps.proofs.law.told_fault_is_the_first_shown.Goals as goal

pub returns : goal.returns
returns c = laws.told_is_first
