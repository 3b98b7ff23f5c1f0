use Rattle.method_steps.proofs.FirstShown as laws
use Rattle.method_steps.proofs.law.text_without_faults_is_a_table.Goals as goal

pub returns : goal.returns
returns c = laws.table_without_faults
