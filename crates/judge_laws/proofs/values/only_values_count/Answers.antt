use Rattle.judge_laws.proofs.Spellings.{same_findings, same_kept}
use Rattle.judge_laws.proofs.values.only_values_count.Goals as goal

pub returns-clause-findings : goal.returns-clause-findings
returns-clause-findings c = same_findings

pub returns-clause-kept : goal.returns-clause-kept
returns-clause-kept c = same_kept
