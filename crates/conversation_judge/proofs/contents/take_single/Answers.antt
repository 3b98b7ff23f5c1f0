use Rattle.std.proofs.Common.{◌≡◌, ◌++◌, ◌∙◌, append_assoc, false}
use Rattle.conversation_entries.specs.Said.{said}
use Rattle.conversation_judge.specs.Said.{pair}
use Rattle.conversation_rules.specs.Contents.{sight_of, opened, single_answer_findings}
use Rattle.conversation_rules.specs.Entries.{entry_findings}
use Rattle.conversation_judge.proofs.contents.take_single.Goals as goal

pub returns-clause-findings : goal.returns-clause-findings
returns-clause-findings c =
    c.in_ok-put_if_answer.ensures.findings
    ∙ (λ i. c.in_ok-say_entry.ensures.findings i ++ single_answer_findings c.args.protocol (c.sight_of-sight.ensures i) c.args.message c.args.entry (said c.args.other.now))
    ∙ (λ i. (c.args.findings.now.items ++ entry_findings c.args.protocol c.args.message false 0 c.args.entry (record (said c.args.own.now) { owed = c.in_ok-open.ensures.ok i }))
    ++ single_answer_findings c.args.protocol (sight_of (pair c.args.own.now c.args.other.now)) c.args.message c.args.entry (said c.args.other.now))
    ∙ append_assoc c.args.findings.now.items (entry_findings c.args.protocol c.args.message false 0 c.args.entry (opened c.args.message false c.args.entry.has_huge (said c.args.own.now)))
    (single_answer_findings c.args.protocol (sight_of (pair c.args.own.now c.args.other.now)) c.args.message c.args.entry (said c.args.other.now))
