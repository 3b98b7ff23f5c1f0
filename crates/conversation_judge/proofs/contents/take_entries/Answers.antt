use Rattle.std.proofs.Common.{◌≡◌, suc, true, ◌++◌, ◌+◌, ◌∙◌, length, ap, sym, arith, append_assoc}
use Rattle.conversation_entries.specs.Said.{said}
use Rattle.conversation_rules.specs.Contents.{entries_findings, behind_entries}
use Rattle.conversation_rules.specs.Entries.{entry_findings, behind_entry}
use Rattle.conversation_judge.proofs.contents.take_entries.Goals as goal

pub loop-entry-preserved : goal.loop-entry-preserved
loop-entry-preserved c =
    let protocol = c.args.protocol in
    let message = c.args.message in
    let at = c.loop-entry.at + 1 in
    let entry = c.in-Some.entry in
    let rest = c.pop_front.new.self.items in
    let next : c.loop-entry.at + 1 + 1 ≡ suc (c.loop-entry.at + 1) = omega arith in
    let before = said c.loop-entry.own in
    let own = c.in_ok-take_entry.ensures.own in
    let was = c.in-Some.ensures.items in
    record {
      small = let bound = c.loop-entry.invariant.small in let len = ap length was in omega (arith, bound, len);
      findings =
          (λ i. c.in_ok-take_entry.ensures.findings i ++ entries_findings protocol message (next i) rest (own i))
          ∙ append_assoc c.loop-entry.findings.items (entry_findings protocol message true at entry before) (entries_findings protocol message (suc at) rest (behind_entry protocol at entry before))
          ∙ ap (λ entries. c.loop-entry.findings.items ++ entries_findings protocol message at entries before) (sym was)
          ∙ c.loop-entry.invariant.findings;
      own = (λ i. behind_entries protocol (next i) rest (own i)) ∙ ap (λ entries. behind_entries protocol at entries before) (sym was) ∙ c.loop-entry.invariant.own;
    }
