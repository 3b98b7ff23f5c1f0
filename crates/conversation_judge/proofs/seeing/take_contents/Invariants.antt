use Rattle.std.proofs.Common.{◌≡◌, ◌++◌, ◌-◌, length}
use Rattle.content_streams.specs.Streams.{placed_contents}
use Rattle.conversation_judge.specs.Said.{pair}
use Rattle.conversation_rules.specs.Judging.{contents_findings, behind_contents, new_contents, all_taken}
use Rattle.conversation_judge.proofs.seeing.take_contents.Given as goal

abbrev pub invariant-loop : goal.invariant-loop
invariant-loop l = record {
  findings : l.findings.items ++ contents_findings l.protocol l.side l.is_unfinished (new_contents l.stream) (pair l.own l.other) ≡ l.initial.findings.items ++ contents_findings l.protocol l.side l.is_unfinished (new_contents l.initial.stream) (pair l.initial.own l.initial.other);
  both : behind_contents l.protocol l.side l.is_unfinished (new_contents l.stream) (pair l.own l.other) ≡ behind_contents l.protocol l.side l.is_unfinished (new_contents l.initial.stream) (pair l.initial.own l.initial.other);
  stream : all_taken l.stream ≡ all_taken l.initial.stream;
}

abbrev pub decreases-loop : goal.decreases-loop
decreases-loop l = length (placed_contents l.stream) - l.stream.taken
