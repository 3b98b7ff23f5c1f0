use Rattle.std.proofs.Common.{◌++◌, ◌∙◌, sym}
use Rattle.conversation_judge.specs.Said.{pair}
use Rattle.conversation_judge.proofs.Next.{findings_kept, pair_kept, stream_kept, less_kept, findings_done, pair_done, stream_done}
use Rattle.conversation_rules.specs.Judging.{contents_findings, behind_contents, new_contents, all_taken}
use Rattle.conversation_judge.proofs.seeing.take_contents.Goals as goal

pub loop-preserved : goal.loop-preserved
loop-preserved c =
    let e = c.in_ok-take_next.ensures in
    let both = pair c.args.own.now c.args.other.now in
    let news = new_contents c.args.stream.now in
    record {
      findings = findings_kept c.args.protocol c.args.side c.args.is_unfinished c.loop.stream (pair c.loop.own c.loop.other) c.take_next.new.stream (pair c.take_next.new.own c.take_next.new.other) c.loop.findings.items c.take_next.new.findings.items e.findings e.pair e.stream
          (c.args.findings.now.items ++ contents_findings c.args.protocol c.args.side c.args.is_unfinished news both) c.loop.invariant.findings;
      both = pair_kept c.args.protocol c.args.side c.args.is_unfinished c.loop.stream (pair c.loop.own c.loop.other) c.take_next.new.stream (pair c.take_next.new.own c.take_next.new.other) c.loop.findings.items c.take_next.new.findings.items e.findings e.pair e.stream
          (behind_contents c.args.protocol c.args.side c.args.is_unfinished news both) c.loop.invariant.both;
      stream = stream_kept c.args.protocol c.args.side c.args.is_unfinished c.loop.stream (pair c.loop.own c.loop.other) c.take_next.new.stream (pair c.take_next.new.own c.take_next.new.other) c.loop.findings.items c.take_next.new.findings.items e.findings e.pair e.stream
          (all_taken c.args.stream.now) c.loop.invariant.stream;
    }

pub loop-smaller : goal.loop-smaller
loop-smaller c =
    let e = c.in_ok-take_next.ensures in
    less_kept c.args.protocol c.args.side c.args.is_unfinished c.loop.stream (pair c.loop.own c.loop.other) c.take_next.new.stream (pair c.take_next.new.own c.take_next.new.other) c.loop.findings.items c.take_next.new.findings.items e.findings e.pair e.stream
    (sym e.is_there ∙ c.if-branch.true)

pub returns-clause-findings : goal.returns-clause-findings
returns-clause-findings c =
    let e = c.in_ok-take_next.ensures in
    findings_done c.args.protocol c.args.side c.args.is_unfinished c.loop.stream (pair c.loop.own c.loop.other) c.take_next.new.stream (pair c.take_next.new.own c.take_next.new.other) c.loop.findings.items c.take_next.new.findings.items e.findings e.pair e.stream
    (sym e.is_there ∙ c.if-branch.false) (c.args.findings.now.items ++ contents_findings c.args.protocol c.args.side c.args.is_unfinished (new_contents c.args.stream.now) (pair c.args.own.now c.args.other.now)) c.loop.invariant.findings

pub returns-clause-pair : goal.returns-clause-pair
returns-clause-pair c =
    let e = c.in_ok-take_next.ensures in
    pair_done c.args.protocol c.args.side c.args.is_unfinished c.loop.stream (pair c.loop.own c.loop.other) c.take_next.new.stream (pair c.take_next.new.own c.take_next.new.other) c.loop.findings.items c.take_next.new.findings.items e.findings e.pair e.stream
    (sym e.is_there ∙ c.if-branch.false) (behind_contents c.args.protocol c.args.side c.args.is_unfinished (new_contents c.args.stream.now) (pair c.args.own.now c.args.other.now)) c.loop.invariant.both

pub returns-clause-stream : goal.returns-clause-stream
returns-clause-stream c =
    let e = c.in_ok-take_next.ensures in
    stream_done c.args.protocol c.args.side c.args.is_unfinished c.loop.stream (pair c.loop.own c.loop.other) c.take_next.new.stream (pair c.take_next.new.own c.take_next.new.other) c.loop.findings.items c.take_next.new.findings.items e.findings e.pair e.stream
    (sym e.is_there ∙ c.if-branch.false) (all_taken c.args.stream.now) c.loop.invariant.stream
