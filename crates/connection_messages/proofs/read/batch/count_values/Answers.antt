use Rattle.std.proofs.Common.{◌≡◌, arith}
use Rattle.connection_messages.proofs.Counted.{none_counted, one_more, all_counted}
use Rattle.connection_messages.proofs.read.batch.count_values.Goals as goal

pub loop-at-init : goal.loop-at-init
loop-at-init c = (omega arith, none_counted c.as_bytes-bytes.result.now)

pub returns-then-at-bytes : goal.returns-then-at-bytes
returns-then-at-bytes c =
    let text = c.args.text.now in
    let bytes = c.as_bytes-bytes.result.now in
    let same : bytes ≡ text = c.as_bytes-bytes.ensures.value in
    let end = c.in_ok-end.end in
    all_counted text bytes c.loop-at.at end c.loop-at.count c.in_ok-end.ensures.value c.if-next-eq93.true c.loop-at.invariant.1 c.if-bytes-ne91.false c.if-at-bytes.true same c.utf8.text

pub loop-at-preserved : goal.loop-at-preserved
loop-at-preserved c =
    let end = c.in_ok-end.end in
    let bounds = c.in_ok-end.ensures.bounds in
    let low = bounds.0 in
    let few = c.loop-at.invariant.0 in
    (omega (arith, low, few), one_more c.as_bytes-bytes.result.now c.loop-at.at end c.loop-at.count c.in_ok-end.ensures.value c.if-next-ne44.false c.loop-at.invariant.1)
