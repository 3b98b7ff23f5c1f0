-- Each turn reads two digits more.
use Rattle.recorded_talks.specs.Digits.{bytes_of}
use Rattle.recorded_talks.proofs.SaidSoFar.{two_more}
use Rattle.recorded_talks.proofs.bytes.bytes_of.Goals as goal

pub loop-left-preserved : goal.loop-left-preserved
loop-left-preserved c =
    let l = c.loop-left in let byte = c.in_ok-ok_or.field-0 in
    two_more l.left.now l.bytes.items c.push.new.self.items byte c.byte_of.result (bytes_of c.args.digits.now) c.in-len2-up.len_at_least c.byte_of.ensures c.in_ok-ok_or.ensures.ok_part c.in_ok-push.ensures.items l.invariant
