-- One more entry takes its number.
use Rattle.std.proofs.Common.{◌≡◌, ◌+◌, map, take, ap, ◌∙◌, arith}
use Rattle.std.proofs.lemmas.Grind.{common_steps}
use Rattle.rpc_messages.specs.Entry.{entry_seen}
use Rattle.rpc_messages.specs.Numbering.{numbers_in, numbers_of}
use Rattle.session_runs.proofs.Arriving.{map-take_next, numbers_in-push}
use Rattle.session_runs.proofs.arrival.calls_among.Goals as goal

pub loop-entry-preserved : goal.loop-entry-preserved
loop-entry-preserved c =
    let before = map entry_seen (take c.loop-entry.entry-index c.args.entries.now) in
    let seen = entry_seen c.entry-item.result in
    let total : numbers_in (map entry_seen (take (c.loop-entry.entry-index + 1) c.args.entries.now)) ≡ numbers_in before + numbers_of seen =
    ap numbers_in (map-take_next entry_seen c.args.entries.now c.loop-entry.entry-index c.entry-item.result c.loop-entry-test.true c.entry-item.is)
    ∙ numbers_in-push before seen in
    grind (arith, common_steps, total)
