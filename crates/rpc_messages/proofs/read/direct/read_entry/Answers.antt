use Rattle.std.proofs.Common.{◌<◌}
use Rattle.std.proofs.lemmas.Result.{IfOk-weaker}
use Rattle.value_reading.proofs.Placed.{object_read}
use Rattle.rpc_messages.proofs.read.direct.read_entry.Goals as goal

pub returns-clause-entry : goal.returns-clause-entry
returns-clause-entry c =
    let text = c.args.text.now in
    let at = c.args.at.now in
    let levels = c.args.levels in
    let end = c.read_object.new.at in
    let some : 0 < levels = c.requires in
    IfOk-weaker c.read_object.result _ _
    (λ e found. (found.0, object_read levels text at c.pass.new.at end found.0 some c.in_ok-pass.ensures.byte found.1, found.2))
    c.read_object.ensures.entry
