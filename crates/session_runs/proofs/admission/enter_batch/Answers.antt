use Rattle.std.proofs.Common.{length, map, ap, ◌∙◌, arith}
use Rattle.rpc_messages.specs.Entry.{entry_seen}
use Rattle.rpc_messages.specs.Unit.{batch}
use Rattle.answer_desk.specs.Places.{new_numbers}
use Rattle.session_runs.proofs.Opening.{stages-many, numbers-many}
use Rattle.session_runs.proofs.admission.enter_batch.Goals as goal

pub append-requires : goal.append-requires
append-requires c =
    let entries = map entry_seen c.args.entries.now in
    let many = ap length c.in_ok-arrival.ensures.stages ∙ stages-many c.args.table.now c.len-first.result entries in
    omega (arith, many, c.requires.room)

pub open_unit-requires : goal.open_unit-requires
open_unit-requires c =
    let entries = map entry_seen c.args.entries.now in
    let many = ap (λ places. length (new_numbers places)) (c.from.ensures ∙ c.in_ok-arrival.ensures.places) ∙ numbers-many c.args.table.now (batch entries) in
    omega (arith, many, c.requires.room, c.requires.numbers)
