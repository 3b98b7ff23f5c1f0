use Rattle.std.proofs.Common.{◌≡◌, [], ap, sym, ◌∙◌, arith, length, map}
use Rattle.serde_json.specs.Data.{array, object}
use Rattle.serde_json.specs.Read.{max_depth}
use Rattle.rpc_messages.specs.Entry.{entry_seen, entry_of}
use Rattle.rpc_messages.specs.Shown.{shown}
use Rattle.rpc_messages.specs.Unit.{single, batch, batch_of}
use Rattle.value_reading.proofs.Placed.{read_behind}
use Rattle.rpc_messages.proofs.Contents.{batch_of_some}
use Rattle.rpc_messages.proofs.Shown.{single_shown}
use Rattle.rpc_messages.proofs.read.direct.read_unit.Goals as goal

pub returns-then-next_byte-eq91 : goal.returns-then-next_byte-eq91
returns-then-next_byte-eq91 c =
    let done = c.in_ok-read_entries.ensures in
    let es = c.in_ok-read_entries.field-0.items in
    let some = done.3 in
    let not_empty : es ≡ [] → ⊥ = λ none. let size : length es ≡ 0 = ap length none in omega (arith, some, size) in (
      array done.0,
      read_behind max_depth c.args.text.now c.args.at.now c.next_byte.new.at c.read_entries.new.at (array done.0) c.next_byte.ensures.blanks done.1,
      ap (shown c.args.with_params) (ap (λ es. batch (map entry_seen es)) c.from.ensures ∙ batch_of_some es not_empty ∙ ap batch_of done.2),
    )

pub returns : goal.returns
returns c =
    let done = c.in_ok-entry.ensures.entry in
    let w = c.args.with_params in (
      object done.0,
      read_behind max_depth c.args.text.now c.args.at.now c.next_byte.new.at c.read_entry.new.at (object done.0) c.next_byte.ensures.blanks done.1,
      single_shown w (entry_seen c.in_ok-entry.entry) ∙ ap single done.2 ∙ sym (single_shown w (entry_of (object done.0))),
    )
