use Rattle.std.proofs.Common.{◌≡◌, ◌+◌, ◌<◌, ◌++◌, OnOk, length, sym, ap, ◌∙◌, arith}
use Rattle.connection_messages.specs.Texts.{call_text}
use Rattle.message_texts.proofs.OnResults.{OnOk-follows}
use Rattle.connection_messages.proofs.CallRows.{length_call_texts, call_texts_at}
use Rattle.connection_messages.proofs.call_row.CallRowEntries.write_entry.Goals as goal

pub returns-clause-text : goal.returns-clause-text
returns-clause-text c =
    let row = c.args.self.now in
    let same = length_call_texts row.first row.calls.now in
    let inside : c.args.place < length row.calls.now = omega (arith, c.requires, same) in
    let written : OnOk c.write_call.result (c.write_call.new.bytes.items ≡ c.args.bytes.now.items ++ call_text (row.first + c.args.place) c.index-self-place.result) = grind arith in
    OnOk-follows c.write_call.result
    (λ put. put ∙ ap (λ text. c.args.bytes.now.items ++ text) (sym (call_texts_at row.first c.args.place row.calls.now c.index-self-place.result inside c.index-self-place.is)))
    written
