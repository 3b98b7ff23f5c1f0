use Rattle.std.proofs.Common.{◌≡◌, ◌+◌, ◌<◌, ◌++◌, OnOk, length, sym, subst, ap, ◌∙◌, arith}
use Rattle.rpc_messages.specs.Parts.{AreReadBack}
use Rattle.rpc_messages.specs.Texts.{call_text_of}
use Rattle.rpc_messages.specs.declared.outgoing.Outgoing.{Outgoing}
use Rattle.rpc_messages.proofs.AnswerTexts.{OnOk-map}
use Rattle.rpc_messages.proofs.Placed.{length_calls, call_at, one_at}
use Rattle.rpc_messages.proofs.rows.CallRowEntries.write_entry.Goals as goal

pub returns-clause-text : goal.returns-clause-text
returns-clause-text c =
    let row = c.args.self.now in
    let same = length_calls row.number row.first row.calls.now in
    let inside : c.args.place < length row.calls.now = omega (arith, c.requires, same) in
    let written : OnOk c.put_one_call.result (c.put_one_call.new.bytes.items ≡ c.args.bytes.now.items ++ call_text_of row.number (row.first + c.args.place) c.index-self-place.result) = grind arith in
    OnOk-map c.put_one_call.result
    (λ put. put ∙ ap (λ text. c.args.bytes.now.items ++ text) (sym (call_at row.number row.first c.args.place row.calls.now c.index-self-place.result inside c.index-self-place.is)))
    written

pub returns-clause-known : goal.returns-clause-known
returns-clause-known c =
    let row = c.args.self.now in
    let same = length_calls row.number row.first row.calls.now in
    let inside : c.args.place < length row.calls.now = omega (arith, c.requires, same) in
    let P : Outgoing → Type 0 = λ o. AreReadBack o.params in
    OnOk-map c.put_one_call.result
    (λ back o is. subst P (sym c.index-self-place.is ∙ one_at c.args.place row.calls.now c.index-self-place.result o inside c.index-self-place.is is) back)
    c.put_one_call.ensures.params
