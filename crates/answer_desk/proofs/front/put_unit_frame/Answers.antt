use Rattle.std.proofs.Common.{◌≡◌, ◌++◌, option_to_list, true, Some, ap, ◌∙◌, sym, rules, codes, decimal, length}
use Rattle.std.specs.List.{flat_map}
use Rattle.lsp_frames.specs.Frames.{written}
use Rattle.answer_desk.specs.Waiting.{unit_text}
use Rattle.answer_desk.specs.Seen.{waiting_of}
use Rattle.answer_desk.proofs.Texts.{answer_there, one-frame, frame_behind}
use Rattle.answer_desk.proofs.front.put_unit_frame.Goals as goal

pub returns-clause-bytes : goal.returns-clause-bytes
returns-clause-bytes c =
    let text = c.put_text.new.text.items in
    let some : c.in_ok-put_text.field-0 ≡ true = search (rules, c.if-not-branch.false) in
    let there : unit_text (waiting_of c.args.numbers.now c.args.unit.now) ≡ Some text = answer_there c.in_ok-put_text.field-0 _ text some c.in_ok-put_text.ensures in
    let framed : c.put_frame.new.bytes.items ≡ c.args.bytes.now.items ++ written c.as_slice.result.now = c.in_ok-put_frame.ensures.ok ∙ frame_behind c.args.bytes.now.items (codes "Content-Length: ") (decimal (length c.as_slice.result.now)) (codes "\r\n\r\n") c.as_slice.result.now in
    framed
    ∙ ap (λ content. c.args.bytes.now.items ++ written content) c.as_slice.ensures.value
    ∙ ap (λ frame. c.args.bytes.now.items ++ frame) (one-frame written text ∙ ap (λ o. flat_map written (option_to_list o)) (sym there))
