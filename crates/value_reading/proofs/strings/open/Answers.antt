use Rattle.std.proofs.Common.{◌≡◌, ◌+◌, drop, get_or, sym, ap, ◌∙◌, arith}
use Rattle.std.specs.List.{prefix_len}
use Rattle.std.proofs.lemmas.Str.{IsCharBoundary-after_ascii}
use Rattle.json.specs.Run.{is_plain}
use Rattle.json_texts.proofs.Placed.{byte_within}
use Rattle.value_reading.proofs.Quoted.{quote_opens}
use Rattle.value_reading.proofs.strings.open.Goals as goal

pub returns-clause-opens : goal.returns-clause-opens
returns-clause-opens c =
    let next = c.next_byte.ensures in
    quote_opens c.args.text.now c.args.at.now c.next_byte.new.at next.blanks (sym next.byte ∙ c.if-next_byte-ne34.false)

pub returns-clause-boundary : goal.returns-clause-boundary
returns-clause-boundary c =
    let text = c.args.text.now in
    let at = c.next_byte.new.at in
    let quote : get_or text at 0 ≡ 34 = sym c.next_byte.ensures.byte ∙ c.if-next_byte-ne34.false in
    IsCharBoundary-after_ascii text at c.utf8.text (byte_within text at 33 quote) (omega (arith, quote))

pub returns-clause-stop : goal.returns-clause-stop
returns-clause-stop c =
    let at = c.next_byte.new.at + 1 in
    c.plain_end.ensures.value ∙ ap (λ t. at + prefix_len is_plain (drop at t)) c.as_bytes.ensures.value
