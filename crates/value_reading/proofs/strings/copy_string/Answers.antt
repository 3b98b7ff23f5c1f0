use Rattle.std.proofs.Common.{sym, ◌∙◌, string_bytes}
use Rattle.value_reading.proofs.Quoted.{plain_lexed}
use Rattle.value_reading.proofs.strings.copy_string.Goals as goal

pub returns-clause-string : goal.returns-clause-string
returns-clause-string c =
    let opened = c.in_ok-end.ensures in
    plain_lexed c.args.text.now (string_bytes c.in_ok-from_str.field-0) c.args.at.now c.open.new.at c.in_ok-end.end opened.opens opened.stop (sym c.byte_at.ensures ∙ c.if-byte_at-ne34.false)
    (c.in_ok-from_str.ensures.ok ∙ c.range.ensures.value)
