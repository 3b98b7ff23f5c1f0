use Rattle.std.proofs.Common.{sym, ◌∙◌}
use Rattle.value_reading.proofs.Quoted.{plain_lexed}
use Rattle.value_reading.proofs.strings.read_string.Goals as goal

pub returns-clause-string : goal.returns-clause-string
returns-clause-string c =
    let opened = c.in_ok-end.ensures in
    plain_lexed c.args.text.now c.range.result.now c.args.at.now c.open.new.at c.in_ok-end.end opened.opens opened.stop (sym c.byte_at.ensures ∙ c.if-byte_at-ne34.false) c.range.ensures.value
