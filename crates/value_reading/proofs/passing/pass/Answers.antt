use Rattle.std.proofs.Common.{sym, ◌∙◌}
use Rattle.value_reading.proofs.Lexemes.{operator_behind}
use Rattle.value_reading.proofs.passing.pass.Goals as goal

pub returns-clause-byte : goal.returns-clause-byte
returns-clause-byte c =
    let next = c.next_byte.ensures in
    operator_behind c.args.text.now c.args.at.now c.next_byte.new.at c.args.byte next.blanks (sym next.byte ∙ c.if-next_byte-byte.false) c.requires
