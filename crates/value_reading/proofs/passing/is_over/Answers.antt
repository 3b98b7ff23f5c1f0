use Rattle.std.proofs.Common.{refl, sym, ◌∙◌}
use Rattle.value_reading.proofs.Lexemes.{operator_behind}
use Rattle.value_reading.proofs.passing.is_over.Goals as goal

pub returns-then-byte-eq44-clause-byte : goal.returns-then-byte-eq44-clause-byte
returns-then-byte-eq44-clause-byte c =
    let next = c.next_byte-byte.ensures in
    operator_behind c.args.text.now c.args.at.now c.next_byte-byte.new.at 44 next.blanks (sym next.byte ∙ c.if-byte-eq44.true) refl

pub returns-then-byte-bracket-clause-byte : goal.returns-then-byte-bracket-clause-byte
returns-then-byte-bracket-clause-byte c =
    let next = c.next_byte-byte.ensures in
    operator_behind c.args.text.now c.args.at.now c.next_byte-byte.new.at c.args.bracket next.blanks (sym next.byte ∙ c.if-byte-bracket.true) c.requires
