use Rattle.std.proofs.Common.{◌≡◌, ◌+◌, ◌-◌, ◌<◌, Some, subst, ◌∙◌, arith, get_or, length}
use Rattle.json.specs.Text.{short_escape}
use Rattle.json_texts.proofs.Placed.{byte_within}
use Rattle.value_reading.proofs.Quoted.{short_bytes}
use Rattle.value_reading.proofs.escapes.read_escape.Goals as goal

pub returns-clause-escape : goal.returns-clause-escape
returns-clause-escape c =
    let text = c.args.text.now in
    let at = c.args.at in
    let letter = c.byte_at-letter.result in
    let same : letter ≡ get_or text (at + 1) 0 = c.byte_at-letter.ensures in
    let ensured = c.in_ok-character.ensures in
    let ascii = ensured.ascii in
    let within : at + 1 < length text = byte_within text (at + 1) (letter - 1) (omega (arith, same, ascii.1)) in
    short_bytes text at c.in_ok-character.character c.requires within (λ e. c.if-letter-eq117.false (same ∙ e))
    (subst (λ y. short_escape y ≡ Some c.in_ok-character.character) same ensured.value) ascii.0
