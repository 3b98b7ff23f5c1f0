use Rattle.std.proofs.Common.{◌+◌, ◌<◌, ◌≤◌, length, sym, subst, ◌∙◌, arith}
use Rattle.std.specs.Char.{encode_utf8}
use Rattle.value_reading.specs.Lexed.{HasBytes}
use Rattle.value_reading.proofs.Quoted.{pair_bytes}
use Rattle.value_reading.proofs.escapes.read_pair.Goals as goal

pub returns-clause-escape : goal.returns-clause-escape
returns-clause-escape c =
    let text = c.args.text.now in
    let at = c.args.at in
    let low = c.in_ok-low.low in
    let bounds = c.in_ok-low.ensures.bounds in
    let above : 56320 ≤ low = omega (arith, c.if-low-lt56320.false) in
    let below : low < 57344 = omega (arith, c.if-low-gt57343.false) in
    let within : at + 12 ≤ length text = omega (arith, bounds.0) in
    subst (λ u. HasBytes text at (encode_utf8 u) (at + 12)) (sym c.in_ok-character.ensures.value.1)
    (pair_bytes text at c.args.high low c.requires.backslash c.requires.letter c.requires.digits c.requires.half.0 c.requires.half.1 (sym c.byte_at.ensures ∙ c.if-byte_at-ne92.false)
    (sym c.byte_at-else-byte_at-ne92.ensures ∙ c.if-byte_at-ne117.false) c.in_ok-low.ensures.value above below within)
