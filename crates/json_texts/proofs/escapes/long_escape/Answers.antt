use Rattle.std.proofs.Common.{◌<◌, ◌≤◌, ◌⊎◌, ◌+◌, ℕ, inl, inr, sym, subst, arith}
use Rattle.std.specs.Char.{InScalarRange}
use Rattle.json_texts.specs.Compacting.{HasLongEscape}
use Rattle.json_texts.proofs.Lexed.{slash_escape, digits_escape}
use Rattle.json_texts.proofs.escapes.long_escape.Goals as goal

pub returns-then-letter-eq47-clause-escape : goal.returns-then-letter-eq47-clause-escape
returns-then-letter-eq47-clause-escape c =
    slash_escape c.args.text.now c.args.at (omega (arith, c.if-text-at-ne92.false)) (omega (arith, c.byte_at-letter.ensures, c.if-letter-eq47.true))

is_whole : (u : ℕ) → InScalarRange u → (u < 55296) ⊎ (57344 ≤ u)
is_whole u (inl low) = inl low
is_whole u (inr high) = inr high.0

pub returns-clause-escape : goal.returns-clause-escape
returns-clause-escape c =
    let text = c.args.text.now in
    let at = c.args.at in
    let unit = c.in_ok-unit.unit in
    let plain = c.is_escaped.ensures c.if-is_escaped.false in
    subst (λ u. HasLongEscape text at u (at + 6)) (sym c.in_ok-character.ensures.value.1)
    (digits_escape text at unit (omega (arith, c.if-text-at-ne92.false)) (omega (arith, c.byte_at-letter.ensures, c.if-letter-ne117.false)) (omega (arith, c.if-text-at-lt6.false)) c.in_ok-unit.ensures
    (is_whole unit c.in_ok-character.ensures.cases) plain.0 plain.1 plain.2)
