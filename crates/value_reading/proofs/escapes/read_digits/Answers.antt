use Rattle.std.proofs.Common.{◌<◌, ◌≤◌, ◌⊎◌, ◌+◌, ℕ, inl, inr, sym, subst, arith}
use Rattle.std.specs.Char.{InScalarRange, encode_utf8}
use Rattle.value_reading.specs.Lexed.{HasBytes}
use Rattle.value_reading.proofs.Quoted.{digits_bytes}
use Rattle.value_reading.proofs.escapes.read_digits.Goals as goal

is_whole : (u : ℕ) → InScalarRange u → (u < 55296) ⊎ (57344 ≤ u)
is_whole u (inl low) = inl low
is_whole u (inr high) = inr high.0

pub returns-clause-escape : goal.returns-clause-escape
returns-clause-escape c =
    let text = c.args.text.now in
    let at = c.args.at in
    let unit = c.in_ok-unit.unit in
    let bounds = c.in_ok-unit.ensures.bounds in
    subst (λ u. HasBytes text at (encode_utf8 u) (at + 6)) (sym c.in_ok-character.ensures.value.1)
    (digits_bytes text at unit c.requires.backslash c.requires.letter (omega (arith, bounds.0)) c.in_ok-unit.ensures.value (is_whole unit c.in_ok-character.ensures.cases))
