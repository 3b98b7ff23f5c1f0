use Rattle.std.proofs.Common.{◌≡◌, ◌+◌, get_or, arith}
use Rattle.json_texts.proofs.Whole.{run_is_number}
use Rattle.json_texts.proofs.compact.natural_end.Goals.{else-byte_at-eq48-via-then-byte_at-eq48+else-end-from-2, else-byte_at-eq48-via-else-byte_at-eq48}
use Rattle.json_texts.proofs.compact.natural_end.Goals as goal

alone : (c : goal.In_default) → get_or c.args.text.now c.args.from 0 ≡ 48 → c.digits_end-end.result ≡ c.args.from + 1
alone c e =
    elim c.else-byte_at-eq48.branch [
      | else-byte_at-eq48-via-then-byte_at-eq48+else-end-from-2 w ↦ omega (arith, w.if-end-from-2.false)
      | else-byte_at-eq48-via-else-byte_at-eq48 w ↦ absurd (let f = w.if-byte_at-eq48.false in omega (arith, f, e, c.byte_at.ensures))
    ]

pub returns-in_default-clause-number : goal.returns-in_default-clause-number
returns-in_default-clause-number c = (run_is_number c.args.text.now c.args.from c.digits_end-end.result c.digits_end-end.ensures.value c.if-end-from.false (alone c)).0

pub returns-in_default-clause-signed : goal.returns-in_default-clause-signed
returns-in_default-clause-signed c = (run_is_number c.args.text.now c.args.from c.digits_end-end.result c.digits_end-end.ensures.value c.if-end-from.false (alone c)).1
