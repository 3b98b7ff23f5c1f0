use Rattle.std.proofs.Common.{◌≡◌, ◌<◌, ◌+◌, ◌*◌, ◌&&◌, ℕ, true, arith, subst}
use Rattle.std.proofs.lemmas.Bool.{and_parts, ltb-true}
use Rattle.std.specs.Prelude.{nat_lt}
use Rattle.json.specs.Text.{code_unit}
use Rattle.value_reading.specs.Lexed.{HasUnit}
use Rattle.value_reading.proofs.escapes.four_digits.Goals as goal

pub returns-then-a-b-clause-value : goal.returns-then-a-b-clause-value
unfolding code_unit
returns-then-a-b-clause-value c =
    subst (λ t. HasUnit t c.args.at (c.digit-a.result * 4096 + c.digit-b.result * 256 + c.digit-c.result * 16 + c.digit-d.result)) c.as_bytes-bytes.ensures.value
    (rw (← c.digit-a.ensures.value, ← c.digit-b.ensures.value, ← c.digit-c.ensures.value, ← c.digit-d.ensures.value) (grind arith))

unit_fits : (a b c d : ℕ) → (nat_lt a 16 && nat_lt b 16 && nat_lt c 16 && nat_lt d 16) ≡ true → a * 4096 + b * 256 + c * 16 + d < 65536
unit_fits a b c d is =
    let p = and_parts (nat_lt a 16 && nat_lt b 16 && nat_lt c 16) (nat_lt d 16) is in
    let q = and_parts (nat_lt a 16 && nat_lt b 16) (nat_lt c 16) p.0 in
    let r = and_parts (nat_lt a 16) (nat_lt b 16) q.0 in
    omega (arith, ltb-true a 16 r.0, ltb-true b 16 r.1, ltb-true c 16 q.1, ltb-true d 16 p.1)

pub returns-then-a-b-clause-bounds : goal.returns-then-a-b-clause-bounds
returns-then-a-b-clause-bounds c =
    (omega (arith, c.if-at-bytes.false, c.as_bytes-bytes.ensures.len), unit_fits c.digit-a.result c.digit-b.result c.digit-c.result c.digit-d.result c.if-a-b.true)
