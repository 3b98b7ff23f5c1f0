use Rattle.std.proofs.Common.{◌<◌, length, slice_get, ap, ◌∙◌, arith, w64}
use Rattle.std.specs.Int.{trailing_zeros}
use Rattle.number_set.specs.Numbers.{numbers_from}
use Rattle.number_set.specs.Words.{word_marks, count_set}
use Rattle.number_set.proofs.Bits.{lowest-is, lowest-first, behind-lowest, next-behind}
use Rattle.number_set.proofs.word.+bit_behind.Goals as goal

pub without_bit-requires : goal.without_bit-requires
without_bit-requires t c = (lowest-is c.args.word c.ranges.word.fits (omega (arith, c.requires))).within

pub bit_behind-requires : goal.bit_behind-requires
bit_behind-requires t c =
    let some : 0 < count_set c.args.word = omega (arith, c.requires) in
    let is = behind-lowest c.args.word c.without_bit.result c.ranges.word.fits some c.without_bit.ensures in
    (omega (arith, c.decreases, c.if-before-eq0.false), omega (arith, c.requires, c.if-before-eq0.false, ap length is))

pub returns-then-before-eq0-clause-bit : goal.returns-then-before-eq0-clause-bit
returns-then-before-eq0-clause-bit t c =
    ap (slice_get (numbers_from 0 (word_marks c.args.word))) c.if-before-eq0.true
    ∙ lowest-first c.args.word c.ranges.word.fits (omega (arith, c.requires))

pub returns-then-before-eq0-clause-within : goal.returns-then-before-eq0-clause-within
returns-then-before-eq0-clause-within t c = (lowest-is c.args.word c.ranges.word.fits (omega (arith, c.requires))).within

pub returns-else-before-eq0-clause-bit : goal.returns-else-before-eq0-clause-bit
returns-else-before-eq0-clause-bit t c =
    let some : 0 < count_set c.args.word = omega (arith, c.requires) in
    let is = behind-lowest c.args.word c.without_bit.result c.ranges.word.fits some c.without_bit.ensures in
    next-behind (numbers_from 0 (word_marks c.args.word)) (numbers_from 0 (word_marks c.without_bit.result)) (trailing_zeros w64 c.args.word) c.args.before c.bit_behind.result
    is (omega (arith, c.if-before-eq0.false)) c.bit_behind.ensures.bit
