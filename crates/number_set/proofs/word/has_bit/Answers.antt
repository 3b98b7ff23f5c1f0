use Rattle.std.proofs.Common.{◌≡◌, ℕ, zero, suc, ◌*◌, ◌^◌, ◌<◌, ◌==◌, not, refl, sym, ◌∙◌, arith, tests}
use Rattle.std.specs.Int.{bit_at}
use Rattle.std.proofs.lemmas.Nat.{one_shl, pow_pos}
use Rattle.std.proofs.lemmas.Nat.Bits.{and_pow, bit_at-lt}
use Rattle.number_set.specs.Levels.{is_one}
use Rattle.number_set.proofs.Bits.{mark_of_word}
use Rattle.number_set.proofs.word.has_bit.Goals as goal

some-bit : (x p : ℕ) → 0 < p → x < 2 → not (x * p == 0) ≡ is_one x
some-bit zero p pos small = let e : 0 * p ≡ 0 = omega arith in rw e refl
some-bit (suc zero) p pos small = let e : 1 * p ≡ p = omega arith in rw e (grind (arith, tests))
some-bit (suc (suc x)) p pos small = absurd (omega (arith, small))

pub returns : goal.returns
returns c =
    rw (one_shl c.args.bit 64 c.requires, and_pow c.args.word c.args.bit)
    (some-bit (bit_at c.args.word c.args.bit) (2 ^ c.args.bit) (pow_pos c.args.bit) (bit_at-lt c.args.word c.args.bit) ∙ sym (mark_of_word c.args.word c.args.bit c.requires))
