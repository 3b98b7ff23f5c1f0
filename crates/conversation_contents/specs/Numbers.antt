-- Numbers by marks.
use Rattle.std.specs.Prelude.{ℕ, ◌≡◌, ◌==◌, Bool, true, false}
use Rattle.std.specs.Ordering.{nat_cmp, ordering_then}
use Rattle.std.specs.declared.cmp.Ordering.{Ordering}
use Rattle.std.specs.BTreeSet as sorted
use Rattle.conversation_contents.specs.declared.numbers_by_mark.NumbersByMark.{NumbersByMark}

abbrev pub pair_cmp : ℕ × ℕ → ℕ × ℕ → Ordering
pair_cmp a b = ordering_then (nat_cmp a.0 b.0) (nat_cmp a.1 b.1)

-- whether this number stands there under this mark
abbrev pub has_number : NumbersByMark → ℕ → ℕ → Bool
has_number index mark number = sorted.contains pair_cmp index.pairs (mark, number)

-- each number that was there still is
abbrev pub Keeps : NumbersByMark → NumbersByMark → Type 0
Keeps now was = (mark number : ℕ) → has_number was mark number ≡ true → has_number now mark number ≡ true

-- but for this number nothing has changed
abbrev pub IsSameBut : ℕ → NumbersByMark → NumbersByMark → Type 0
IsSameBut number now was = (mark n : ℕ) → (number == n) ≡ false → has_number now mark n ≡ has_number was mark n
