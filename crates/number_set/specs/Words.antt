-- Words of 64 bits as lists of marks: what a set holds, for its private contracts.
use Rattle.std.specs.Prelude.{◌≡◌, ◌*◌, ◌≤◌, ◌+◌, ◌++◌, ℕ, zero, suc, List, [], ◌∷◌, Bool, false, length, map, drop, ⊤}
use Rattle.std.specs.Int.{bit_at}
use Rattle.number_set.specs.declared.limits.TheConstants.{LARGEST_END}
use Rattle.number_set.specs.Levels.{AreSums, lowest, total, is_one}
use Rattle.number_set.specs.Numbers.{numbers_from}

-- for so many bits of a word from bit i on, whether each is set
abbrev pub marks_of_bits : ℕ → ℕ → ℕ → List Bool
marks_of_bits i zero word = []
marks_of_bits i (suc count) word = is_one (bit_at word i) ∷ marks_of_bits (suc i) count word

-- the marks of a word, lowest bit first
unfoldable pub word_marks : ℕ → List Bool
word_marks word = marks_of_bits 0 64 word

-- the marks of words, one after another
abbrev pub marks_of : List ℕ → List Bool
marks_of [] = []
marks_of (word ∷ words) = word_marks word ++ marks_of words

-- how many bits of a word are set
abbrev pub count_set : ℕ → ℕ
count_set word = length (numbers_from 0 (word_marks word))

-- none of the marks is that of a number that is in
abbrev pub AreOut : List Bool → Type 0
AreOut [] = ⊤
AreOut (mark ∷ marks) = (mark ≡ false) × AreOut marks

-- What a set is made of, which has room for so many numbers: its words hold their marks and no others, and above them stand levels of counts.
pub record AreWords (first room len : ℕ) (words : List ℕ) (levels : List (List ℕ)) : Type 0 where
  pub end : first + room ≤ LARGEST_END
  pub enough : room ≤ 64 * length words
  pub few : length words ≤ LARGEST_END
  pub others : AreOut (drop room (marks_of words))
  pub sums : AreSums levels
  pub counts : lowest levels ≡ map count_set words
  pub counted : len ≡ total (lowest levels)
