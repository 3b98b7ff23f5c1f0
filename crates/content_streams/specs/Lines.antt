-- Lines and their contents.
use Rattle.std.specs.Prelude.{ℕ, ◌+◌, ◌-◌, Bool, not, ◌||◌, List, [], ◌∷◌, length, take, map, filter, take_while, nat_le, ◌==◌, if◌then◌else◌, slice_index}
use Rattle.std.specs.List.{list_all, slice_split}

abbrev pub is_lf : ℕ → Bool
is_lf b = b == 10

-- what stands between the LFs of a text; behind the last part no LF has come
abbrev pub parts : List ℕ → List (List ℕ)
parts bytes = slice_split is_lf bytes

abbrev pub without_last : List (List ℕ) → List (List ℕ)
without_last [] = []
without_last (line ∷ []) = []
without_last (line ∷ next ∷ lines) = line ∷ without_last (next ∷ lines)

-- the lines whose LF has come, without it
abbrev pub ended_lines : List ℕ → List (List ℕ)
ended_lines bytes = without_last (parts bytes)

abbrev pub ends_in_cr : List ℕ → Bool
ends_in_cr line = slice_index line (length line - 1) == 13

-- a line without one CR at its end
abbrev pub without_cr : List ℕ → List ℕ
without_cr line = if ends_in_cr line then take (length line - 1) line else line

-- nothing, or spaces and tabs alone
abbrev pub is_blank : List ℕ → Bool
is_blank content = list_all (λ b. b == 32 || b == 9) content

abbrev pub fits : ℕ → List ℕ → Bool
fits limit content = nat_le (length content) limit

-- no line is too long, whether its LF has come or not
unfoldable pub all_fit : ℕ → List (List ℕ) → Bool
all_fit limit lines = list_all (fits limit) (map without_cr lines)

-- The contents of the lines before the first that is too long. Blank lines are passed over.
unfoldable pub line_contents : ℕ → List (List ℕ) → List (List ℕ)
line_contents limit lines = filter (λ content. not (is_blank content)) (take_while (fits limit) (map without_cr lines))

-- Texts that follow one another, each with the offset of its first byte, where the first begins at `start` and so many
-- bytes stand between two of them.
abbrev pub placed_texts : ℕ → ℕ → List (List ℕ) → List (ℕ × List ℕ)
placed_texts gap start [] = []
placed_texts gap start (text ∷ texts) = (start, text) ∷ placed_texts gap (start + length text + gap) texts

-- where the first of them begins that doesn't pass, or else what is behind them all
abbrev pub place_behind : (List ℕ → Bool) → ℕ → ℕ → List (List ℕ) → ℕ
place_behind passes gap start [] = start
place_behind passes gap start (text ∷ texts) = if passes text then place_behind passes gap (start + length text + gap) texts else start

-- The contents of lines, each with the offset of its first byte, which is its line's. Behind each line stands its LF.
unfoldable pub placed_line_contents : ℕ → ℕ → List (List ℕ) → List (ℕ × List ℕ)
placed_line_contents limit start lines =
    filter (λ placed. not (is_blank placed.1)) (map (λ placed. (placed.0, without_cr placed.1))
    (take_while (λ placed. fits limit (without_cr placed.1)) (placed_texts 1 start lines)))

-- where the first line begins that is too long, or else the line behind these
unfoldable pub line_place : ℕ → ℕ → List (List ℕ) → ℕ
line_place limit start lines = place_behind (λ line. fits limit (without_cr line)) 1 start lines
