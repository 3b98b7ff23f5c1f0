-- Levels of counts over the words of a set: what a set holds, for its private contracts.
use Rattle.std.specs.Prelude.{◌≡◌, ℕ, zero, suc, ◌+◌, ◌-◌, ◌*◌, ◌^◌, ◌<◌, ◌≤◌, List, [], ◌∷◌, Bool, true, false, length, set, slice_index, nat_lt, if◌then◌else◌, ⊤}
use Rattle.number_set.specs.declared.levels.Found.{Found}

abbrev pub half : ℕ → ℕ
half zero = zero
half (suc zero) = zero
half (suc (suc n)) = suc (half n)

-- the sum of each two counts, and the last alone where their number is odd
abbrev pub pair_sums : List ℕ → List ℕ
pair_sums [] = []
pair_sums (a ∷ []) = a ∷ []
pair_sums (a ∷ b ∷ counts) = (a + b) ∷ pair_sums counts

abbrev pub total : List ℕ → ℕ
total [] = 0
total (n ∷ counts) = n + total counts

-- each level is the pair sums of the one below, up to a single count
abbrev pub AreSums : List (List ℕ) → Type 0
AreSums [] = ⊤
AreSums (counts ∷ []) = length counts ≤ 1
AreSums (counts ∷ above ∷ levels) = (above ≡ pair_sums counts) × AreSums (above ∷ levels)

-- the same without the single count at the top
abbrev pub IsChain : List (List ℕ) → Type 0
IsChain [] = ⊤
IsChain (counts ∷ []) = ⊤
IsChain (counts ∷ above ∷ levels) = (above ≡ pair_sums counts) × IsChain (above ∷ levels)

-- the place leads to a count on each level, and none of them is at its greatest
abbrev pub HasPlace : ℕ → List (List ℕ) → Type 0
HasPlace place [] = ⊤
HasPlace place (counts ∷ levels) = (place < length counts) × (slice_index counts place < 2 ^ 32 - 1) × HasPlace (half place) levels

-- the levels after one more was counted at the place
abbrev pub one_more : ℕ → List (List ℕ) → List (List ℕ)
one_more place [] = []
one_more place (counts ∷ levels) = set counts place (slice_index counts place + 1) ∷ one_more (half place) levels

-- the same on the first levels alone, of which the next is led to by this place
abbrev pub one_more_up_to : ℕ → ℕ → List (List ℕ) → List (List ℕ)
one_more_up_to zero place levels = levels
one_more_up_to (suc k) place [] = []
one_more_up_to (suc k) place (counts ∷ levels) = set counts place (slice_index counts place + 1) ∷ one_more_up_to k (half place) levels

abbrev pub half_often : ℕ → ℕ → ℕ
half_often zero place = place
half_often (suc k) place = half_often k (half place)

-- the place leads to a count on each level, and none of them is 0
abbrev pub HasOne : ℕ → List (List ℕ) → Type 0
HasOne place [] = ⊤
HasOne place (counts ∷ levels) = (place < length counts) × (0 < slice_index counts place) × HasOne (half place) levels

-- the levels after one less was counted at the place
abbrev pub one_less : ℕ → List (List ℕ) → List (List ℕ)
one_less place [] = []
one_less place (counts ∷ levels) = set counts place (slice_index counts place - 1) ∷ one_less (half place) levels

abbrev pub one_less_up_to : ℕ → ℕ → List (List ℕ) → List (List ℕ)
one_less_up_to zero place levels = levels
one_less_up_to (suc k) place [] = []
one_less_up_to (suc k) place (counts ∷ levels) = set counts place (slice_index counts place - 1) ∷ one_less_up_to k (half place) levels

-- from a place on the level above to one of the two below it
abbrev pub go_down : List ℕ → Found → Found
go_down counts found =
    if nat_lt found.left (slice_index counts (2 * found.place)) then record { place = 2 * found.place; left = found.left }
    else record { place = 2 * found.place + 1; left = found.left - slice_index counts (2 * found.place) }

-- the place of the mark that so many stand before, from the top down
abbrev pub found_below : List (List ℕ) → ℕ → Found
found_below [] before = record { place = 0; left = before }
found_below (counts ∷ levels) before = go_down counts (found_below levels before)

-- below each place that is found there is one on the next level
abbrev pub HasWay : List (List ℕ) → ℕ → Type 0
HasWay [] before = ⊤
HasWay (counts ∷ levels) before = (2 * (found_below levels before).place < length counts) × HasWay levels before

-- counts of which any two can be added
abbrev pub AreSmall : List ℕ → Type 0
AreSmall counts = total counts < 2 ^ 32

-- the counts that a set's levels stand over
abbrev pub lowest : List (List ℕ) → List ℕ
lowest [] = []
lowest (counts ∷ levels) = counts

abbrev pub is_one : ℕ → Bool
is_one zero = false
is_one (suc n) = true
