-- Which requests a cancel can still reach, and the numbers that are kept for them.
use Rattle.std.specs.Prelude.{◌≡◌, ℕ, ◌+◌, ◌<◌, ◌==◌, List, [], ◌∷◌, Bool, true, false, if◌then◌else◌, is_some, Option, Some, None, MatchOption}
use Rattle.std.specs.Ordering.{nat_cmp}
use Rattle.std.specs.BTreeMap as tree
use Rattle.std.specs.BTreeSet as sorted
use Rattle.message_ids.specs.declared.id.Id.{Id}
use Rattle.open_numbers.specs.declared.kept.Kept.{Kept}
use Rattle.open_numbers.specs.declared.kept.Kept.TheVariants.{Open, Answered}
use Rattle.open_numbers.specs.declared.requests_by_id.RequestsById.{RequestsById}
use Rattle.open_numbers.specs.Kept.{open_number, is_marked_at}
use Rattle.message_ids.specs.Ids.{id_cmp}
use Rattle.open_numbers.specs.OpenCalls.{is_in_reach}

-- a cancel of this id would mark the number
abbrev pub is_reached_by : Id → Option Kept → Bool
is_reached_by id kept = is_in_reach id (open_number kept)

-- no cancel has reached it, and none can
pub record IsOutOfReach (kept : Option Kept) : Type 0 where
  pub unmarked : is_marked_at kept ≡ false
  pub unreached : (id : Id) → is_reached_by id kept ≡ false

-- a cancel of some id would
abbrev pub id_unless : Bool → Option Id → Option Id
id_unless true id = None
id_unless false id = id

abbrev pub id_in_reach_of : Option Kept → Option Id
id_in_reach_of (Some (Open n)) = id_unless n.is_marked n.id
id_in_reach_of (Some (Answered other reply)) = None
id_in_reach_of None = None

abbrev pub in_reach : Option Kept → ℕ
in_reach kept = if is_some (id_in_reach_of kept) then 1 else 0

abbrev pub count_in_reach : List (Option Kept) → ℕ
count_in_reach [] = 0
count_in_reach (kept ∷ numbers) = in_reach kept + count_in_reach numbers

abbrev pub is_in : ℕ → Option (sorted.BTreeSet ℕ) → Bool
is_in number None = false
is_in number (Some numbers) = sorted.contains nat_cmp numbers number

-- whether this number stands there under this id
abbrev pub is_listed : RequestsById → Id → ℕ → Bool
is_listed requests id number = is_in number (tree.get id_cmp requests.numbers id)

abbrev pub IsUnchanged : RequestsById → RequestsById → Type 0
IsUnchanged now was = (id : Id) (k : ℕ) → is_listed now id k ≡ is_listed was id k

-- what `lowest` answers
abbrev pub IsLowestListed : RequestsById → Id → Option ℕ → Type 0
IsLowestListed requests id result =
    MatchOption result ((k : ℕ) → is_listed requests id k ≡ false)
    (λ number. (is_listed requests id number ≡ true) × ((k : ℕ) → k < number → is_listed requests id k ≡ false))

-- `now` is `was` without this number
abbrev pub IsWithout : RequestsById → RequestsById → ℕ → Type 0
IsWithout now was number = (id : Id) (k : ℕ) → is_listed now id k ≡ (if number == k then false else is_listed was id k)

-- `now` has this number too, where a cancel can reach what stands for it
abbrev pub IsWithMore : RequestsById → RequestsById → ℕ → Option Kept → Type 0
IsWithMore now was number kept = (id : Id) (k : ℕ) → is_listed now id k ≡ (if number == k then is_reached_by id kept else is_listed was id k)
