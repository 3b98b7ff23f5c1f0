-- What is found among contents that have numbers.
use Rattle.std.specs.Prelude.{ℕ, ◌&&◌, List, [], ◌∷◌, Bool, true, false, Option, Some, None, option_map, if◌then◌else◌}
use Rattle.std.specs.List.{list_any}
use Rattle.std.specs.Option.{option_map_or}
use Rattle.conversation_dues.specs.declared.sought.Search.{Search}
use Rattle.conversation_dues.specs.declared.sought.Search.TheVariants.{Awaited, Any}
use Rattle.conversation_dues.specs.declared.sought.Sought.{Sought}
use Rattle.conversation_dues.specs.declared.sought.Sought.TheVariants.{Single, InBatch, Asked, Cancelled, Unreadable, Huge, Batch}
use Rattle.conversation_dues.specs.declared.targets.Place.{Place}
use Rattle.conversation_dues.specs.declared.targets.Place.TheVariants as places
use Rattle.conversation_ids.specs.Ways.{fits}
use Rattle.conversation_contents.specs.Left.{index_of}
use Rattle.conversation_open.specs.Open.{among_has, among_is_due}
use Rattle.conversation_contents.specs.Settled.{place_at}
use Rattle.conversation_reading.specs.declared.entry.WrittenId.{WrittenId}
use Rattle.conversation_reading.specs.declared.entry.WrittenId.TheVariants.{Null}
use Rattle.conversation_rules.specs.Matching.{place_in, is_request_for}
use Rattle.conversation_rules.specs.Owed.{Due}
use Rattle.conversation_rules.specs.declared.found.Target.{Target}
use Rattle.conversation_rules.specs.declared.found.Target.TheVariants.{EntryOf, WholeOf}
use Rattle.number_windows.specs.Numbered.{at}

-- the whole of a content counts as its place 0
abbrev pub whole_if : (Due → Bool) → Due → Option ℕ
whole_if passes due = if passes due then Some 0 else None

abbrev pub place_of : Sought → WrittenId → Due → Option ℕ
place_of (Single way) id = place_in false (fits way id)
place_of (InBatch way) id = place_in true (fits way id)
place_of Asked id = whole_if (λ due. list_any (is_request_for id) due.entries)
place_of Cancelled id = whole_if (λ due. list_any (λ owed. is_request_for id owed && owed.is_cancelled) due.entries)
place_of Unreadable id = whole_if (λ due. due.is_unreadable)
place_of Huge id = whole_if (λ due. due.has_huge)
place_of Batch id = whole_if (λ due. due.is_batch)

-- a content on which it may be found
abbrev pub may_be_on : Search → Due → Bool
may_be_on (Awaited among mark) due = among_is_due among mark due
may_be_on (Any among mark) due = among_has among mark due

-- the oldest content that has such a place, by its number
abbrev pub first_of : (Due → Option ℕ) → List (ℕ × Due) → Option (ℕ × ℕ)
first_of place [] = None
first_of place (entry ∷ entries) = option_map_or (λ at. Some (entry.0, at)) (place entry.1) (first_of place entries)

-- what an answer is for, by the places of contents
-- an entry is the first of its content that fits in a way
abbrev pub target_of : WrittenId → List (ℕ × Due) → Place → Target
target_of id entries (places.EntryOf number way) = EntryOf (index_of number entries) (place_at (fits way id) (at number entries))
target_of id entries (places.WholeOf number) = WholeOf (index_of number entries)

abbrev pub target_at : WrittenId → List (ℕ × Due) → Option Place → Option Target
target_at id entries None = None
target_at id entries (Some place) = Some (target_of id entries place)

-- the whole of the oldest content with something
abbrev pub whole_target : Sought → List (ℕ × Due) → Option Target
whole_target sought entries = option_map (λ found. WholeOf (index_of found.0 entries)) (first_of (place_of sought Null) entries)
