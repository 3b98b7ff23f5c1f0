-- What a side owes, listed by contents, the oldest first; and what each thing that is seen changes in it.
use Rattle.std.specs.Prelude.{ℕ, zero, suc, ◌&&◌, ◌||◌, not, List, [], ◌∷◌, ◌++◌, map, position, remove, take, drop, count_by, length, ◌==◌, Bool, true, false, Option, Some, None, option_map, option_and_then, slice_get, if◌then◌else◌}
use Rattle.std.specs.List.{list_any, filter_map}
use Rattle.std.specs.Option.{option_map_or, is_none}
use Rattle.conversation_reading.specs.declared.entry.WrittenId.{WrittenId}
use Rattle.conversation_rules.specs.Amounts.{is_null}
use Rattle.conversation_rules.specs.Matching.{is_request_for, taken_by, nulls_last, batch_target}
use Rattle.conversation_rules.specs.Owed.{Owed, Due}
use Rattle.conversation_rules.specs.declared.found.Fit.{Fit}
use Rattle.conversation_rules.specs.declared.found.Found.{Found}
use Rattle.conversation_rules.specs.declared.found.Found.TheVariants.{Whole, Entry}
use Rattle.conversation_rules.specs.declared.found.Target.{Target}
use Rattle.conversation_rules.specs.declared.found.Target.TheVariants.{EntryOf, WholeOf}
use Rattle.conversation_rules.specs.declared.found.Unanswered.{Unanswered}

-- ---- a content comes

-- one more entry of the last content
abbrev pub owed_more : Owed → List Due → List Due
owed_more owed [] = []
owed_more owed (due ∷ []) = record due { entries = due.entries ++ owed ∷ [] } ∷ []
owed_more owed (due ∷ next ∷ dues) = due ∷ owed_more owed (next ∷ dues)

-- something may be answered: an entry, or the whole of it
abbrev pub is_open : Due → Bool
is_open due = not (length due.entries == 0) || due.is_unreadable || due.has_huge

-- the last content is read: it is forgotten if nothing on it may be answered
abbrev pub closed : List Due → List Due
closed [] = []
closed (due ∷ []) = if is_open due then due ∷ [] else []
closed (due ∷ next ∷ dues) = due ∷ closed (next ∷ dues)

-- whether what is open may be refused whole, for a limit of its reader: a batch, or what a reader may limit
abbrev pub may_be_refused : List Due → Bool
may_be_refused dues = list_any (λ due. due.is_batch) dues || list_any (λ due. due.has_huge) dues

-- ---- requests with an id

abbrev pub any_owed : (Owed → Bool) → List Due → Bool
any_owed fits dues = list_any (λ due. list_any fits due.entries) dues

-- whether one is open
abbrev pub is_asked : WrittenId → List Due → Bool
is_asked id dues = any_owed (is_request_for id) dues

-- whether one is open whose cancel was seen
abbrev pub has_cancelled : WrittenId → List Due → Bool
has_cancelled id dues = any_owed (λ owed. is_request_for id owed && owed.is_cancelled) dues

-- a cancel was seen, which may settle that they must be answered
abbrev pub cancelled : Bool → WrittenId → Owed → Owed
cancelled settles id owed = if is_request_for id owed then record owed { is_cancelled = true; must = owed.must && not settles } else owed

abbrev pub cancelled_in : Bool → WrittenId → Due → Due
cancelled_in settles id due = record due { entries = map (cancelled settles id) due.entries }

-- ---- an answer comes

-- this entry isn't owed anything any more, and its content neither where it was the last
abbrev pub with_entries : List Owed → Due → List Due → List Due
with_entries entries due dues = if length entries == 0 then dues else record due { entries = entries } ∷ dues

abbrev pub settled_entry : ℕ → ℕ → List Due → List Due
settled_entry content place [] = []
settled_entry zero place (due ∷ dues) = with_entries (remove due.entries place) due dues
settled_entry (suc content) place (due ∷ dues) = due ∷ settled_entry content place dues

abbrev pub settled : Option Target → List Due → List Due
settled None dues = dues
settled (Some (EntryOf content place)) dues = settled_entry content place dues
settled (Some (WholeOf content)) dues = remove dues content

-- what is told of the entry that an answer is for
abbrev pub fit_of : Due → Owed → Fit
fit_of due owed = record { in_batch = due.is_batch; is_request = owed.is_request; is_cancelled = owed.is_cancelled }

abbrev pub fit_in : ℕ → Due → Option Fit
fit_in place due = option_map (fit_of due) (slice_get due.entries place)

abbrev pub found : Option Target → List Due → Option Found
found None dues = None
found (Some (EntryOf content place)) dues = option_map Entry (option_and_then (fit_in place) (slice_get dues content))
found (Some (WholeOf content)) dues = Some Whole

-- what fits nothing may be for the oldest content that couldn't be read
abbrev pub unreadable_target : List Due → Option Target
unreadable_target dues = option_map WholeOf (position (λ due. due.is_unreadable) dues)

-- ---- an array of answers comes

-- by their ids, of which some may not be read
abbrev pub ids_read : List (Option WrittenId) → List WrittenId
ids_read ids = filter_map (λ id. id) ids

abbrev pub array_target : List (Option WrittenId) → List Due → Option ℕ
array_target ids dues = batch_target (ids_read ids) (count_by is_none ids) dues

-- the entries that answers with these ids take in turn, each of those that the earlier ones leave
abbrev pub fits_of : Due → List WrittenId → List Owed → List (Option Fit)
fits_of due [] entries = []
fits_of due (id ∷ ids) entries = option_map_or (λ place. option_map (fit_of due) (slice_get entries place) ∷ fits_of due ids (remove entries place)) (taken_by id entries) (None ∷ fits_of due ids entries)

abbrev pub first_or_none : List (Option Fit) → Option Fit
first_or_none [] = None
first_or_none (fit ∷ fits) = fit

-- in the order of the answers: first come those of ids that aren't null, and then the others
abbrev pub in_order : List (Option WrittenId) → List (Option Fit) → List (Option Fit) → List (Option Fit)
in_order [] named nulls = []
in_order (None ∷ ids) named nulls = None ∷ in_order ids named nulls
in_order (Some id ∷ ids) named nulls = if is_null id then first_or_none nulls ∷ in_order ids named (drop 1 nulls) else first_or_none named ∷ in_order ids (drop 1 named) nulls

abbrev pub not_null : WrittenId → Bool
not_null id = not (is_null id)

-- what is told of the entries that the answers of an array take
abbrev pub array_fits_from : List (Option WrittenId) → ℕ → List (Option Fit) → List (Option Fit)
array_fits_from ids named fits = in_order ids (take named fits) (drop named fits)

abbrev pub array_fits : List (Option WrittenId) → Due → List (Option Fit)
array_fits ids due = array_fits_from ids (count_by not_null (ids_read ids)) (fits_of due (nulls_last (ids_read ids)) due.entries)

abbrev pub found_batch : List (Option WrittenId) → List Due → Option (List (Option Fit))
found_batch ids dues = option_map (array_fits ids) (option_and_then (slice_get dues) (array_target ids dues))

abbrev pub settled_batch : Option ℕ → List Due → List Due
settled_batch None dues = dues
settled_batch (Some content) dues = remove dues content

-- ---- the end

-- a request that must be answered, and isn't
abbrev pub unanswered_entry : Due → Owed → Unanswered
unanswered_entry due owed = record { number = due.number; offset = due.offset; entry = owed.place; may_be_refused = due.is_batch || due.has_huge; may_be_answered = false }

abbrev pub unanswered_of : Due → List Owed → List Unanswered
unanswered_of due [] = []
unanswered_of due (owed ∷ entries) = if owed.must then unanswered_entry due owed ∷ unanswered_of due entries else unanswered_of due entries

abbrev pub unanswered : List Due → List Unanswered
unanswered [] = []
unanswered (due ∷ dues) = unanswered_of due due.entries ++ unanswered dues
