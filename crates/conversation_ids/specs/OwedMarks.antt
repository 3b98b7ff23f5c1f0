-- By which marks what is owed is found.
use Rattle.std.specs.Prelude.{ℕ, ◌==◌, ◌&&◌, ◌||◌, not, Bool, false, Option}
use Rattle.std.specs.List.{list_any}
use Rattle.std.specs.Option.{option_map_or}
use Rattle.conversation_ids.specs.Marks.{mark_of, null_mark}
use Rattle.conversation_ids.specs.declared.entry_marks.EntryMarks.{EntryMarks}
use Rattle.conversation_reading.specs.declared.entry.WrittenId.{WrittenId}
use Rattle.conversation_rules.specs.Owed.{Owed, Due}

abbrev pub has_mark : ℕ → Option WrittenId → Bool
has_mark mark id = option_map_or (λ id. mark_of id == mark) id false

-- by that of its own id or of the one that stands first, of the one that its answer is expected to have, and of null where its
-- answer may have that
abbrev pub entry_has : ℕ → Owed → Bool
entry_has mark owed = has_mark mark owed.first || (has_mark mark owed.own || (has_mark mark owed.expected || (owed.may_be_null && null_mark == mark)))

-- it is a request whose cancel wasn't seen, by the id that its answer is expected to have
abbrev pub request_has : ℕ → Owed → Bool
request_has mark owed = owed.is_request && (not owed.is_cancelled && has_mark mark owed.expected)

-- of marks that were computed
abbrev pub is_mark : Option ℕ → ℕ → Bool
is_mark own mark = option_map_or (λ own. own == mark) own false

abbrev pub marks_have : EntryMarks → ℕ → Bool
marks_have marks mark = is_mark marks.first mark || (is_mark marks.own mark || is_mark marks.null mark)

-- what is asked of a content itself; no id has one of these
abbrev pub unreadable_mark : ℕ
unreadable_mark = 1

abbrev pub huge_mark : ℕ
huge_mark = 2

abbrev pub batch_mark : ℕ
batch_mark = 3

abbrev pub content_has : ℕ → Due → Bool
content_has mark due = (due.is_unreadable && unreadable_mark == mark) || ((due.has_huge && huge_mark == mark) || (due.is_batch && batch_mark == mark))

abbrev pub due_has : ℕ → Due → Bool
due_has mark due = content_has mark due || list_any (entry_has mark) due.entries

-- such a request is open on it
abbrev pub uncancelled_has : ℕ → Due → Bool
uncancelled_has mark due = list_any (request_has mark) due.entries
