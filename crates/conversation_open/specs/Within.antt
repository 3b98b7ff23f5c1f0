-- Contents while one of them is changed: the index may have that one under marks as well which it has lost, or hasn't got yet.
use Rattle.std.specs.Prelude.{ℕ, suc, ◌≡◌, ◌==◌, ◌&&◌, ◌||◌, not, List, Bool, true, false}
use Rattle.std.specs.Option.{option_map_or}
use Rattle.conversation_ids.specs.OwedMarks.{is_mark, marks_have, due_has, uncancelled_has}
use Rattle.conversation_ids.specs.declared.entry_marks.EntryMarks.{EntryMarks}
use Rattle.conversation_contents.specs.Numbers.{has_number}
use Rattle.conversation_open.specs.Open.{open_entries, AreUncancelled}
use Rattle.conversation_open.specs.declared.index.Index.{Index}
use Rattle.conversation_open.specs.declared.marked_contents.MarkedContents.{MarkedContents}
use Rattle.conversation_contents.specs.declared.numbers_by_mark.NumbersByMark.{NumbersByMark}
use Rattle.conversation_open.specs.declared.open_contents.OpenContents.{OpenContents}
use Rattle.conversation_rules.specs.Owed.{Due}
use Rattle.number_windows.specs.Numbered.{at, Above, Below}
use Rattle.number_windows.specs.Windows.{IsWindow}

-- each content that is one of these stands under its marks, and just this one under others as well, of a kind
abbrev pub StandWithin : (Due → Bool) → (ℕ → Due → Bool) → (ℕ → Bool) → ℕ → NumbersByMark → List (ℕ × Due) → Type 0
StandWithin is_one has is_of number marks entries = (mark n : ℕ) →
    (option_map_or (λ due. is_one due && has mark due) (at n entries) false ≡ true → has_number marks mark n ≡ true)
    × (has_number marks mark n ≡ true → option_map_or (λ due. is_one due && (has mark due || ((number == n) && is_of mark))) (at n entries) false ≡ true)

pub record AreMarkedWithin (is_one : Due → Bool) (entry : EntryMarks) (number : ℕ) (contents : MarkedContents) (entries : List (ℕ × Due)) : Type 0 where
  pub all : StandWithin is_one due_has (marks_have entry) number contents.all entries
  pub uncancelled : StandWithin is_one uncancelled_has (is_mark entry.request) number contents.uncancelled entries

pub record IsIndexedWithin (entry : EntryMarks) (number : ℕ) (index : Index) (entries : List (ℕ × Due)) : Type 0 where
  pub singles : AreMarkedWithin (λ due. not due.is_batch) entry number index.singles entries
  pub batches : AreMarkedWithin (λ due. due.is_batch) entry number index.batches entries

pub record IsOpenWithin (entry : EntryMarks) (number : ℕ) (contents : OpenContents) : Type 0 where
  pub window : IsWindow contents.dues
  pub above : Above 0 (open_entries contents)
  pub below : Below (suc contents.last) (open_entries contents)
  pub indexed : IsIndexedWithin entry number contents.index (open_entries contents)
  pub uncancelled : contents.due_are_uncancelled ≡ true → AreUncancelled (open_entries contents)
