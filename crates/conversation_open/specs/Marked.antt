-- By which marks contents stand in an index.
use Rattle.std.specs.Prelude.{ℕ, ◌≡◌, ◌==◌, ◌&&◌, ◌||◌, not, Bool, true, false, Option, Some, None, min}
use Rattle.conversation_contents.specs.Numbers.{has_number, Keeps}
use Rattle.conversation_contents.specs.declared.numbers_by_mark.NumbersByMark.{NumbersByMark}
use Rattle.conversation_open.specs.declared.among.Among.{Among}
use Rattle.conversation_open.specs.declared.among.Among.TheVariants.{Singles, Batches, All}
use Rattle.conversation_open.specs.declared.index.Index.{Index}
use Rattle.conversation_open.specs.declared.marked_contents.MarkedContents.{MarkedContents}
use Rattle.conversation_open.specs.declared.marked_contents.Which.{Which}
use Rattle.conversation_open.specs.declared.marked_contents.Which.TheVariants.{Any, Uncancelled}

-- a number stands under each mark of a kind
abbrev pub StandsUnder : (ℕ → Bool) → ℕ → NumbersByMark → Type 0
StandsUnder is_of number index = (mark : ℕ) → is_of mark ≡ true → has_number index mark number ≡ true

-- but for this number under marks of a kind nothing has changed
abbrev pub IsSameButUnder : (ℕ → Bool) → ℕ → NumbersByMark → NumbersByMark → Type 0
IsSameButUnder is_of number now was = (mark n : ℕ) → ((number == n) && is_of mark) ≡ false → has_number now mark n ≡ has_number was mark n

-- a number is gone from the marks of a kind, and nothing else has changed
abbrev pub IsWithout : (ℕ → Bool) → ℕ → NumbersByMark → NumbersByMark → Type 0
IsWithout is_of number now was = (mark n : ℕ) → has_number now mark n ≡ (has_number was mark n && not ((number == n) && is_of mark))

-- ---- contents of one kind

-- the numbers of all, or of those with a request whose cancel wasn't seen
abbrev pub set_of : Which → MarkedContents → NumbersByMark
set_of Any contents = contents.all
set_of Uncancelled contents = contents.uncancelled

-- each number that was there still is
pub record KeepsBoth (now was : MarkedContents) : Type 0 where
  pub all : Keeps now.all was.all
  pub uncancelled : Keeps now.uncancelled was.uncancelled

-- a number stands under each of these marks, and under those of requests among the uncancelled ones
pub record IsNotedAs (is_of request : ℕ → Bool) (number : ℕ) (contents : MarkedContents) : Type 0 where
  pub all : StandsUnder is_of number contents.all
  pub uncancelled : StandsUnder request number contents.uncancelled

-- but for these nothing has changed
pub record IsSameBothBut (is_of request : ℕ → Bool) (number : ℕ) (now was : MarkedContents) : Type 0 where
  pub all : IsSameButUnder is_of number now.all was.all
  pub uncancelled : IsSameButUnder request number now.uncancelled was.uncancelled

-- these are gone, and nothing else has changed
pub record IsBothWithout (is_of request : ℕ → Bool) (number : ℕ) (now was : MarkedContents) : Type 0 where
  pub all : IsWithout is_of number now.all was.all
  pub uncancelled : IsWithout request number now.uncancelled was.uncancelled

-- ---- an index

-- batches, or what is none
abbrev pub of_kind : Bool → Index → MarkedContents
of_kind true index = index.batches
of_kind false index = index.singles

-- whether this number stands there, among such contents
abbrev pub has_among : Among → Which → Index → ℕ → ℕ → Bool
has_among Singles which index mark number = has_number (set_of which index.singles) mark number
has_among Batches which index mark number = has_number (set_of which index.batches) mark number
has_among All which index mark number = has_number (set_of which index.singles) mark number || has_number (set_of which index.batches) mark number

abbrev pub earlier_of : Option ℕ → Option ℕ → Option ℕ
earlier_of None second = second
earlier_of (Some first) None = Some first
earlier_of (Some first) (Some second) = Some (min first second)
