-- What has come of the frame under way.
use Rattle.std.specs.Prelude.{◌≡◌, ℕ, ◌+◌, ◌*◌, ◌<◌, ◌≤◌, ◌==◌, List, [], ◌∷◌, ◌++◌, Option, None, length, position, take}
use Rattle.std.specs.Option.{option_to_list}
use Rattle.lsp_frames.specs.Heads.{HeadRead, Ends, Breaks, Unended, head_from, head_at}
use Rattle.lsp_frames.specs.Lines.{no_fields}
use Rattle.lsp_frames.specs.Frames.{Whole, front_of}
use Rattle.lsp_frames.specs.Decoding.{Known, Open, Broken}
use Rattle.lsp_frames.specs.declared.frame.Frame.{Frame}
use Rattle.lsp_frames.specs.declared.limits.TheConstants.{LONGEST_HEAD}
use Rattle.lsp_frames.specs.declared.partial.Place.{Place}
use Rattle.lsp_frames.specs.declared.partial.Stage.{Stage}
use Rattle.lsp_frames.specs.declared.partial.Stage.TheVariants as stages
use Rattle.lsp_frames.specs.declared.partial.Partial.{Partial}
use Rattle.lsp_frames.specs.declared.partial.Front.{Front}
use Rattle.lsp_frames.specs.declared.partial.Taken.{Taken}
use Rattle.lsp_frames.specs.declared.partial.Taken.TheVariants as takes

-- where a head begins
abbrev pub first_place : Place
first_place = record { fields = no_fields; room = LONGEST_HEAD }

-- what was read of a frame, where these bytes have come of the line or the content under way
abbrev pub read_at : Stage → List ℕ → HeadRead
read_at (stages.Head place) held = Unended (record { fields = place.fields; line = held; room = place.room })
read_at (stages.Content n foreign) held = Ends n foreign held
read_at (stages.Ended fault) held = Breaks fault

abbrev pub read_of : Partial → HeadRead
read_of partial = read_at partial.stage partial.held.items

-- the same, without the content of a fault
abbrev pub known_read : HeadRead → Known
known_read (Ends n foreign bytes) = Open (Ends n foreign bytes)
known_read (Breaks fault) = Broken fault
known_read (Unended reading) = Open (Unended reading)

-- what is read with more bytes behind
abbrev pub read_on : ℕ → HeadRead → List ℕ → HeadRead
read_on limit (Ends n foreign bytes) more = Ends n foreign (bytes ++ more)
read_on limit (Breaks fault) more = Breaks fault
read_on limit (Unended reading) more = head_from limit reading.fields reading.line reading.room more

-- Less than a frame was read, or a fault.
abbrev pub HasNoFrame : HeadRead → Type 0
HasNoFrame (Ends n foreign bytes) = length bytes < n
HasNoFrame (Breaks fault) = Unit {0}
HasNoFrame (Unended reading) = Unit {0}

-- Where this was read, these frames are whole one after another, and that is what was read behind them.
abbrev pub Gives : ℕ → HeadRead → List Frame → HeadRead → Type 0
Gives limit read [] last = HasNoFrame read × (last ≡ read)
Gives limit read (frame ∷ frames) last = (rest : List ℕ) × (front_of read ≡ Whole frame rest) × Gives limit (head_at limit rest) frames last

-- Where that was read first, the frames that stand behind the old ones are whole, and this is read behind them.
pub record IsCutSoFar (limit : ℕ) (old new : List Frame) (first now : HeadRead) : Type 0 where
  pub frames : List Frame
  pub made : new ≡ old ++ frames
  pub on : (later : List Frame) (last : HeadRead) → Gives limit now later last → Gives limit first (frames ++ later) last

-- The same, of frames that stand behind those that were there.
abbrev pub Cuts : ℕ → List Frame → List Frame → HeadRead → HeadRead → Type 0
Cuts limit old new read last = (frames : List Frame) × (new ≡ old ++ frames) × Gives limit read frames last

-- The same, where another frame may stand in front of those that were added.
abbrev pub Adds : ℕ → List Frame → List Frame → HeadRead → Option Frame → HeadRead → Type 0
Adds limit old new read first last =
    (frames : List Frame) × (new ≡ old ++ frames) × Gives limit read (option_to_list first ++ frames) last

-- A head has room for a byte more, and of a content no more has come than it has.
abbrev pub IsUnderWay : Stage → List ℕ → Type 0
IsUnderWay (stages.Head place) held = 0 < place.room
IsUnderWay (stages.Content n foreign) held = length held ≤ n
IsUnderWay (stages.Ended fault) held = Unit {0}

abbrev pub IsPartial : Partial → Type 0
IsPartial partial = IsUnderWay partial.stage partial.held.items

-- the frame of a whole content; a line makes none
abbrev pub frames_of : Stage → List ℕ → List Frame
frames_of (stages.Head place) held = []
frames_of (stages.Content n foreign) held = record { content = held; foreign = foreign } ∷ []
frames_of (stages.Ended fault) held = []

-- The line or the content is whole, that is its text, and this is what comes next and the bytes behind it.
abbrev pub Completes : ℕ → Stage → List ℕ → Stage → List ℕ → HeadRead → Type 0
Completes limit (stages.Head place) held next rest read = read ≡ read_on limit (read_at next []) rest
Completes limit (stages.Content n foreign) held next rest read =
    (front_of read ≡ Whole (record { content = held; foreign = foreign }) rest) × (read_on limit (read_at next []) rest ≡ head_at limit rest)
Completes limit (stages.Ended fault) held next rest read = ⊥

-- This becomes smaller from line to line and from frame to frame.
abbrev pub measure : Stage → List ℕ → ℕ
measure (stages.Head place) bytes = 2 * length bytes
measure (stages.Content n foreign) bytes = 2 * length bytes + 1
measure (stages.Ended fault) bytes = 2 * length bytes

-- The bytes are as they were, wherever they lie in memory.
pub record IsSame (old new : Partial) : Type 0 where
  pub stage : new.stage ≡ old.stage
  pub held : new.held.items ≡ old.held.items

-- The same, with more bytes behind.
pub record HasKept (old new : Partial) : Type 0 where
  pub stage : new.stage ≡ old.stage
  pub held : take (length old.held.items) new.held.items ≡ old.held.items

-- These bytes don't make the line or the content whole of which that has come.
abbrev pub IsShort : Stage → List ℕ → List ℕ → Type 0
IsShort (stages.Head place) held bytes = position (λ b. b == 10) (take place.room bytes) ≡ None
IsShort (stages.Content n foreign) held bytes = length held + length bytes < n
IsShort (stages.Ended fault) held bytes = Unit {0}

-- All of a piece was taken, and gives no frame.
abbrev pub TakesAll : ℕ → Partial → Partial → List ℕ → Type 0
TakesAll limit old new piece = IsPartial new × HasNoFrame (read_of new) × (read_of new ≡ read_on limit (read_of old) piece)

-- A line or a content is whole at the front of a piece.
abbrev pub IsFront : ℕ → Stage → List ℕ → Front → Type 0
IsFront limit stage piece front = IsUnderWay front.next [] × (measure front.next front.behind.now < measure stage piece)
    × Completes limit stage front.whole.now front.next front.behind.now (read_on limit (read_at stage []) piece)

-- A piece was taken: all of it, or up to the end of the line or the content under way.
abbrev pub Takes : ℕ → Partial → Partial → List ℕ → Taken → Type 0
Takes limit old new piece takes.All = TakesAll limit old new piece
Takes limit old new piece (takes.Front next rest) =
    HasKept old new × IsUnderWay next [] × (measure next rest.now < measure old.stage piece)
    × Completes limit old.stage new.held.items next rest.now (read_on limit (read_of old) piece)
