-- What each call makes of a session.
use Rattle.std.specs.Prelude.{◌≡◌, ℕ, ◌+◌, ◌%◌, ◌<◌, nat_le, List, [], length, take, slice_index_or, Bool, true, false, ◌||◌, Option, Some, None, Result, Ok, Err, ◌-◌, ◌^◌, min, if◌then◌else◌}
use Rattle.std.specs.Io.KnownBytes.{Appends}
use Rattle.answer_desk.specs.State.{front_texts}
use Rattle.handler_future.specs.declared.outcome.Outcome.{Outcome}
use Rattle.handler_future.specs.declared.outcome.Outcome.TheVariants.{Answer, Failed}
use Rattle.handler_future.specs.State.{HandlerState}
use Rattle.peer_session.specs.declared.report.Close.{Close}
use Rattle.peer_session.specs.declared.report.Close.TheVariants.{Full}
use Rattle.rpc_messages.specs.Numbering.{unit_numbers}
use Rattle.rpc_messages.specs.Unit.{SeenUnit}
use Rattle.peer_output.specs.Items.{Item, count_sendings, count_calls}
use Rattle.peer_events.specs.Core.{Core, unwritten_from}
use Rattle.peer_events.specs.Taking.{Takes}
use Rattle.peer_events.specs.Turning.{Leaves, closed, drained, ready, returned}
use Rattle.stream_framing.specs.declared.framing.Framing.{Framing}
use Rattle.stream_framing.specs.declared.framing.Framing.TheVariants.{Frames, Lines}
use Rattle.peer_session.specs.Framings.{due_in}
use Rattle.peer_session.specs.declared.drain_fault.DrainFault.{DrainFault}
use Rattle.peer_session.specs.declared.drain_fault.DrainFault.TheVariants.{Memory, Write}
use Rattle.peer_session.specs.declared.taken.Taken.{Taken}
use Rattle.peer_session.specs.declared.taken.Taken.TheVariants as taken
use Rattle.peer_session.specs.SessionState.{SessionState, with_core, numbers_left, counted}

-- ---- the input ends: an end after another changes nothing

abbrev pub ended_at : SessionState → Close → Option Close → SessionState
ended_at s close None = record s { core = closed s.core; close = Some close }
ended_at s close (Some before) = s

abbrev pub ended : SessionState → Close → SessionState
ended s close = ended_at s close s.close

-- ---- a content is taken

-- A unit is full where it needs more numbers than are left.
abbrev pub fits_in : SessionState → SeenUnit → Bool
fits_in s u = nat_le (unit_numbers u) (numbers_left s)

-- It is taken whole: all of its entries are passed.
abbrev pub TakesAll : SessionState → SeenUnit → SessionState → Type 0
TakesAll s u after = (core : Core) × Takes s.table s.core u core × (after ≡ with_core s core)

-- It was taken whole; or it was full, and the input is over.
abbrev pub TakesUnit : SessionState → SeenUnit → Taken → SessionState → Type 0
TakesUnit s u taken.Taken after = (fits_in s u ≡ true) × TakesAll s u after
TakesUnit s u taken.Full after = (fits_in s u ≡ false) × (after ≡ ended s Full)

-- ---- jobs

-- one of those that are ready, by its place
abbrev pub picked : Core → ℕ → ℕ
picked core pick = slice_index_or (ready core) (pick % length (ready core)) 0

-- None where none is ready; else the one at place `pick` modulo their number.
abbrev pub LeavesAt : SessionState → ℕ → Option HandlerState → SessionState → Type 0
LeavesAt s pick None after = (ready s.core ≡ []) × (after ≡ s)
LeavesAt s pick (Some job) after = (0 < length (ready s.core)) × ((core : Core) × Leaves s.core (picked s.core pick) job core × (after ≡ with_core s core))

abbrev pub is_failure : Option Outcome → Bool
is_failure None = false
is_failure (Some (Answer answer)) = false
is_failure (Some Failed) = true

-- a job is back, after so many polls
abbrev pub with_job_back : SessionState → HandlerState → Option Outcome → ℕ → SessionState
with_job_back s h outcome polls = record s {
  core = returned s.core h outcome;
  polls = counted (s.polls + polls);
  has_failed = s.has_failed || is_failure outcome;
}

-- ---- what is due is written

abbrev pub due_sendings : SessionState → List Item
due_sendings s = unwritten_from 0 s.core.stages

abbrev pub drained_session : SessionState → SessionState
drained_session s = record s {
  core = drained s.core;
  messages = counted (s.messages + count_sendings (due_sendings s));
  call_frames = counted (s.call_frames + count_calls (due_sendings s));
  answers = counted (s.answers + length (front_texts s.core.desk));
}

abbrev pub broken : SessionState → SessionState
broken s = record s { is_broken = true }

-- All of it was written.
pub record WritesIn (framing : Framing) (s after : SessionState) (before sink : Option (List ℕ)) : Type 0 where
  pub not_broken : s.is_broken ≡ false
  pub not_failed : s.has_failed ≡ false
  pub bytes : Appends before sink (due_in framing s.core)
  pub after_is : after ≡ drained_session s

-- Nothing was written, and the session is unchanged.
pub record WritesNothing (s after : SessionState) (before sink : Option (List ℕ)) : Type 0 where
  pub bytes : sink ≡ before
  pub after_is : after ≡ s

-- Nothing was written for want of memory. In frames the session is unchanged. In lines it may have let go of what was due: it writes nothing
-- any more.
abbrev pub StopsIn : Framing → SessionState → SessionState → Option (List ℕ) → Option (List ℕ) → Type 0
StopsIn Frames s after before sink = WritesNothing s after before sink
StopsIn Lines s after before sink = (sink ≡ before) × (after ≡ record s { core = after.core; has_failed = true })

-- The sink failed behind some of the bytes, from their front.
pub record WritesSomeIn (framing : Framing) (s after : SessionState) (before sink : Option (List ℕ)) : Type 0 where
  pub not_broken : s.is_broken ≡ false
  pub not_failed : s.has_failed ≡ false
  pub count : ℕ
  pub bytes : Appends before sink (take count (due_in framing s.core))
  pub after_is : after ≡ broken (drained_session s)

-- A sink that failed before gets nothing.
abbrev pub FailsToWriteIn : Framing → Bool → SessionState → SessionState → Option (List ℕ) → Option (List ℕ) → Type 0
FailsToWriteIn framing true s after before sink = WritesNothing s after before sink
FailsToWriteIn framing false s after before sink = WritesSomeIn framing s after before sink

-- A drain is refused for memory where a handler has found none, or where there is none for its bytes; it fails where the sink fails, and ever after.
abbrev pub DrainsIn : {T : Type 0} → Framing → SessionState → Option (List ℕ) → Result T DrainFault → SessionState → Option (List ℕ) → Type 0
DrainsIn framing s before (Ok done) after sink = WritesIn framing s after before sink
DrainsIn framing s before (Err Memory) after sink = (s.is_broken ≡ false) × StopsIn framing s after before sink
DrainsIn framing s before (Err Write) after sink = FailsToWriteIn framing s.is_broken s after before sink

-- ---- the same in frames

abbrev pub Writes : SessionState → SessionState → Option (List ℕ) → Option (List ℕ) → Type 0
Writes s after before sink = WritesIn Frames s after before sink

abbrev pub WritesSome : SessionState → SessionState → Option (List ℕ) → Option (List ℕ) → Type 0
WritesSome s after before sink = WritesSomeIn Frames s after before sink

abbrev pub DrainsTo : {T : Type 0} → SessionState → Option (List ℕ) → Result T DrainFault → SessionState → Option (List ℕ) → Type 0
DrainsTo s before result after sink = DrainsIn Frames s before result after sink

-- The sink's count of failures rises where it fails in a drain, and in no other case.
abbrev pub CountsDrain : {T : Type 0} → SessionState → ℕ → Result T DrainFault → ℕ → Type 0
CountsDrain s before (Ok done) after = after ≡ before
CountsDrain s before (Err Memory) after = after ≡ before
CountsDrain s before (Err Write) after = after ≡ (if s.is_broken then before else min (before + 1) (2 ^ 64 - 1))
