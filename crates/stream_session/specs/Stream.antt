-- What a session has done with the bytes that it was fed.
use Rattle.std.specs.Prelude.{◌≡◌, ◌≢◌, ◌+◌, ℕ, List, [], ◌++◌, length, false, Option, None}
use Rattle.std.specs.Io.KnownBytes.{Appends}
use Rattle.lsp_frames.specs.Contents.{Standing}
use Rattle.lsp_frames.specs.Devices.{Ending, Unfinished}
use Rattle.lsp_frames.specs.Devices as devices
use Rattle.lsp_frames.specs.declared.frame.Frame.{Frame}
use Rattle.rpc_messages.specs.Numbering.{taken, is_cut}
use Rattle.rpc_messages.specs.Unit.{SeenUnit, units_of}
use Rattle.method_steps.specs.Steps.{MethodTable}
use Rattle.handler_future.specs.State.{HandlerState}
use Rattle.peer_session.specs.Session.{view}
use Rattle.peer_session.specs.SessionState.{SessionState}
use Rattle.peer_session.specs.declared.limits.Limits.{Limits}
use Rattle.peer_session.specs.declared.report.Close.{Close}
use Rattle.peer_output.specs.Items.{Item}
use Rattle.peer_session.specs.Framings.{bytes_in}
use Rattle.stream_framing.specs.Framed.{Holds, Knows, framing_of, limit_of, read_text}
use Rattle.stream_framing.specs.declared.cutter.Cutter.{Cutter}
use Rattle.stream_framing.specs.declared.framing.Framing.{Framing}
use Rattle.stream_session.specs.Framings.{IsShortOf}
use Rattle.stream_session.specs.Promise.{close_of}
use Rattle.stream_session.specs.Standing.{SessionStands}
use Rattle.stream_session.specs.declared.next.InputEnd.{InputEnd}
use Rattle.stream_session.specs.declared.next.InputEnd.TheVariants.{Finished, Failed}
use Rattle.stream_session.specs.declared.next.Next.{Next}
use Rattle.stream_session.specs.declared.next.Next.TheVariants.{Content, Nothing}
use Rattle.stream_session.specs.declared.stream.StreamSession.{StreamSession}

-- ---- what it was fed

-- The framing, the table and the limits, the text so far and how it ended, and what the sink had taken before.
pub record Fed : Type 0 where
  pub framing : Framing
  pub table : MethodTable
  pub limits : Limits
  pub bytes : List ℕ
  pub ending : Ending
  pub before : Option (List ℕ)

-- before the first byte
abbrev pub fed_nothing : Framing → MethodTable → Limits → Option (List ℕ) → Fed
fed_nothing framing table limits before = record { framing = framing; table = table; limits = limits; bytes = []; ending = Unfinished; before = before }

-- one piece more
abbrev pub with_piece : Fed → List ℕ → Fed
with_piece fed piece = record fed { bytes = fed.bytes ++ piece }

abbrev pub ending_by : InputEnd → Ending
ending_by Finished = devices.Finished
ending_by Failed = devices.Failed

-- the last line is ended, as where the input was closed
abbrev pub with_line_ended : Fed → Fed
with_line_ended fed = record fed { bytes = read_text fed.framing devices.Finished fed.bytes }

abbrev pub with_ending : Fed → InputEnd → Fed
with_ending fed end = record fed { ending = ending_by end }

-- the end of the input: where lines are closed, an LF ends the last one
abbrev pub with_end : Fed → InputEnd → Fed
with_end fed end = record fed { bytes = read_text fed.framing (ending_by end) fed.bytes; ending = ending_by end }

-- These bytes may come yet, behind others that came to this ending.
abbrev pub MayFollow : Ending → List ℕ → Type 0
MayFollow Unfinished more = Unit {0}
MayFollow devices.Finished more = more ≡ []
MayFollow devices.Failed more = more ≡ []

-- It has stopped short, whatever comes yet.
abbrev pub StopsShort : Fed → Option (List ℕ) → Type 0
StopsShort fed sink = (more : List ℕ) → MayFollow fed.ending more → IsShortOf fed.framing fed.table fed.limits (fed.bytes ++ more) fed.before sink

-- ---- what it is

-- What cuts the contents, those that wait, how the input closes behind them once that is known, and the session.
pub record StreamState : Type 0 where
  pub cutter : Cutter
  pub waiting : List Frame
  pub last : Option Close
  pub session : SessionState

abbrev pub stream_of : StreamSession → StreamState
stream_of stream = record {
  cutter = stream.cutter;
  waiting = stream.waiting.items;
  last = stream.last;
  session = view stream.session;
}

-- ---- what it has done

-- Of the frames these units were taken, and the contents wait; behind them stands what closes the input, once it is known. The
-- cutter knows what is left of all bytes.
pub record GoesOn (limits : Limits) (frames : List Frame) (standing : Standing) (ending : Ending) (units : List SeenUnit) (cutter : Cutter)
    (waiting : List Frame) (last : Option Close) : Type 0 where
  pub parts : units_of frames ≡ units ++ units_of waiting
  pub uncut : is_cut limits.numbers units ≡ false
  pub last_is : last ≡ close_of false standing ending
  pub knows : Knows cutter standing

-- All units of the frames were taken, as far as their numbers go, and what stands behind them closed the session.
pub record HasClosed (limits : Limits) (frames : List Frame) (standing : Standing) (ending : Ending) (units : List SeenUnit) (close : Option Close) : Type 0 where
  pub units_are : units ≡ taken limits.numbers (units_of frames)
  pub close_is : close ≡ close_of (is_cut limits.numbers (units_of frames)) standing ending

-- The bytes hold these contents, of which these units were taken and these items written, into a sink that has taken this since; these jobs
-- are out.
pub record StreamStands (fed : Fed) (jobs : ℕ → Option HandlerState) (s : StreamState) (sink : Option (List ℕ)) : Type 0 where
  pub frames : List Frame
  pub standing : Standing
  pub contents : Holds fed.framing fed.limits.content fed.bytes frames standing
  pub units : List SeenUnit
  pub items : List Item
  pub out : ℕ → Option HandlerState
  pub out_are : (n : ℕ) → out n ≡ jobs n
  pub session : SessionStands fed.table fed.limits units items s.session out
  pub wrote : Appends fed.before sink (bytes_in fed.framing items)
  pub framing : framing_of s.cutter ≡ fed.framing
  pub limit : limit_of s.cutter ≡ fed.limits.content
  pub while_open : s.session.close ≡ None → GoesOn fed.limits frames standing fed.ending units s.cutter s.waiting s.last
  pub once_closed : s.session.close ≢ None → HasClosed fed.limits frames standing fed.ending units s.session.close

-- ---- what was taken

-- Nothing is left to take: no content waits, and what stood behind them has closed the session.
pub record IsTaken (s : StreamState) : Type 0 where
  pub none_waits : s.waiting ≡ []
  pub is_closed : s.last ≢ None → s.session.close ≢ None

-- One content fewer waits; or nothing is left.
abbrev pub TakesNext : StreamState → Next → StreamState → Type 0
TakesNext s Content after = 1 + length after.waiting ≡ length s.waiting
TakesNext s Nothing after = IsTaken after
