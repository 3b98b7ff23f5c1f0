-- The promise of a peer in any framing: that of Promise with the framing's contents for frames, and its texts for the bytes of frames.
use Rattle.std.specs.Prelude.{◌≡◌, ℕ, List, length, Option, Some}
use Rattle.std.specs.Io.KnownBytes.{Appends}
use Rattle.lsp_frames.specs.Contents.{Standing}
use Rattle.lsp_frames.specs.Devices.{Ending, Gift}
use Rattle.lsp_frames.specs.declared.frame.Frame.{Frame as FrameOf}
use Rattle.rpc_messages.specs.Numbering.{taken, is_cut, units_numbers}
use Rattle.rpc_messages.specs.Unit.{units_of}
use Rattle.method_steps.specs.Steps.{MethodTable}
use Rattle.peer_session.specs.Framings.{bytes_in}
use Rattle.peer_session.specs.SessionState.{counted}
use Rattle.peer_session.specs.declared.limits.Limits.{Limits}
use Rattle.peer_session.specs.declared.report.Report.{Report}
use Rattle.peer_output.specs.Cancelled.{Begins}
use Rattle.peer_output.specs.Items.{Item, answers_in, count_sendings, count_calls}
use Rattle.peer_output.specs.Output.{IsOutput, IsPartialOutput}
use Rattle.peer_events.specs.Polls.{PollsWithin}
use Rattle.stream_framing.specs.Framed.{Holds, read_text}
use Rattle.stream_framing.specs.declared.framing.Framing.{Framing}
use Rattle.stream_session.specs.Promise.{close_of}

-- ---- a run of a text

-- The whole of it, as `IsRun`, of the text that was read.
pub record IsRunOf (framing : Framing) (table : MethodTable) (limits : Limits) (text : List ℕ) (ending : Ending) (before after : Option (List ℕ)) (report : Report) :
    Type 0 where
  pub frames : List FrameOf
  pub standing : Standing
  pub contents : Holds framing limits.content text frames standing
  pub items : List Item
  pub allowed : IsOutput table (taken limits.numbers (units_of frames)) items
  pub written : Appends before after (bytes_in framing items)
  pub close : close_of (is_cut limits.numbers (units_of frames)) standing ending ≡ Some report.end
  pub numbers : report.numbers ≡ units_numbers (taken limits.numbers (units_of frames))
  pub messages : report.messages ≡ counted (count_sendings items)
  pub call_frames : report.call_frames ≡ counted (count_calls items)
  pub answers : report.answers ≡ counted (length (answers_in items))
  pub polls : PollsWithin table report.numbers report.call_frames report.polls

-- Where it stopped short, as `IsRunCutShort`.
pub record IsShortOf (framing : Framing) (table : MethodTable) (limits : Limits) (text : List ℕ) (before after : Option (List ℕ)) : Type 0 where
  pub frames : List FrameOf
  pub standing : Standing
  pub contents : Holds framing limits.content text frames standing
  pub items : List Item
  pub allowed : IsPartialOutput table (taken limits.numbers (units_of frames)) items
  pub bytes : List ℕ
  pub begins : Begins bytes (bytes_in framing items)
  pub written : Appends before after bytes

-- ---- a run of an input that came to an ending: where lines were closed, the last one needs no LF

abbrev pub IsRunIn : Framing → MethodTable → Limits → List ℕ → Ending → Option (List ℕ) → Option (List ℕ) → Report → Type 0
IsRunIn framing table limits input ending before after report = IsRunOf framing table limits (read_text framing ending input) ending before after report

abbrev pub IsShortIn : Framing → MethodTable → Limits → List ℕ → Ending → Option (List ℕ) → Option (List ℕ) → Type 0
IsShortIn framing table limits input ending before after = IsShortOf framing table limits (read_text framing ending input) before after

-- ---- of a server

-- The source gave an input, which came to an ending, and what was written is a whole run of it.
pub record IsServedIn (framing : Framing) (table : MethodTable) (limits : Limits) (gave : Gift) (before after : Option (List ℕ)) (report : Report) : Type 0 where
  pub input : List ℕ
  pub ending : Ending
  pub given : gave input ending
  pub run : IsRunIn framing table limits input ending before after report

-- The same of a run that was cut short.
pub record IsServedInPartIn (framing : Framing) (table : MethodTable) (limits : Limits) (gave : Gift) (before after : Option (List ℕ)) : Type 0 where
  pub input : List ℕ
  pub ending : Ending
  pub given : gave input ending
  pub part : IsShortIn framing table limits input ending before after
