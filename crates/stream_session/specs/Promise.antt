-- The whole promise of a peer, from the bytes that come in to the bytes that go out.
use Rattle.std.specs.Prelude.{◌≡◌, ℕ, ◌+◌, ◌-◌, ◌^◌, min, List, [], ◌∷◌, length, Bool, true, false, Option, Some, None}
use Rattle.std.specs.Io.KnownBytes.{Appends}
use Rattle.lsp_frames.specs.Contents.{Standing, Open, Broken, IsContents}
use Rattle.lsp_frames.specs.Devices.{Ending, Gift, Unfinished, Finished, Failed}
use Rattle.lsp_frames.specs.declared.frame.Frame.{Frame as FrameOf}
use Rattle.lsp_frames.specs.declared.frame.FrameFault.{FrameFault}
use Rattle.lsp_frames.specs.declared.frame.FrameFault.TheVariants.{BadHead, BadLength, TwoLengths, TooLarge, NoLength, HeadTooLong, Truncated, LongLength}
use Rattle.rpc_messages.specs.Numbering.{taken, is_cut, units_numbers}
use Rattle.rpc_messages.specs.Unit.{units_of}
use Rattle.method_steps.specs.Steps.{MethodTable}
use Rattle.peer_session.specs.SessionState.{counted}
use Rattle.peer_session.specs.declared.drain_fault.DrainFault.{DrainFault}
use Rattle.peer_session.specs.declared.drain_fault.DrainFault.TheVariants.{Memory, Write}
use Rattle.peer_session.specs.declared.limits.Limits.{Limits}
use Rattle.peer_session.specs.declared.report.Close.{Close}
use Rattle.peer_session.specs.declared.report.Close.TheVariants.{Clean, Frame, Read, Full}
use Rattle.peer_session.specs.declared.report.Report.{Report}
use Rattle.peer_output.specs.Cancelled.{Begins}
use Rattle.peer_output.specs.Items.{Item, answers_in, bytes_of, count_sendings, count_calls}
use Rattle.peer_output.specs.Output.{IsOutput, IsPartialOutput}
use Rattle.peer_events.specs.Polls.{PollsWithin}

-- ---- how an input closes

-- the end of bytes that stand inside a frame, or between two
abbrev pub end_close : List ℕ → Close
end_close [] = Clean
end_close (b ∷ bytes) = Frame Truncated

-- A fault of the frames as this peer tells it: a length of more than 10 digits is a bad one, as any value that isn't 1 to 10 digits.
abbrev pub told : FrameFault → FrameFault
told BadHead = BadHead
told BadLength = BadLength
told TwoLengths = TwoLengths
told TooLarge = TooLarge
told NoLength = NoLength
told HeadTooLong = HeadTooLong
told Truncated = Truncated
told LongLength = BadLength

-- An input whose units were cut for their numbers is full. Else a fault of its frames closed it, or a failed read, or its end; while more may come, nothing has.
abbrev pub close_of : Bool → Standing → Ending → Option Close
close_of true standing ending = Some Full
close_of false (Broken fault) ending = Some (Frame (told fault))
close_of false (Open rest) Failed = Some Read
close_of false (Open rest) Finished = Some (end_close rest)
close_of false (Open rest) Unfinished = None

-- ---- a run

-- The whole of it: the frames of the input have units, of which those are taken whose calls have numbers left; what was written is an
-- output of these, each item in a frame of its own; and the report has its counts and how the input, which came to this ending, closed. Polls were few.
pub record IsRun (table : MethodTable) (limits : Limits) (input : List ℕ) (ending : Ending) (before after : Option (List ℕ)) (report : Report) :
    Type 0 where
  pub frames : List FrameOf
  pub standing : Standing
  pub contents : IsContents limits.content input frames standing
  pub items : List Item
  pub allowed : IsOutput table (taken limits.numbers (units_of frames)) items
  pub written : Appends before after (bytes_of items)
  pub close : close_of (is_cut limits.numbers (units_of frames)) standing ending ≡ Some report.end
  pub numbers : report.numbers ≡ units_numbers (taken limits.numbers (units_of frames))
  pub messages : report.messages ≡ counted (count_sendings items)
  pub call_frames : report.call_frames ≡ counted (count_calls items)
  pub answers : report.answers ≡ counted (length (answers_in items))
  pub polls : PollsWithin table report.numbers report.call_frames report.polls

-- Where it stopped short: some bytes, from the front of a partial output's.
pub record IsRunCutShort (table : MethodTable) (limits : Limits) (input : List ℕ) (before after : Option (List ℕ)) : Type 0 where
  pub frames : List FrameOf
  pub standing : Standing
  pub contents : IsContents limits.content input frames standing
  pub items : List Item
  pub allowed : IsPartialOutput table (taken limits.numbers (units_of frames)) items
  pub bytes : List ℕ
  pub begins : Begins bytes (bytes_of items)
  pub written : Appends before after bytes

-- ---- of a player

-- a whole run, whose input comes to its end
abbrev pub IsPlay : MethodTable → Limits → List ℕ → Option (List ℕ) → Option (List ℕ) → Report → Type 0
IsPlay table limits input before after report = IsRun table limits input Finished before after report

-- A sink's count of failures rises by a `Write`, and by nothing else.
abbrev pub CountsFault : ℕ → DrainFault → ℕ → Type 0
CountsFault before Memory after = after ≡ before
CountsFault before Write after = after ≡ min (before + 1) (2 ^ 64 - 1)

-- ---- of a server

-- The source gave an input, which came to an ending, and what was written is a whole run of it.
pub record IsServed (table : MethodTable) (limits : Limits) (gave : Gift) (before after : Option (List ℕ)) (report : Report) : Type 0 where
  pub input : List ℕ
  pub ending : Ending
  pub given : gave input ending
  pub run : IsRun table limits input ending before after report

-- The same of a run that was cut short.
pub record IsServedInPart (table : MethodTable) (limits : Limits) (gave : Gift) (before after : Option (List ℕ)) : Type 0 where
  pub input : List ℕ
  pub ending : Ending
  pub given : gave input ending
  pub part : IsRunCutShort table limits input before after
