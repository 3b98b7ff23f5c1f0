-- What holds in frames is the promise of frames.
use Rattle.std.proofs.Common.{ℕ, List, Option}
use Rattle.lsp_frames.specs.Devices.{Ending, Gift}
use Rattle.method_steps.specs.Steps.{MethodTable}
use Rattle.peer_session.specs.declared.limits.Limits.{Limits}
use Rattle.peer_session.specs.declared.report.Report.{Report}
use Rattle.stream_framing.specs.declared.framing.Framing.TheVariants.{Frames}
use Rattle.stream_session.specs.Framings.{IsRunOf, IsShortOf, IsServedIn, IsServedInPartIn}
use Rattle.stream_session.specs.Promise.{IsRun, IsRunCutShort, IsServed, IsServedInPart}

module _ (table : MethodTable) (limits : Limits) where
  pub run-of-frames : (input : List ℕ) (ending : Ending) (before after : Option (List ℕ)) (report : Report)
      → IsRunOf Frames table limits input ending before after report → IsRun table limits input ending before after report
  run-of-frames input ending before after report run = record {
    frames = run.frames;
    standing = run.standing;
    contents = run.contents;
    items = run.items;
    allowed = run.allowed;
    written = run.written;
    close = run.close;
    numbers = run.numbers;
    messages = run.messages;
    call_frames = run.call_frames;
    answers = run.answers;
    polls = run.polls;
  }

  pub short-of-frames : (input : List ℕ) (before after : Option (List ℕ)) → IsShortOf Frames table limits input before after → IsRunCutShort table limits input before after
  short-of-frames input before after short = record {
    frames = short.frames;
    standing = short.standing;
    contents = short.contents;
    items = short.items;
    allowed = short.allowed;
    bytes = short.bytes;
    begins = short.begins;
    written = short.written;
  }

  pub served-in-frames : (gave : Gift) (before after : Option (List ℕ)) (report : Report) → IsServedIn Frames table limits gave before after report → IsServed table limits gave before after report
  served-in-frames gave before after report served = record {
    input = served.input;
    ending = served.ending;
    given = served.given;
    run = run-of-frames served.input served.ending before after report served.run;
  }

  pub part-in-frames : (gave : Gift) (before after : Option (List ℕ)) → IsServedInPartIn Frames table limits gave before after → IsServedInPart table limits gave before after
  part-in-frames gave before after served = record {
    input = served.input;
    ending = served.ending;
    given = served.given;
    part = short-of-frames served.input before after served.part;
  }
