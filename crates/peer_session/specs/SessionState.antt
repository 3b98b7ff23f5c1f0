-- What a session is, as its calls tell it.
use Rattle.std.specs.Prelude.{◌≡◌, ◌≢◌, ℕ, ◌-◌, ◌^◌, min, [], length, Bool, false, Option, Some, None}
use Rattle.peer_session.specs.declared.limits.Limits.{Limits}
use Rattle.peer_session.specs.declared.report.Close.{Close}
use Rattle.peer_session.specs.declared.report.Close.TheVariants.{Clean}
use Rattle.peer_session.specs.declared.report.Report.{Report}
use Rattle.method_steps.specs.Steps.{MethodTable}
use Rattle.peer_events.specs.declared.stage.Stage.TheVariants.{Gone}
use Rattle.peer_events.specs.Core.{Core, stage_at}
use Rattle.peer_events.specs.Turning.{start}

-- The table and the limits; what is kept of units and numbers; how the input was ended, once it was; how many messages and withdrawals were
-- written, how many of them await a reply, how many answers were written, and how many polls were made; whether a sink has failed, and
-- whether a handler has found no memory.
pub record SessionState : Type 0 where
  pub table : MethodTable
  pub limits : Limits
  pub core : Core
  pub close : Option Close
  pub messages : ℕ
  pub call_frames : ℕ
  pub answers : ℕ
  pub polls : ℕ
  pub is_broken : Bool
  pub has_failed : Bool

-- before the first content
abbrev pub new_session : MethodTable → Limits → SessionState
new_session table limits = record {
  table = table;
  limits = limits;
  core = start table;
  close = None;
  messages = 0;
  call_frames = 0;
  answers = 0;
  polls = 0;
  is_broken = false;
  has_failed = false;
}

abbrev pub with_core : SessionState → Core → SessionState
with_core s core = record s { core = core }

-- how many calls were taken: each has a number, and the number 0 is the opening's
abbrev pub count_numbers : SessionState → ℕ
count_numbers s = length s.core.stages - 1

-- how many more may be taken
abbrev pub numbers_left : SessionState → ℕ
numbers_left s = s.limits.numbers - count_numbers s

-- a count stays at the greatest value of its type
abbrev pub counted : ℕ → ℕ
counted n = min n (2 ^ 64 - 1)

abbrev pub close_or_clean : Option Close → Close
close_or_clean None = Clean
close_or_clean (Some close) = close

abbrev pub report_of : SessionState → Report
report_of s = record {
  end = close_or_clean s.close;
  numbers = count_numbers s;
  messages = s.messages;
  call_frames = s.call_frames;
  answers = s.answers;
  polls = s.polls;
}

-- The input is over, nothing is left to do or to write, and neither a sink nor a handler has failed.
pub record IsDone (s : SessionState) : Type 0 where
  pub over : s.close ≢ None
  pub not_broken : s.is_broken ≡ false
  pub not_failed : s.has_failed ≡ false
  pub gone : (n : ℕ) → stage_at s.core n ≡ Gone
  pub answered : s.core.desk.units ≡ []
