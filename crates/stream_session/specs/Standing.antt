-- What a session has taken and written, whoever feeds it and turns its jobs.
use Rattle.std.specs.Prelude.{◌≡◌, ◌≢◌, ℕ, List, length, false, Option, Some, None, is_some, if◌then◌else◌}
use Rattle.rpc_messages.specs.Numbering.{is_cut, units_numbers}
use Rattle.rpc_messages.specs.Unit.{SeenUnit}
use Rattle.method_steps.specs.Steps.{MethodTable}
use Rattle.handler_future.specs.State.{HandlerState}
use Rattle.peer_events.specs.declared.stage.Stage.TheVariants.{Failed}
use Rattle.peer_session.specs.SessionState.{SessionState, counted}
use Rattle.peer_session.specs.declared.limits.Limits.{Limits}
use Rattle.peer_session.specs.declared.report.Close.{Close}
use Rattle.peer_session.specs.declared.report.Close.TheVariants.{Full}
use Rattle.peer_session.specs.declared.report.Report.{Report}
use Rattle.peer_output.specs.Output.{IsOutput}
use Rattle.peer_output.specs.Items.{Item, answers_in, count_sendings, count_calls}
use Rattle.peer_events.specs.Core.{Core, stage_at}
use Rattle.peer_events.specs.Polls.{PollsFit, PollsWithin}
use Rattle.peer_events.specs.Stands.{StandsAfter}
use Rattle.peer_events.specs.Turning.{drained}

-- The session stands after these units with these jobs out, these items are written and counted, and so are the polls; neither a sink nor
-- a handler has failed unseen.
pub record SessionStands (table : MethodTable) (limits : Limits) (units : List SeenUnit) (items : List Item) (s : SessionState)
    (jobs : ℕ → Option HandlerState) : Type 0 where
  pub table_is : s.table ≡ table
  pub limits_are : s.limits ≡ limits
  pub stands : StandsAfter table (is_some s.close) s.core jobs units items
  pub messages : s.messages ≡ counted (count_sendings items)
  pub call_frames : s.call_frames ≡ counted (count_calls items)
  pub answers : s.answers ≡ counted (length (answers_in items))
  pub unbroken : s.is_broken ≡ false
  pub failed : s.has_failed ≡ false → (n : ℕ) → stage_at s.core n ≢ Failed
  pub polls : ℕ
  pub polls_are : s.polls ≡ counted polls
  pub polls_fit : s.has_failed ≡ false → PollsFit table s.core jobs items polls

-- how the input is closed by its units, while it goes on
abbrev pub close_by : ℕ → List SeenUnit → Option Close
close_by room units = if is_cut room units then Some Full else None

-- All that was due is written: a drain has left this of a session that stood with these jobs out, of which no handler had failed.
pub record HasDrained (table : MethodTable) (s : SessionState) (jobs : ℕ → Option HandlerState) : Type 0 where
  pub core : Core
  pub units : List SeenUnit
  pub items : List Item
  pub out : ℕ → Option HandlerState
  pub out_are : (n : ℕ) → out n ≡ jobs n
  pub stands : StandsAfter table (is_some s.close) core out units items
  pub core_is : s.core ≡ drained core
  pub well : s.has_failed ≡ false
  pub none_failed : (n : ℕ) → stage_at core n ≢ Failed

-- What was written is an output of these units, and the report counts it.
pub record IsWhole (table : MethodTable) (units : List SeenUnit) (items : List Item) (report : Report) : Type 0 where
  pub allowed : IsOutput table units items
  pub numbers : report.numbers ≡ units_numbers units
  pub messages : report.messages ≡ counted (count_sendings items)
  pub call_frames : report.call_frames ≡ counted (count_calls items)
  pub answers : report.answers ≡ counted (length (answers_in items))
  pub polls : PollsWithin table report.numbers report.call_frames report.polls
