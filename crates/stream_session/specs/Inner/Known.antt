-- The laws that a session stands on: each is a clause of a function that does nothing.
use Rattle.std.specs.Prelude.{◌≡◌, ◌≢◌, ℕ, ◌+◌, ◌-◌, List, [], ◌∷◌, ◌++◌, map, length, Bool, true, false, Option, Some, None}
use Rattle.rpc_messages.specs.Dues.{Due}
use Rattle.rpc_messages.specs.Unit.{SeenUnit}
use Rattle.method_steps.specs.Steps.{MethodTable}
use Rattle.answer_desk.specs.State.{front_texts}
use Rattle.handler_future.specs.State.{HandlerState, IsPoll}
use Rattle.handler_future.specs.declared.outcome.Outcome.{Outcome}
use Rattle.handler_future.specs.declared.outcome.Outcome.TheVariants.{Failed as NoMemory}
use Rattle.peer_events.specs.declared.stage.Stage.TheVariants.{Gone, Failed}
use Rattle.peer_output.specs.Events.{with_at}
use Rattle.peer_output.specs.Items.{Item, answered, bytes_of, count_calls}
use Rattle.peer_output.specs.Later.{MayBecome}
use Rattle.peer_output.specs.Output.{IsOutput, IsPartialOutput}
use Rattle.peer_events.specs.Core.{Core, stage_at, unwritten_from}
use Rattle.peer_events.specs.Polls.{PollsFit, PollsWithin}
use Rattle.peer_events.specs.Stands.{StandsAfter}
use Rattle.peer_events.specs.Taking.{Takes}
use Rattle.peer_events.specs.Turning.{start, Leaves, ready, returned, closed, due_bytes, drained}

pub record Known : Type 0 where
  pub start_stands : (table : MethodTable) → StandsAfter table false (start table) (λ n. None) [] []
  pub take_stands : (table : MethodTable) (s after : Core) (jobs : ℕ → Option HandlerState) (units : List SeenUnit) (items : List Item) (unit : SeenUnit) →
      StandsAfter table false s jobs units items → Takes table s unit after →
      StandsAfter table false after jobs (units ++ unit ∷ []) items
  pub leave_stands : (table : MethodTable) (is_over : Bool) (s after : Core) (jobs : ℕ → Option HandlerState) (units : List SeenUnit) (items : List Item)
      (n : ℕ) (job : HandlerState) →
      StandsAfter table is_over s jobs units items → Leaves s n job after →
      StandsAfter table is_over after (with_at n (Some job) jobs) units items
  pub back_stands : (table : MethodTable) (is_over : Bool) (s : Core) (jobs : ℕ → Option HandlerState) (units : List SeenUnit) (items : List Item)
      (n : ℕ) (job turned : HandlerState) (outcome : Option Outcome) →
      StandsAfter table is_over s jobs units items → jobs n ≡ Some job → IsPoll job turned outcome →
      StandsAfter table is_over (returned s turned outcome) (with_at n None jobs) units items
  pub end_stands : (table : MethodTable) (s : Core) (jobs : ℕ → Option HandlerState) (units : List SeenUnit) (items : List Item) →
      StandsAfter table false s jobs units items → StandsAfter table true (closed s) jobs units items
  pub drain_stands : (table : MethodTable) (is_over : Bool) (s : Core) (jobs : ℕ → Option HandlerState) (units : List SeenUnit) (items : List Item) →
      StandsAfter table is_over s jobs units items →
      (dues : List Due) × StandsAfter table is_over (drained s) jobs units (items ++ unwritten_from 0 s.stages ++ map answered dues)
      × (map (λ (due : Due). due.text) dues ≡ front_texts s.desk)
      × (bytes_of (items ++ unwritten_from 0 s.stages ++ map answered dues) ≡ bytes_of items ++ due_bytes s)
  pub is_partial : (table : MethodTable) (is_over : Bool) (s : Core) (jobs : ℕ → Option HandlerState) (units later : List SeenUnit) (items : List Item) →
      StandsAfter table is_over s jobs units items → MayBecome is_over units later → IsPartialOutput table later items
  pub is_whole : (table : MethodTable) (s : Core) (jobs : ℕ → Option HandlerState) (units : List SeenUnit) (items : List Item) →
      StandsAfter table true s jobs units items → ((n : ℕ) → stage_at s n ≡ Gone) → s.desk.units ≡ [] → IsOutput table units items
  pub is_drained : (table : MethodTable) (s : Core) (jobs : ℕ → Option HandlerState) (units : List SeenUnit) (items : List Item) →
      StandsAfter table true s jobs units items → ready s ≡ [] → ((n : ℕ) → jobs n ≡ None) → ((n : ℕ) → stage_at s n ≢ Failed) →
      ((n : ℕ) → stage_at (drained s) n ≡ Gone) × ((drained s).desk.units ≡ [])
  pub start_polls : (table : MethodTable) → PollsFit table (start table) (λ n. None) [] 0
  pub take_polls : (table : MethodTable) (s after : Core) (jobs : ℕ → Option HandlerState) (units : List SeenUnit) (items : List Item) (unit : SeenUnit) (polls : ℕ) →
      StandsAfter table false s jobs units items → Takes table s unit after →
      PollsFit table s jobs items polls → PollsFit table after jobs items polls
  pub leave_polls : (table : MethodTable) (s after : Core) (jobs : ℕ → Option HandlerState) (items : List Item) (n : ℕ) (job : HandlerState) (polls : ℕ) →
      Leaves s n job after → PollsFit table s jobs items polls → PollsFit table after (with_at n (Some job) jobs) items polls
  pub back_polls : (table : MethodTable) (is_over : Bool) (s : Core) (jobs : ℕ → Option HandlerState) (units : List SeenUnit) (items : List Item) (n : ℕ)
      (job turned : HandlerState) (outcome : Option Outcome) (polls : ℕ) →
      StandsAfter table is_over s jobs units items → jobs n ≡ Some job → IsPoll job turned outcome → outcome ≢ Some NoMemory →
      PollsFit table s jobs items polls → PollsFit table (returned s turned outcome) (with_at n None jobs) items (polls + 1)
  pub end_polls : (table : MethodTable) (s : Core) (jobs : ℕ → Option HandlerState) (items : List Item) (polls : ℕ) →
      PollsFit table s jobs items polls → PollsFit table (closed s) jobs items polls
  pub drain_polls : (table : MethodTable) (s : Core) (jobs : ℕ → Option HandlerState) (items : List Item) (dues : List Due) (polls : ℕ) →
      PollsFit table s jobs items polls → PollsFit table (drained s) jobs (items ++ unwritten_from 0 s.stages ++ map answered dues) polls
  pub done_polls : (table : MethodTable) (s : Core) (jobs : ℕ → Option HandlerState) (items : List Item) (polls : ℕ) →
      PollsFit table s jobs items polls → ((n : ℕ) → stage_at s n ≡ Gone) →
      PollsWithin table (length s.stages - 1) (count_calls items) polls
