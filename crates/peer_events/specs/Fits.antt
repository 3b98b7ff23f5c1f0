-- How what a session keeps fits its past.
use Rattle.std.specs.Prelude.{◌≡◌, ℕ, ◌+◌, ◌<◌, ◌≤◌, ◌⊎◌, List, [], length, take, Bool, true, false, Option, Some, None}
use Rattle.rpc_messages.specs.Entry.{SeenEntry}
use Rattle.rpc_messages.specs.Numbering.{units_numbers, numbers_in}
use Rattle.rpc_messages.specs.Replies.{reply_to}
use Rattle.method_templates.specs.Steps.{calls_of}
use Rattle.method_steps.specs.Steps.{MethodTable}
use Rattle.answer_desk.specs.State.{number_at}
use Rattle.open_numbers.specs.OpenCalls.{is_marked_number}
use Rattle.open_numbers.specs.Replies.{slot_at}
use Rattle.open_numbers.specs.declared.open_call.OpenCall.{OpenCall}
use Rattle.open_numbers.specs.declared.replies.Slot.{Slot}
use Rattle.open_numbers.specs.declared.replies.Slot.TheVariants.{Empty, Held, Given}
use Rattle.handler_future.specs.Evaluation.{Program}
use Rattle.handler_future.specs.Front.{is_heard}
use Rattle.handler_future.specs.State.{HandlerState, new_state, IsWaiting}
use Rattle.peer_events.specs.declared.stage.Stage.{Stage}
use Rattle.peer_events.specs.declared.stage.Stage.TheVariants.{Gone, Faulty, Idle, Out, Over, Failed}
use Rattle.peer_output.specs.Work.{nothing, fault, run, work}
use Rattle.peer_output.specs.Course.{Sending, Course}
use Rattle.peer_output.specs.Cancelled.{Begins, request_id, is_cancelled}
use Rattle.peer_output.specs.Items.{sent_by}
use Rattle.peer_output.specs.Later.{IsHeardFrom}
use Rattle.peer_output.specs.Left.{units_left}
use Rattle.peer_output.specs.Past.{Past, past_units, past_entries, IsPast}
use Rattle.peer_events.specs.Core.{Core, stage_at, made_by, all_of}

-- A slot of a turn is empty where no reply has come, holds the one that has and that the handler hasn't heard, and was given where the
-- handler has heard it.
abbrev pub SlotFits : List SeenEntry → ℕ → HandlerState → ℕ → Slot → Type 0
SlotFits passed n h turn Empty = (reply_to n turn passed ≡ None) × (is_heard h.heard turn ≡ false)
SlotFits passed n h turn (Held reply) = (reply_to n turn passed ≡ Some reply) × (is_heard h.heard turn ≡ false)
SlotFits passed n h turn Given = is_heard h.heard turn ≡ true

-- What the desk keeps of an open number whose run is this: its id, its mark where a cancel has reached it, and its replies.
pub record OpenFits (entries passed : List SeenEntry) (n : ℕ) (h : HandlerState) (number : OpenCall) : Type 0 where
  pub id : number.id ≡ request_id entries n
  pub mark : is_marked_number (Some number) ≡ is_cancelled passed n
  pub turns : length number.replies ≡ calls_of h.program.steps
  pub slots : (turn : ℕ) (slot : Slot) → slot_at number.replies turn ≡ Some slot → SlotFits passed n h turn slot

-- a handler that was never polled, or waits
abbrev pub IsAtRest : HandlerState → Type 0
IsAtRest h = ((program : Program) × (h ≡ new_state h.number program)) ⊎ IsWaiting h

-- The run of a number that isn't finished: the handler is that of its work, it has heard replies of the stream, and it has sent its
-- messages.
pub record RunFits (table : MethodTable) (is_over : Bool) (entries passed : List SeenEntry) (n : ℕ) (h : HandlerState) (desk : Option OpenCall)
    (sends : List Sending) (took : Option Course) : Type 0 where
  pub number : h.number ≡ n
  pub works : work table entries n ≡ run h.program
  pub heard : IsHeardFrom is_over passed n h.heard
  pub sends_are : sends ≡ made_by h
  pub unfinished : took ≡ None
  pub kept : OpenCall
  pub is_open : desk ≡ Some kept
  pub fits : OpenFits entries passed n h kept

-- a number that is over, or that has nothing to do
abbrev pub IsGone : MethodTable → List SeenEntry → ℕ → Option Course → Type 0
IsGone table entries n took = ((c : Course) × (took ≡ Some c)) ⊎ ((work table entries n ≡ nothing) × (took ≡ None))

-- the course of a number whose handler is over
pub record OverFits (h : HandlerState) (sends : List Sending) (took : Option Course) : Type 0 where
  pub course : Course
  pub took_is : took ≡ Some course
  pub sends_are : sends ≡ all_of h

-- A number: its stage, what the desk keeps of it, the job that is out, and its past, which is what it has sent, what of this was
-- written, and its course.
abbrev pub NumberFits : MethodTable → Bool → List SeenEntry → List SeenEntry → ℕ → Stage → Option OpenCall → Option HandlerState →
    List Sending → List Sending → Option Course → Type 0
NumberFits table is_over entries passed n Gone desk job sends written took =
    (desk ≡ None) × (job ≡ None) × (written ≡ sends) × IsGone table entries n took
NumberFits table is_over entries passed n (Faulty error) desk job sends written took =
    ((kept : OpenCall) × (desk ≡ Some kept) × (is_marked_number desk ≡ false)) × (job ≡ None) × (sends ≡ []) × (took ≡ None)
    × (work table entries n ≡ fault error) × (numbers_in passed < n)
NumberFits table is_over entries passed n (Idle h so_far) desk job sends written took =
    RunFits table is_over entries passed n h desk sends took × IsAtRest h × (is_marked_number desk ≡ false) × (job ≡ None) × (written ≡ take so_far sends) × (so_far ≤ length sends)
NumberFits table is_over entries passed n (Out so_far) desk job sends written took =
    (h : HandlerState) × (job ≡ Some h) × (h.waits ≡ []) × RunFits table is_over entries passed n h desk sends took
    × (written ≡ take so_far sends) × (so_far ≤ length sends)
NumberFits table is_over entries passed n (Over h so_far) desk job sends written took =
    (desk ≡ None) × (job ≡ None) × OverFits h sends took × (written ≡ take so_far sends) × (so_far ≤ length sends)
NumberFits table is_over entries passed n Failed desk job sends written took = (job ≡ None) × (took ≡ None)

-- A session whose entries were passed up to a place.
pub record Fits (table : MethodTable) (is_over : Bool) (passed : List SeenEntry) (s : Core) (past : Past) (jobs : ℕ → Option HandlerState) :
    Type 0 where
  pub past_is : IsPast table is_over past
  pub closed : s.desk.is_closed ≡ is_over
  pub units : s.desk.units ≡ units_left past.took (1 + units_numbers past.released) past.left
  pub numbers : length s.desk.numbers ≡ 1 + units_numbers (past_units past)
  pub stages : length s.stages ≡ 1 + units_numbers (past_units past)
  pub passed_begin : Begins passed (past_entries past)
  pub each : (n : ℕ) → n ≤ units_numbers (past_units past) →
      NumberFits table is_over (past_entries past) passed n (stage_at s n) (number_at s.desk n) (jobs n)
      (past.sends n) (sent_by n past.items) (past.took n)
  pub no_more_jobs : (n : ℕ) → units_numbers (past_units past) < n → jobs n ≡ None

-- A session between two events: all entries were passed.
abbrev pub AtRest : MethodTable → Bool → Core → Past → (ℕ → Option HandlerState) → Type 0
AtRest table is_over s past jobs = Fits table is_over (past_entries past) s past jobs
