-- How numbers are finished: by their fault, with an answer, or by a cancel (LSP 3.17, "Cancellation Support").
use Rattle.std.specs.Prelude.{◌≡◌, ℕ, ◌+◌, List, length, nat_lt, slice_set, Option, Some, None, if◌then◌else◌}
use Rattle.message_ids.specs.declared.id.Id.{Id}
use Rattle.rpc_messages.specs.declared.reply.Reply.{Reply}
use Rattle.rpc_messages.specs.declared.reply.Reply.TheVariants.{Standard as Fixed}
use Rattle.message_ids.specs.declared.standard.Standard.TheVariants.{Cancelled}
use Rattle.answer_desk.specs.State.{with_end, with_reached, IsLowestInReach, NoneInReachBelow}
use Rattle.handler_future.specs.State.{HandlerState}
use Rattle.peer_events.specs.declared.stage.Stage.{Stage}
use Rattle.peer_events.specs.declared.stage.Stage.TheVariants.{Gone, Faulty, Idle, Out, Over, Failed}
use Rattle.peer_output.specs.Course.{Course}
use Rattle.peer_events.specs.Core.{Core, stage_at, with_desk, all_of}
use Rattle.peer_events.specs.Hearing.{Hearing, hear_waits}

-- the stage of a finished number: it is gone once all is written
abbrev pub over_or_gone : HandlerState → ℕ → Stage
over_or_gone h written = if nat_lt written (length h.messages + length h.waits) then Over h written else Gone

-- a number is finished with an answer; its handler is this
abbrev pub finished : Core → HandlerState → ℕ → Reply → Core
finished s h written answer = record {
  desk = with_end s.desk h.number answer;
  stages = slice_set s.stages h.number (over_or_gone h written);
}

-- Its request is cancelled: it hears what is there of the replies that it waits for, it withdraws the other calls, and the answer is
-- `Request cancelled`.
abbrev pub cancelled_after : List Stage → ℕ → Hearing → Core
cancelled_after stages written hearing =
    finished (record { desk = hearing.desk; stages = stages }) hearing.handler written (Fixed Cancelled)

-- the course that it takes so
abbrev pub cancelled_course : Core → HandlerState → Course
cancelled_course s h = record { sends = all_of (hear_waits s.desk h).handler; answer = Fixed Cancelled }

abbrev pub cancelled : Core → HandlerState → ℕ → Core
cancelled s h written = cancelled_after s.stages written (hear_waits s.desk h)

-- A number that is told of its cancel is finished where its handler is here. One that is out is finished as it comes back.
abbrev pub told_at : Core → Stage → Core
told_at s (Idle h written) = cancelled s h written
told_at s Gone = s
told_at s (Faulty error) = s
told_at s (Out written) = s
told_at s (Over h written) = s
told_at s Failed = s

abbrev pub told : Core → ℕ → Core
told s k = told_at (with_desk s (with_reached s.desk (Some k))) (stage_at s k)

-- A cancel of this id, which is call n of the stream, reaches the requests before it, the lowest first; each is marked and told.
pub data Reaches : Id → ℕ → Core → Core → Type 0 where
  none_left : {id : Id} {n : ℕ} {s : Core} → NoneInReachBelow s.desk id n → Reaches id n s s
  lowest : {id : Id} {n : ℕ} {s after : Core} {k : ℕ} → IsLowestInReach s.desk id n (Some k) → Reaches id n (told s k) after → Reaches id n s after

-- a call that is at fault is finished as its entry is passed
abbrev pub fault_at : Core → ℕ → Stage → Core
fault_at s n (Faulty error) = record { desk = with_end s.desk n (Fixed error); stages = slice_set s.stages n Gone }
fault_at s n Gone = s
fault_at s n (Idle h written) = s
fault_at s n (Out written) = s
fault_at s n (Over h written) = s
fault_at s n Failed = s

abbrev pub fault_passed : Core → ℕ → Core
fault_passed s n = fault_at s n (stage_at s n)

-- what call n makes of the session, where it is a cancel of some id
abbrev pub Cancels : Core → ℕ → Option Id → Core → Type 0
Cancels s n None after = after ≡ s
Cancels s n (Some id) after = Reaches id n s after
