-- A clerk before its run, and what the run does to its sink's count of failures.
use Rattle.std.specs.Prelude.{◌≡◌, ℕ, ◌+◌, ◌-◌, ◌^◌, min, List, [], replicate, Option, None, Result, Ok, Err}
use Rattle.rtrb.specs.Ring.{received}
use Rattle.job_slots.specs.Seats.{looks_of, slot_count}
use Rattle.job_slots.specs.declared.view.Look.TheVariants.{Free}
use Rattle.peer_session.specs.declared.report.Report.{Report}
use Rattle.peer_session.specs.declared.drain_fault.DrainFault.{DrainFault}
use Rattle.peer_session.specs.declared.drain_fault.DrainFault.TheVariants.{Memory, Write}
use Rattle.method_steps.specs.Steps.{MethodTable}
use Rattle.peer_session.specs.declared.limits.Limits.{Limits}
use Rattle.stream_framing.specs.Framed.{framing_of}
use Rattle.stream_framing.specs.declared.framing.Framing.{Framing}
use Rattle.stream_session.specs.Stream.{StreamStands, fed_nothing, stream_of}
use Rattle.rpc_peer.specs.declared.clerk.Clerk.{Clerk}

-- It rises by a `Write`, and by nothing else.
abbrev pub CountsRun : ℕ → Result Report DrainFault → ℕ → Type 0
CountsRun before (Ok report) after = after ≡ before
CountsRun before (Err Memory) after = after ≡ before
CountsRun before (Err Write) after = after ≡ min (before + 1) (2 ^ 64 - 1)

-- the framing, the table and the limits by which it serves: those of its session
module _ {G K : Type 0} (clerk : Clerk G K) where
  abbrev pub clerk_framing : Framing
  clerk_framing = framing_of (stream_of clerk.stream).cutter

  abbrev pub clerk_table : MethodTable
  clerk_table = (stream_of clerk.stream).session.table

  abbrev pub clerk_limits : Limits
  clerk_limits = (stream_of clerk.stream).session.limits

-- Nothing has come through its ring, all slots are free, and its session was fed nothing.
pub record IsNew {G K : Type 0} (clerk : Clerk G K) : Type 0 where
  pub session : (before : Option (List ℕ)) → StreamStands (fed_nothing (clerk_framing clerk) (clerk_table clerk) (clerk_limits clerk) before) (λ n. None) (stream_of clerk.stream) before
  pub empty : received clerk.ring ≡ []
  pub free : looks_of clerk.seat ≡ replicate (slot_count clerk.slots.now) Free
