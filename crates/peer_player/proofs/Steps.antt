-- What a drain and a turn make of a player's session.
use Rattle.std.proofs.Common.{◌≡◌, ℕ, ◌+◌, ◌-◌, ◌^◌, ◌<◌, ◌==◌, min, List, [], ◌++◌, Bool, true, false, cond, Option, Some, None, Result, Ok, Err, OnOk, refl, sym, ap, subst, ◌∙◌, arith, append-nil, append_assoc}
use Rattle.lsp_frames.specs.Devices.{Finished, Unfinished}
use Rattle.method_steps.specs.Steps.{MethodTable}
use Rattle.peer_session.specs.declared.limits.Limits.{Limits}
use Rattle.handler_future.specs.State.{HandlerState, IsPoll}
use Rattle.handler_future.specs.declared.outcome.Outcome.{Outcome}
use Rattle.peer_output.specs.Events.{with_at}
use Rattle.peer_events.specs.Core.{Core}
use Rattle.peer_events.specs.Turning.{Leaves, drained, returned}
use Rattle.peer_events.specs.Turns.{all_turns_left}
use Rattle.peer_session.specs.Events.{DrainsIn, FailsToWriteIn, LeavesAt, StopsIn, picked, with_job_back}
use Rattle.stream_framing.specs.declared.framing.Framing.{Framing}
use Rattle.stream_framing.specs.declared.framing.Framing.TheVariants.{Frames, Lines}
use Rattle.stream_framing.proofs.Laws.{text_of}
use Rattle.peer_session.specs.SessionState.{SessionState}
use Rattle.peer_session.specs.declared.drain_fault.DrainFault.{DrainFault}
use Rattle.peer_session.specs.declared.drain_fault.DrainFault.TheVariants.{Memory, Write}
use Rattle.stream_session.specs.Framings.{IsShortIn, IsShortOf}
use Rattle.stream_session.specs.Standing.{HasDrained}
use Rattle.stream_session.specs.Stream.{Fed, MayFollow, StopsShort, StreamState, with_piece}
use Rattle.peer_player.specs.Playing.{Plays, HasWritten, KeepsInput}
use Rattle.peer_player.specs.Player.{StoppedAfter, fed_so_far}

-- ---- a drain

pub drain-same : {T : Type 0} (framing : Framing) (s after : SessionState) (at sink : Option (List ℕ)) (r : Result T DrainFault) → DrainsIn framing s at r after sink
    → OnOk r (after.is_broken ≡ s.is_broken)
drain-same framing s after at sink (Ok done) drains = ap (λ (x : SessionState). x.is_broken) drains.after_is
drain-same framing s after at sink (Err fault) drains = tt

fails-close : (framing : Framing) (s after : SessionState) (at sink : Option (List ℕ)) (broken : Bool) → FailsToWriteIn framing broken s after at sink → after.close ≡ s.close
fails-close framing s after at sink true writes = ap (λ (x : SessionState). x.close) writes.after_is
fails-close framing s after at sink false writes = ap (λ (x : SessionState). x.close) writes.after_is

stops-close : (framing : Framing) (s after : SessionState) (at sink : Option (List ℕ)) → StopsIn framing s after at sink → after.close ≡ s.close
stops-close Frames s after at sink stops = ap (λ (x : SessionState). x.close) stops.after_is
stops-close Lines s after at sink stops = ap (λ (x : SessionState). x.close) stops.1

pub drain-close : (framing : Framing) (s after : SessionState) (at sink : Option (List ℕ)) (r : Result (Unit {0}) DrainFault) → DrainsIn framing s at r after sink → after.close ≡ s.close
drain-close framing s after at sink (Ok done) drains = ap (λ (x : SessionState). x.close) drains.after_is
drain-close framing s after at sink (Err Memory) drains = stops-close framing s after at sink drains.1
drain-close framing s after at sink (Err Write) drains = fails-close framing s after at sink s.is_broken drains

pub drain-turns : (same_turns : (s : Core) → all_turns_left (drained s).stages ≡ all_turns_left s.stages) (framing : Framing) (s after : SessionState) (at sink : Option (List ℕ))
    (r : Result (Unit {0}) DrainFault) → DrainsIn framing s at r after sink → OnOk r (all_turns_left after.core.stages ≡ all_turns_left s.core.stages)
drain-turns same_turns framing s after at sink (Ok done) drains = ap (λ (x : SessionState). all_turns_left x.core.stages) drains.after_is ∙ same_turns s.core
drain-turns same_turns framing s after at sink (Err fault) drains = tt

pub written : (fed : Fed) (s : StreamState) (sink : Option (List ℕ)) (r : Result (Unit {0}) DrainFault)
    → OnOk r (Plays fed s sink × HasDrained fed.table s.session (λ n. None)) → OnOk r (HasWritten fed s sink)
written fed s sink (Ok done) both = record { plays = both.0; drained = both.1 }
written fed s sink (Err fault) both = tt

pub keeps-then : (s between after : StreamState) → KeepsInput s between → KeepsInput between after → KeepsInput s after
keeps-then s between after first then = record {
  waiting = then.waiting ∙ first.waiting;
  last = then.last ∙ first.last;
  close = then.close ∙ first.close;
}

-- ---- a turn

-- a job that was turned once since it went out
pub one-turn : (before after : ℕ) → before ≡ 0 → after ≡ min (before + 1) (2 ^ 64 - 1) → after ≡ 1
one-turn before after none is = omega arith

-- A job that is home isn't out, and no other is.
home-by : (h : HandlerState) (b : Bool) → cond b None (cond b (Some h) None) ≡ None
home-by h true = refl
home-by h false = refl

pub home : (n : ℕ) (h : HandlerState) (k : ℕ) → with_at n None (with_at n (Some h) (λ m. None)) k ≡ None
home n h k = home-by h (n == k)

eq-same : (n : ℕ) → (n == n) ≡ true
eq-same n = grind arith

pub out-now : (n : ℕ) (h : HandlerState) → with_at n (Some h) (λ m. None) n ≡ Some h
out-now n h = ap (λ b. cond b (Some h) None) (eq-same n)

pub leaves-same : (s after : SessionState) (pick : ℕ) (job : HandlerState) → LeavesAt s pick (Some job) after → after.is_broken ≡ s.is_broken
leaves-same s after pick job leaves = ap (λ (x : SessionState). x.is_broken) leaves.1.2

pub leaves-close : (s after : SessionState) (pick : ℕ) (job : HandlerState) → LeavesAt s pick (Some job) after → after.close ≡ s.close
leaves-close s after pick job leaves = ap (λ (x : SessionState). x.close) leaves.1.2

-- the law of turns
abbrev pub FewerTurns : Type 0
FewerTurns = (s between : Core) (n : ℕ) (job turned : HandlerState) (outcome : Option Outcome) →
    Leaves s n job between → job.number ≡ n → IsPoll job turned outcome →
    all_turns_left (returned between turned outcome).stages < all_turns_left s.stages

pub turn-fewer : (fewer : FewerTurns) (s between : SessionState) (pick : ℕ) (job turned : HandlerState) (outcome : Option Outcome) (polls : ℕ)
    → LeavesAt s pick (Some job) between → IsPoll job turned outcome → job.number ≡ picked s.core pick
    → all_turns_left (with_job_back between turned outcome polls).core.stages < all_turns_left s.core.stages
turn-fewer fewer s between pick job turned outcome polls leaves poll number =
    subst (λ x. all_turns_left (with_job_back x turned outcome polls).core.stages < all_turns_left s.core.stages) (sym leaves.1.2)
    (fewer s.core leaves.1.0 (picked s.core pick) job turned outcome leaves.1.1 number poll)

-- ---- the end of the input

follows : (fed : Fed) → fed.ending ≡ Finished → MayFollow fed.ending []
follows fed ends = subst (λ ending. MayFollow ending []) (sym ends) refl

pub cut-at-end : (fed : Fed) (sink : Option (List ℕ)) → fed.ending ≡ Finished → StopsShort fed sink → IsShortOf fed.framing fed.table fed.limits fed.bytes fed.before sink
cut-at-end fed sink ends stops = subst (λ bytes. IsShortOf fed.framing fed.table fed.limits bytes fed.before sink) (append-nil fed.bytes) (stops [] (follows fed ends))

-- before it has come to its end
pub cut-before-end : (fed : Fed) (sink : Option (List ℕ)) → fed.ending ≡ Unfinished → StopsShort fed sink → IsShortIn fed.framing fed.table fed.limits fed.bytes Finished fed.before sink
cut-before-end fed sink goes_on stops =
    let text = text_of fed.framing Finished fed.bytes in
    subst (λ all. IsShortOf fed.framing fed.table fed.limits all fed.before sink) (sym text.1)
    (stops text.0 (subst (λ ending. MayFollow ending text.0) (sym goes_on) tt))

-- ---- it stops short

pub stopped-yet : (framing : Framing) (table : MethodTable) (limits : Limits) (bytes : List ℕ) (before sink : Option (List ℕ)) → StopsShort (fed_so_far framing table limits bytes before) sink
    → StoppedAfter framing table limits bytes before sink
stopped-yet framing table limits bytes before sink stops = λ more. stops more tt

pub stopped-later : (framing : Framing) (table : MethodTable) (limits : Limits) (bytes piece : List ℕ) (before sink : Option (List ℕ))
    → StoppedAfter framing table limits bytes before sink → StoppedAfter framing table limits (bytes ++ piece) before sink
stopped-later framing table limits bytes piece before sink stops = λ more.
    subst (λ all. IsShortOf framing table limits all before sink) (sym (append_assoc bytes piece more)) (stops (piece ++ more))

pub stopped-here : (framing : Framing) (table : MethodTable) (limits : Limits) (bytes : List ℕ) (before sink : Option (List ℕ))
    → StoppedAfter framing table limits bytes before sink → IsShortIn framing table limits bytes Finished before sink
stopped-here framing table limits bytes before sink stops =
    let text = text_of framing Finished bytes in
    subst (λ all. IsShortOf framing table limits all before sink) (sym text.1) (stops text.0)

-- with a piece that was not taken
pub short-piece : (fed : Fed) (piece : List ℕ) (sink : Option (List ℕ)) → fed.ending ≡ Unfinished → StopsShort fed sink → StopsShort (with_piece fed piece) sink
short-piece fed piece sink goes_on stops = λ more follows.
    subst (λ all. IsShortOf fed.framing fed.table fed.limits all fed.before sink) (sym (append_assoc fed.bytes piece more))
    (stops (piece ++ more) (subst (λ ending. MayFollow ending (piece ++ more)) (sym goes_on) tt))
