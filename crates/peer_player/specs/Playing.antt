-- How a player stands between two of its steps.
use Rattle.std.specs.Prelude.{◌≡◌, ℕ, List, [], Option, None, Result, OnOk, OnErr}
use Rattle.peer_events.specs.Turning.{ready}
use Rattle.peer_session.specs.Events.{CountsDrain}
use Rattle.peer_session.specs.declared.drain_fault.DrainFault.{DrainFault}
use Rattle.peer_player.specs.declared.playing.Playing.{Playing}
use Rattle.stream_session.specs.Standing.{HasDrained}
use Rattle.stream_session.specs.Stream.{Fed, StopsShort, StreamState, StreamStands, stream_of}

-- It stands after what it was fed, and no job is out.
abbrev pub Plays : Fed → StreamState → Option (List ℕ) → Type 0
Plays fed s sink = StreamStands fed (λ n. None) s sink

-- The same where all that was due is written.
pub record HasWritten (fed : Fed) (s : StreamState) (sink : Option (List ℕ)) : Type 0 where
  pub plays : Plays fed s sink
  pub drained : HasDrained fed.table s.session (λ n. None)

-- The same where no handler is ready either.
pub record HasSettled (fed : Fed) (s : StreamState) (sink : Option (List ℕ)) : Type 0 where
  pub written : HasWritten fed s sink
  pub none_ready : ready s.session.core ≡ []

-- Of the input as much waits as before, and it is closed or goes on as before.
pub record KeepsInput (s after : StreamState) : Type 0 where
  pub waiting : after.waiting ≡ s.waiting
  pub last : after.last ≡ s.last
  pub close : after.session.close ≡ s.session.close

-- ---- what each call of a player leaves

module _ {S A : Type 0} where
  -- Whatever it was fed, it stands so behind it.
  abbrev pub PlaysOn : (S → Option (List ℕ)) → (Fed → StreamState → Option (List ℕ) → Type 0) → Playing S → Result A DrainFault → Playing S → Type 0
  PlaysOn taken To before result after = (fed : Fed) → Plays fed (stream_of before.stream) (taken before.sink) → OnOk result (To fed (stream_of after.stream) (taken after.sink))

  -- Where it fails, it has stopped short of what it was fed.
  abbrev pub MayStopShort : (S → Option (List ℕ)) → Playing S → Result A DrainFault → Playing S → Type 0
  MayStopShort taken before result after = (fed : Fed) → Plays fed (stream_of before.stream) (taken before.sink) → OnErr result (StopsShort fed (taken after.sink))

  -- The sink's count of failures rises by a `Write`, and by nothing else.
  abbrev pub CountsPlay : (S → ℕ) → Playing S → Result A DrainFault → Playing S → Type 0
  CountsPlay failures before result after = CountsDrain (stream_of before.stream).session (failures before.sink) result (failures after.sink)

  -- Where it doesn't fail, no write has failed that hadn't before.
  abbrev pub StaysAsBroken : Playing S → Result A DrainFault → Playing S → Type 0
  StaysAsBroken before result after = OnOk result ((stream_of after.stream).session.is_broken ≡ (stream_of before.stream).session.is_broken)
