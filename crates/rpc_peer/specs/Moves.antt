-- What an event of a clerk tells of itself: what came home, what came in, and what went out.
use Rattle.std.specs.Prelude.{◌≡◌, ◌≢◌, ◌⊎◌, ℕ, ◌<◌, List, [], ◌∷◌, ◌++◌, length, count_by, position, slice_set, Bool, true, false, Some, None}
use Rattle.rtrb.specs.Ring.{received, known_items}
use Rattle.job_slots.specs.declared.limits.TheConstants.{MOST_SLOTS}
use Rattle.job_slots.specs.declared.view.Look.{Look}
use Rattle.job_slots.specs.declared.view.Look.TheVariants.{Free, In}
use Rattle.job_slots.specs.Looks.{HasJob, is_free}
use Rattle.job_slots.specs.Seats.{looks_of}
use Rattle.peer_events.specs.Turning.{ready}
use Rattle.peer_session.specs.Events.{LeavesAt}
use Rattle.stream_session.specs.Stream.{stream_of}
use Rattle.rpc_peer.specs.declared.arrival.Arrival.{Arrival}
use Rattle.rpc_peer.specs.declared.clerk.Clerk.{Clerk}
use Rattle.rpc_peer.specs.declared.gated.Gated.{Gated}

-- ---- slots

module _ {J : Type 0} where
  -- how many slots are free
  abbrev pub free_count : List (Look J) → ℕ
  free_count looks = count_by is_free looks

  -- The job of the slot came home, so that the slot is free; or nothing has changed.
  abbrev pub BringsHome : ℕ → List (Look J) → Bool → List (Look J) → Type 0
  BringsHome slot before true after = HasJob before slot × (after ≡ slice_set before slot Free)
  BringsHome slot before false after = after ≡ before

  -- Some job came home; or nothing has changed.
  abbrev pub BringsSomeHome : List (Look J) → Bool → List (Look J) → Type 0
  BringsSomeHome before true after = free_count before < free_count after
  BringsSomeHome before false after = after ≡ before

  -- Some job went out; or as many slots are free as before.
  abbrev pub HandsSomeOut : List (Look J) → Bool → List (Look J) → Type 0
  HandsSomeOut before true after = free_count after < free_count before
  HandsSomeOut before false after = free_count after ≡ free_count before

module _ {G K : Type 0} where
  -- ---- what comes in

  -- One more arrival is taken out of the ring.
  abbrev pub TakesOne : Clerk G K → Clerk G K → Type 0
  TakesOne before after = (arrival : Arrival) × (received after.ring ≡ received before.ring ++ arrival ∷ [])

  -- The next arrival came in. Or nothing did: the input is over, or nothing is in the ring.
  abbrev pub TakesIn : Clerk G K → Bool → Clerk G K → Type 0
  TakesIn before true after = TakesOne before after
  TakesIn before false after = (received after.ring ≡ received before.ring)
      × (((stream_of before.stream).session.close ≢ None) ⊎ (known_items after.ring ≡ []))

  -- More handlers are ready than there may be slots.
  abbrev pub HasMuchToDo : Clerk G K → Type 0
  HasMuchToDo clerk = MOST_SLOTS < length (ready (stream_of clerk.stream).session.core)

  -- The same where not much is left to do; or much is.
  abbrev pub TakesInOrWaits : Clerk G K → Bool → Clerk G K → Type 0
  TakesInOrWaits before true after = (HasMuchToDo before → ⊥) × TakesOne before after
  TakesInOrWaits before false after = (received after.ring ≡ received before.ring)
      × (HasMuchToDo before ⊎ (((stream_of before.stream).session.close ≢ None) ⊎ (known_items after.ring ≡ [])))

  -- A job came home, or something came in; or neither.
  abbrev pub Settles : Clerk G K → Bool → Clerk G K → Type 0
  Settles before true after = (free_count (looks_of before.seat) < free_count (looks_of after.seat)) ⊎ TakesOne before after
  Settles before false after = (looks_of after.seat ≡ looks_of before.seat) × (received after.ring ≡ received before.ring)

  -- ---- what goes out

  -- No job can go out: none is ready, or no slot is free.
  abbrev pub HasHandedOut : Clerk G K → Type 0
  HasHandedOut clerk = (ready (stream_of clerk.stream).session.core ≡ []) ⊎ (position is_free (looks_of clerk.seat) ≡ None)

  -- The first handler that is ready went out to the first slot that is free; or no job can go out, and nothing has changed.
  abbrev pub HandsOutOne : Clerk G K → Bool → Clerk G K → Type 0
  HandsOutOne before true after = (slot : ℕ) × (gated : Gated G) × (position is_free (looks_of before.seat) ≡ Some slot)
      × (looks_of after.seat ≡ slice_set (looks_of before.seat) slot (In gated))
      × LeavesAt (stream_of before.stream).session 0 (Some gated.job.handler) (stream_of after.stream).session
  HandsOutOne before false after = HasHandedOut before × (looks_of after.seat ≡ looks_of before.seat)
      × (stream_of after.stream ≡ stream_of before.stream)
