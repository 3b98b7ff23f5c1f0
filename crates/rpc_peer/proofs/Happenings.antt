-- What each event makes of all that was served.
use Rattle.std.proofs.Common.{◌≡◌, ℕ, zero, suc, ◌+◌, ◌-◌, ◌^◌, min, List, [], ◌∷◌, ◌++◌, Bool, true, false, cond, Option, Some, None, Result, Ok, Err, OnOk, OnErr, refl, sym, ap, subst, ◌∙◌}
use Rattle.std.specs.Prelude.{slice_get, slice_set, replicate, IfErr}
use Rattle.lsp_frames.specs.Devices.{Unfinished}
use Rattle.stream_framing.proofs.Laws.{text_unfinished}
use Rattle.method_steps.specs.Steps.{MethodTable}
use Rattle.job_slots.specs.declared.view.Look.{Look}
use Rattle.job_slots.specs.declared.view.Look.TheVariants.{Free, In}
use Rattle.job_slots.specs.Seats.{looks_of, slot_count}
use Rattle.rtrb.specs.Ring.{received}
use Rattle.peer_output.specs.Events.{with_at}
use Rattle.peer_session.specs.declared.limits.Limits.{Limits}
use Rattle.peer_session.specs.declared.job.Job.{Job}
use Rattle.peer_session.specs.Events.{DrainsIn, CountsDrain}
use Rattle.peer_session.specs.SessionState.{SessionState}
use Rattle.peer_session.specs.declared.drain_fault.DrainFault.{DrainFault}
use Rattle.peer_session.specs.declared.drain_fault.DrainFault.TheVariants.{Memory, Write}
use Rattle.stream_framing.specs.declared.framing.Framing.{Framing}
use Rattle.stream_session.specs.Framings.{IsShortIn}
use Rattle.stream_session.specs.Standing.{HasDrained}
use Rattle.stream_session.specs.Stream.{Fed, StreamState, StreamStands, StopsShort, IsTaken, stream_of}
use Rattle.rpc_peer.specs.Clerk.{clerk_framing, clerk_table, clerk_limits}
use Rattle.rpc_peer.specs.Arriving.{bytes_of, ending_of}
use Rattle.rpc_peer.specs.declared.arrival.Arrival.{Arrival}
use Rattle.rpc_peer.specs.declared.clerk.Clerk.{Clerk}
use Rattle.rpc_peer.specs.declared.gated.Gated.{Gated}
use Rattle.rpc_peer.specs.Clerk.{CountsRun, IsNew}
use Rattle.rpc_peer.specs.Serves.{ServesAfter, fed_by}
use Rattle.rpc_peer.specs.Serving.{IsDrained}
use Rattle.rpc_peer.specs.Taking.{EndsInput, TakesArrival}
use Rattle.rpc_peer.proofs.Arriving.{fed-more, goes-on, pieces-go-on, short-here, short-more}
use Rattle.rpc_peer.proofs.Jobs.{out-back, out-more}

module _ {G : Type 0} (framing : Framing) (table : MethodTable) (limits : Limits) (arrived : List Arrival) (before : Option (List ℕ)) (s : StreamState)
    (looks : List (Look (Gated G))) (at : Option (List ℕ)) (had : ServesAfter framing table limits arrived before s looks at) where
  abbrev pub fed : Fed
  fed = fed_by framing table limits arrived before

  -- ---- more arrives

  pub arrives : s.session.close ≡ None → (arrival : Arrival) (after : StreamState) → TakesArrival arrival s after → IsTaken after → EndsInput arrival
      → ServesAfter framing table limits (arrived ++ arrival ∷ []) before after looks at
  arrives is_open arrival after takes taken ends =
      let pieces = had.goes_on is_open in
      let stands = takes fed had.jobs at had.stands (pieces-go-on arrived pieces) in
      record {
        jobs = had.jobs;
        stands = subst (λ f. StreamStands f had.jobs after at) (fed-more framing table limits arrived before pieces arrival) stands;
        goes_on = goes-on fed had.jobs after at arrived arrival stands taken pieces ends;
        are_out = had.are_out;
      }

  pub cut-later : StopsShort fed at → s.session.close ≡ None → (arrival : Arrival) → IsShortIn framing table limits (bytes_of (arrived ++ arrival ∷ [])) (ending_of (arrived ++ arrival ∷ [])) before at
  cut-later stops is_open arrival = short-more framing table limits arrived before at arrival (had.goes_on is_open) stops

  -- ---- a job comes home

  pub comes-home : (slot : ℕ) (gated : Gated G) → slice_get looks slot ≡ Some (In gated) → (after : StreamState) → after.session.close ≡ s.session.close
      → StreamStands fed (with_at gated.job.handler.number None had.jobs) after at → ServesAfter framing table limits arrived before after (slice_set looks slot Free) at
  comes-home slot gated there after same stands = record {
    jobs = _;
    stands = stands;
    goes_on = λ still. had.goes_on (sym same ∙ still);
    are_out = out-back looks had.jobs had.are_out slot gated there;
  }

  -- ---- a job goes out

  pub goes-out : (slot : ℕ) (gated : Gated G) (job : Job) → gated.job ≡ job → (after : StreamState) → after.session.close ≡ s.session.close
      → had.jobs job.handler.number ≡ None → StreamStands fed (with_at job.handler.number (Some job.handler) had.jobs) after at
      → job.outcome ≡ None → job.polls ≡ 0 → ServesAfter framing table limits arrived before after (slice_set looks slot (In gated)) at
  goes-out slot gated job is after same none stands unturned unpolled = record {
    jobs = _;
    stands = stands;
    goes_on = λ still. had.goes_on (sym same ∙ still);
    are_out = out-more looks had.jobs had.are_out slot job.handler.number gated (ap (λ (j : Job). j.handler.number) is) none
        (ap (λ (j : Job). j.outcome) is ∙ unturned) (ap (λ (j : Job). j.polls) is ∙ unpolled) job.handler (ap (λ (j : Job). j.handler) is);
  }

  -- ---- what is due is written

  pub drains : (how : Framing) (after : StreamState) (sink : Option (List ℕ)) (r : Result (Unit {0}) DrainFault) → DrainsIn how s.session at r after.session sink
      → OnOk r (StreamStands fed had.jobs after sink × HasDrained table after.session had.jobs) → OnOk r (ServesAfter framing table limits arrived before after looks sink)
  drains how after sink (Ok done) writes stands = record {
    jobs = had.jobs;
    stands = stands.0;
    goes_on = λ still. had.goes_on (sym (ap (λ (x : SessionState). x.close) writes.after_is) ∙ still);
    are_out = had.are_out;
  }
  drains how after sink (Err fault) writes stands = tt

  pub drain-stops : (sink : Option (List ℕ)) (r : Result (Unit {0}) DrainFault) → OnErr r (StopsShort fed sink) → IfErr r (λ fault. IsShortIn framing table limits (bytes_of arrived) (ending_of arrived) before sink)
  drain-stops sink (Ok done) stops = tt
  drain-stops sink (Err fault) stops = short-here fed sink stops

  counts-write : (broken : Bool) (failed failed_after : ℕ) → broken ≡ false → failed_after ≡ cond broken failed (min (failed + 1) (2 ^ 64 - 1))
      → failed_after ≡ min (failed + 1) (2 ^ 64 - 1)
  counts-write true failed failed_after is counts = absurd (cc)
  counts-write false failed failed_after is counts = counts

  pub drain-counts : (failed failed_after : ℕ) (r : Result (Unit {0}) DrainFault) → CountsDrain s.session failed r failed_after
      → IfErr r (λ fault. CountsRun failed (Err fault) failed_after)
  drain-counts failed failed_after (Ok done) counts = tt
  drain-counts failed failed_after (Err Memory) counts = counts
  drain-counts failed failed_after (Err Write) counts = counts-write s.session.is_broken failed failed_after had.stands.session.unbroken counts

pub drain-keeps : (s : SessionState) (failed failed_after : ℕ) (r : Result (Unit {0}) DrainFault) → CountsDrain s failed r failed_after → OnOk r (failed_after ≡ failed)
drain-keeps s failed failed_after (Ok done) counts = counts
drain-keeps s failed failed_after (Err fault) counts = tt

pub is-drained : (how : Framing) (s after : SessionState) (at sink : Option (List ℕ)) (r : Result (Unit {0}) DrainFault) → DrainsIn how s at r after sink → OnOk r (IsDrained after)
is-drained how s after at sink (Ok done) writes = record {
  core = s.core;
  core_is = ap (λ (x : SessionState). x.core) writes.after_is;
  well = ap (λ (x : SessionState). x.has_failed) writes.after_is ∙ writes.not_failed;
}
is-drained how s after at sink (Err fault) writes = tt

-- ---- before the first event

none-out : {G : Type 0} (count slot : ℕ) (gated : Gated G) → slice_get (replicate {A = Look (Gated G)} count Free) slot ≡ Some (In gated) → ⊥
none-out zero slot gated is = cc
none-out (suc count) zero gated is = cc
none-out (suc count) (suc slot) gated is = none-out count slot gated is

module _ {G K : Type 0} (clerk : Clerk G K) (new : IsNew clerk) (before : Option (List ℕ)) where
  starts-at : ServesAfter (clerk_framing clerk) (clerk_table clerk) (clerk_limits clerk) [] before (stream_of clerk.stream) (replicate {A = Look (Gated G)} (slot_count clerk.slots.now) Free) before
  starts-at = record {
    jobs = λ n. None;
    stands = subst (λ (bytes : List ℕ). StreamStands (record { framing = clerk_framing clerk; table = clerk_table clerk; limits = clerk_limits clerk; bytes = bytes; ending = Unfinished; before = before })
        (λ n. None) (stream_of clerk.stream) before) (sym (text_unfinished (clerk_framing clerk) [])) (new.session before);
    goes_on = λ still. refl;
    are_out = record {
      each = λ slot gated there. absurd (none-out (slot_count clerk.slots.now) slot gated there);
      apart = λ slot other gated another there. absurd (none-out (slot_count clerk.slots.now) slot gated there);
    };
  }

  pub starts-new : ServesAfter (clerk_framing clerk) (clerk_table clerk) (clerk_limits clerk) (received clerk.ring) before (stream_of clerk.stream) (looks_of clerk.seat) before
  starts-new =
      subst (λ xs. ServesAfter (clerk_framing clerk) (clerk_table clerk) (clerk_limits clerk) xs before (stream_of clerk.stream) (looks_of clerk.seat) before) (sym new.empty)
      (subst (λ looks. ServesAfter (clerk_framing clerk) (clerk_table clerk) (clerk_limits clerk) [] before (stream_of clerk.stream) looks before) (sym new.free) starts-at)
