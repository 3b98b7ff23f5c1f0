-- What a stream's session wrote: at any time the front of a run's, more by each drain, and a whole run's once all is done.
use Rattle.std.proofs.Common.{◌≡◌, ◌≢◌, ℕ, List, [], ◌++◌, Bool, true, false, Option, Some, None, is_some, Result, Ok, Err, OnOk, OnErr, refl, sym, ap, subst, ◌∙◌, append_assoc, append-nil}
use Rattle.lsp_frames.specs.Contents.{Standing}
use Rattle.lsp_frames.specs.Devices.{Ending, Unfinished, Finished, Failed}
use Rattle.lsp_frames.specs.declared.frame.Frame.{Frame}
use Rattle.rpc_messages.specs.Numbering.{taken, is_cut, units_numbers}
use Rattle.rpc_messages.specs.Unit.{units_of}
use Rattle.rpc_messages.proofs.Units.{taken-uncut}
use Rattle.handler_future.specs.State.{HandlerState}
use Rattle.peer_session.specs.Events.{DrainsIn, FailsToWriteIn, StopsIn, WritesIn, WritesSomeIn}
use Rattle.peer_session.specs.Framings.{bytes_in}
use Rattle.stream_framing.specs.Framed.{Holds, framing_of}
use Rattle.stream_framing.specs.declared.framing.Framing.{Framing}
use Rattle.stream_framing.specs.declared.framing.Framing.TheVariants.{Frames, Lines}
use Rattle.stream_framing.proofs.Laws.{held_exist, held_of_more}
use Rattle.peer_session.specs.SessionState.{SessionState, IsDone, new_session, report_of, close_or_clean}
use Rattle.peer_session.specs.declared.drain_fault.DrainFault.{DrainFault}
use Rattle.peer_session.specs.declared.drain_fault.DrainFault.TheVariants.{Memory, Write}
use Rattle.peer_session.specs.declared.report.Close.{Close}
use Rattle.peer_output.specs.Cancelled.{Begins}
use Rattle.peer_output.specs.Later.{MayBecome}
use Rattle.peer_output.specs.Output.{IsOutput}
use Rattle.stream_session.specs.Inner.Known.{Known}
use Rattle.stream_session.specs.Framings.{IsRunOf, IsShortOf}
use Rattle.stream_session.specs.Promise.{close_of}
use Rattle.stream_session.specs.Standing.{HasDrained}
use Rattle.stream_session.specs.Stream.{Fed, StreamState, StreamStands, StopsShort, MayFollow}
use Rattle.stream_session.proofs.Streams.{stays-closed, units-append}
use Rattle.stream_session.proofs.Units.{may-grow, may-stay}
use Rattle.stream_session.proofs.Written.{starts, partial, drains, begins-to-drain, whole}
use Rattle.stream_session.proofs.Draining.{appends-none}
use Rattle.method_steps.specs.Steps.{MethodTable}
use Rattle.peer_session.specs.declared.limits.Limits.{Limits}

-- what a drain without memory has written
stops-with : (framing : Framing) (s after : SessionState) (before sink : Option (List ℕ)) → StopsIn framing s after before sink → sink ≡ before
stops-with Frames s after before sink stops = stops.bytes
stops-with Lines s after before sink stops = stops.0

close-some : (close : Option Close) → close ≢ None → close ≡ Some (close_or_clean close)
close-some None some = absurd (some refl)
close-some (Some close) some = refl

module _ (laws : Known) (fed : Fed) (jobs : ℕ → Option HandlerState) (s : StreamState) (sink : Option (List ℕ)) (had : StreamStands fed jobs s sink) where
  -- ---- what the units may become yet

  -- The bytes with those that come yet have units that those of now may become.
  pub record Becomes (more : List ℕ) : Type 0 where
    pub frames : List Frame
    pub standing : Standing
    pub contents : Holds fed.framing fed.limits.content (fed.bytes ++ more) frames standing
    pub becomes : MayBecome (is_some s.session.close) had.units (taken fed.limits.numbers (units_of frames))

  becomes-open : s.session.close ≡ None → (more : List ℕ) → Becomes more
  becomes-open is_open more =
      let on = had.while_open is_open in
      let next = held_of_more fed.framing fed.limits.content fed.bytes more had.frames had.standing had.contents in
      let begins : Begins had.units (units_of (had.frames ++ next.0)) = record {
        rest = units_of s.waiting ++ units_of next.0;
        joined = units-append had.frames next.0 ∙ ap (λ us. us ++ units_of next.0) on.parts ∙ append_assoc had.units (units_of s.waiting) (units_of next.0);
      } in
      record {
        frames = had.frames ++ next.0;
        standing = next.1;
        contents = next.2;
        becomes = subst (λ c. MayBecome (is_some c) had.units (taken fed.limits.numbers (units_of (had.frames ++ next.0)))) (sym is_open)
            (subst (λ us. Begins us (taken fed.limits.numbers (units_of (had.frames ++ next.0)))) (taken-uncut fed.limits.numbers had.units on.uncut)
            (may-grow fed.limits.numbers had.units (units_of (had.frames ++ next.0)) on.uncut begins));
      }

  becomes-closed : s.session.close ≢ None → (ending : Ending) → fed.ending ≡ ending → (more : List ℕ) → MayFollow ending more → Becomes more
  becomes-closed closed Unfinished goes_on more follows =
      let over = had.once_closed closed in
      let was : s.session.close ≡ close_of (is_cut fed.limits.numbers (units_of had.frames)) had.standing Unfinished =
      over.close_is ∙ ap (close_of (is_cut fed.limits.numbers (units_of had.frames)) had.standing) goes_on in
      let now = stays-closed fed.framing fed.limits fed.bytes more had.frames had.standing had.contents (λ none. closed (was ∙ none)) in
      record {
        frames = now.now_frames;
        standing = now.now_standing;
        contents = now.contents;
        becomes = subst (MayBecome (is_some s.session.close) had.units) (over.units_are ∙ now.taken_same) (may-stay (is_some s.session.close) had.units);
      }
  becomes-closed closed Finished ends more none =
      let over = had.once_closed closed in
      record {
        frames = had.frames;
        standing = had.standing;
        contents = subst (λ bytes. Holds fed.framing fed.limits.content bytes had.frames had.standing) (sym (ap (λ l. fed.bytes ++ l) none ∙ append-nil fed.bytes)) had.contents;
        becomes = subst (MayBecome (is_some s.session.close) had.units) over.units_are (may-stay (is_some s.session.close) had.units);
      }
  becomes-closed closed Failed ends more none =
      let over = had.once_closed closed in
      record {
        frames = had.frames;
        standing = had.standing;
        contents = subst (λ bytes. Holds fed.framing fed.limits.content bytes had.frames had.standing) (sym (ap (λ l. fed.bytes ++ l) none ∙ append-nil fed.bytes)) had.contents;
        becomes = subst (MayBecome (is_some s.session.close) had.units) over.units_are (may-stay (is_some s.session.close) had.units);
      }

  becomes-by : (close : Option Close) → s.session.close ≡ close → (more : List ℕ) → MayFollow fed.ending more → Becomes more
  becomes-by None is more follows = becomes-open is more
  becomes-by (Some close) is more follows = becomes-closed (λ none. let clash : Some close ≡ None = sym is ∙ none in cc) fed.ending refl more follows

  pub becomes : (more : List ℕ) → MayFollow fed.ending more → Becomes more
  becomes more follows = becomes-by s.session.close refl more follows

  -- ---- it stops short

  -- with nothing more written
  pub short : StopsShort fed sink
  short more follows =
      let now = becomes more follows in
      record {
        frames = now.frames;
        standing = now.standing;
        contents = now.contents;
        items = had.items;
        allowed = partial laws fed.table fed.limits had.units had.items s.session had.out had.session (taken fed.limits.numbers (units_of now.frames)) now.becomes;
        bytes = bytes_in fed.framing had.items;
        begins = record { rest = []; joined = sym (append-nil (bytes_in fed.framing had.items)) };
        written = had.wrote;
      }

  -- within a drain
  short-within : (after : SessionState) (then : Option (List ℕ)) → WritesSomeIn fed.framing s.session after sink then → StopsShort fed then
  short-within after then some more follows =
      let now = becomes more follows in
      let begun = begins-to-drain laws fed.table fed.limits had.units had.items s.session had.out had.session fed.framing fed.before sink then had.wrote after
      (taken fed.limits.numbers (units_of now.frames)) some now.becomes in
      record {
        frames = now.frames;
        standing = now.standing;
        contents = now.contents;
        items = begun.0;
        allowed = begun.2;
        bytes = begun.1;
        begins = begun.3;
        written = begun.4;
      }

  short-write : (after : SessionState) (then : Option (List ℕ)) (broken : Bool) → broken ≡ false → FailsToWriteIn fed.framing broken s.session after sink then → StopsShort fed then
  short-write after then true is writes = absurd (cc)
  short-write after then false is writes = short-within after then writes

  pub short-drain : (after : SessionState) (then : Option (List ℕ)) (r : Result (Unit {0}) DrainFault) → DrainsIn (framing_of s.cutter) s.session sink r after then → OnErr r (StopsShort fed then)
  short-drain after then r drains = short-by after then r (subst (λ f. DrainsIn f s.session sink r after then) had.framing drains)
    where
      short-by : (after : SessionState) (then : Option (List ℕ)) (r : Result (Unit {0}) DrainFault) → DrainsIn fed.framing s.session sink r after then → OnErr r (StopsShort fed then)
      short-by after then (Ok done) writes = tt
      short-by after then (Err Memory) writes = subst (StopsShort fed) (sym (stops-with fed.framing s.session after sink then writes.1)) short
      short-by after then (Err Write) writes = short-write after then s.session.is_broken had.session.unbroken writes

  -- ---- it goes on by a drain

  drained-by : (after : SessionState) (then : Option (List ℕ)) → WritesIn fed.framing s.session after sink then
      → StreamStands fed jobs (record { cutter = s.cutter; waiting = s.waiting; last = s.last; session = after }) then × HasDrained fed.table after jobs
  drained-by after then writes =
      let now = drains laws fed.table fed.limits had.units had.items s.session had.out had.session fed.framing fed.before sink then had.wrote after writes in
      let same : after.close ≡ s.session.close = ap (λ (x : SessionState). x.close) writes.after_is in
      let left = now.3 in (
        record {
          frames = had.frames;
          standing = had.standing;
          contents = had.contents;
          units = had.units;
          items = now.0;
          out = had.out;
          out_are = had.out_are;
          session = now.1;
          wrote = now.2;
          framing = had.framing;
          limit = had.limit;
          while_open = λ still. had.while_open (sym same ∙ still);
          once_closed = λ closed.
              let over = had.once_closed (λ none. closed (same ∙ none)) in
              record { units_are = over.units_are; close_is = same ∙ over.close_is };
        },
        record {
          core = left.core;
          units = left.units;
          items = left.items;
          out = left.out;
          out_are = λ n. left.out_are n ∙ had.out_are n;
          stands = left.stands;
          core_is = left.core_is;
          well = left.well;
          none_failed = left.none_failed;
        },
      )

  pub drained : (after : SessionState) (then : Option (List ℕ)) (r : Result (Unit {0}) DrainFault) → DrainsIn (framing_of s.cutter) s.session sink r after then
      → OnOk r (StreamStands fed jobs (record { cutter = s.cutter; waiting = s.waiting; last = s.last; session = after }) then × HasDrained fed.table after jobs)
  drained after then (Ok done) writes = drained-by after then (subst (λ f. WritesIn f s.session after sink then) had.framing writes)
  drained after then (Err fault) writes = tt

  -- ---- it is whole

  pub whole-run : IsDone s.session → IsRunOf fed.framing fed.table fed.limits fed.bytes fed.ending fed.before sink (report_of s.session)
  whole-run done =
      let over = had.once_closed done.over in
      let all = whole laws fed.table fed.limits had.units had.items s.session had.out had.session done in
      record {
        frames = had.frames;
        standing = had.standing;
        contents = had.contents;
        items = had.items;
        allowed = subst (λ us. IsOutput fed.table us had.items) over.units_are all.allowed;
        written = had.wrote;
        close = sym over.close_is ∙ close-some s.session.close done.over;
        numbers = all.numbers ∙ ap units_numbers over.units_are;
        messages = all.messages;
        call_frames = all.call_frames;
        answers = all.answers;
        polls = all.polls;
      }

-- ---- nothing was done

pub nothing-short : (laws : Known) (framing : Framing) (table : MethodTable) (limits : Limits) (text : List ℕ) (before : Option (List ℕ)) → IsShortOf framing table limits text before before
nothing-short laws framing table limits text before =
    let all = held_exist framing limits.content text in
    let later = taken limits.numbers (units_of all.0) in
    record {
      frames = all.0;
      standing = all.1;
      contents = all.2;
      items = [];
      allowed = partial laws table limits [] [] (new_session table limits) (λ n. None) (starts laws table limits) later (record { rest = later; joined = refl });
      bytes = [];
      begins = record { rest = []; joined = refl };
      written = appends-none before;
    }
