-- Pieces come and are taken, the input ends, jobs go out and come back, and a stream's session goes on to stand.
use Rattle.std.proofs.Common.{◌≡◌, ◌≢◌, ℕ, List, [], ◌∷◌, ◌++◌, Bool, true, false, cond, ◌==◌, Option, Some, None, is_none, is_some, refl, sym, ap, subst, ◌∙◌, append_assoc, append-nil}
use Rattle.std.specs.Prelude.{IfSome, option_map}
use Rattle.std.proofs.lemmas.List.{map-append}
use Rattle.lsp_frames.specs.Contents as contents
use Rattle.lsp_frames.specs.Contents.{Standing, end_of}
use Rattle.lsp_frames.specs.Devices.{Ending, Unfinished, Finished, Failed}
use Rattle.lsp_frames.specs.declared.frame.Frame.{Frame}
use Rattle.lsp_frames.specs.declared.frame.FrameFault.{FrameFault}
use Rattle.lsp_frames.specs.declared.frame.End.{End}
use Rattle.lsp_frames.specs.declared.frame.End.TheVariants as end
use Rattle.stream_framing.specs.Framed.{Holds, IsOpenLeft, Knows, StandsBehind, framing_of, limit_of, read_text}
use Rattle.stream_framing.specs.declared.cutter.Cutter.{Cutter}
use Rattle.stream_framing.specs.declared.framing.Framing.{Framing}
use Rattle.stream_framing.specs.declared.framing.Framing.TheVariants.{Frames, Lines}
use Rattle.stream_framing.proofs.Laws.{held_keep_a_fault, held_of_more, nothing-broken, rest_open, text_of}
use Rattle.rpc_messages.specs.Numbering.{taken, is_cut}
use Rattle.rpc_messages.specs.Unit.{SeenUnit, unit_of, units_of}
use Rattle.rpc_messages.proofs.Units.{taken-uncut, taken-cut, is_cut-cut}
use Rattle.method_steps.specs.Steps.{MethodTable}
use Rattle.handler_future.specs.State.{HandlerState}
use Rattle.stream_session.specs.Promise.{close_of, told}
use Rattle.peer_session.specs.Events.{TakesUnit, LeavesAt, ended, picked, with_job_back}
use Rattle.peer_session.specs.SessionState.{SessionState, new_session}
use Rattle.peer_session.specs.Turned.{Turned}
use Rattle.peer_session.specs.declared.job.Job.{Job}
use Rattle.peer_session.specs.declared.limits.Limits.{Limits}
use Rattle.peer_session.specs.declared.report.Close.{Close}
use Rattle.peer_session.specs.declared.report.Close.TheVariants.{Clean, Full, Read}
use Rattle.peer_session.specs.declared.report.Close.TheVariants as close
use Rattle.peer_session.specs.declared.taken.Taken.{Taken}
use Rattle.peer_output.specs.Events.{with_at}
use Rattle.stream_session.specs.Inner.Known.{Known}
use Rattle.stream_session.specs.Standing.{SessionStands, close_by}
use Rattle.stream_session.specs.Stream.{Fed, StreamState, GoesOn, HasClosed, StreamStands, IsTaken, ending_by, fed_nothing, with_end, with_ending, with_line_ended, with_piece}
use Rattle.stream_session.specs.declared.next.InputEnd.{InputEnd}
use Rattle.stream_session.proofs.Draining.{appends-none}
use Rattle.stream_session.proofs.Jobs.{job-back, job-out, none-yet}
use Rattle.stream_session.proofs.Units.{cut-of, ends, full_if, uncut-of, unit-taken}
use Rattle.stream_session.proofs.Written.{starts}

-- ---- how an input closes

-- how it ends, as its decoder tells
abbrev pub how_ended : End → Close
how_ended end.Clean = Clean
how_ended (end.Fault fault) = close.Frame (told fault)

pub close-finished : (standing : Standing) → close_of false standing Finished ≡ Some (how_ended (end_of standing))
close-finished (contents.Open []) = refl
close-finished (contents.Open (b ∷ rest)) = refl
close-finished (contents.Broken fault) = refl

-- What a closed input was closed by while it went on, closes it at any end.
closed-stays : (cut : Bool) (standing : Standing) (before after : Ending) → before ≡ Unfinished → close_of cut standing before ≢ None
    → close_of cut standing before ≡ close_of cut standing after
closed-stays true standing before after goes_on closed = refl
closed-stays false (contents.Broken fault) before after goes_on closed = refl
closed-stays false (contents.Open rest) before after goes_on closed = absurd (closed (ap (close_of false (contents.Open rest)) goes_on))

open-of : (last : Option Close) (standing : Standing) (ending : Ending) → last ≡ None → last ≡ close_of false standing ending
    → (rest : List ℕ) × (standing ≡ contents.Open rest)
open-of last (contents.Open rest) ending none is = (rest, refl)
open-of last (contents.Broken fault) ending none is = absurd (let clash : None ≡ Some (close.Frame (told fault)) = sym none ∙ is in cc)

pub was-none : (last : Option Close) (answer : Bool) → answer ≡ is_some last → answer ≡ false → last ≡ None
was-none None answer is says = refl
was-none (Some c) answer is says = absurd (cc)

pub was-some : (last : Option Close) (answer : Bool) → answer ≡ is_some last → answer ≡ true → last ≢ None
was-some None answer is says none = cc
was-some (Some c) answer is says none = cc

pub was-open : (close : Option Close) (answer : Bool) → answer ≡ is_none close → answer ≡ true → close ≡ None
was-open None answer is says = refl
was-open (Some c) answer is says = absurd (cc)

pub was-closed : (close : Option Close) (answer : Bool) → answer ≡ is_none close → answer ≡ false → close ≢ None
was-closed None answer is says none = cc
was-closed (Some c) answer is says none = cc

none-by : (last close : Option Close) → (last ≢ None → close ≢ None) → close ≡ None → last ≡ None
none-by None close is_closed is_open = refl
none-by (Some c) close is_closed is_open = absurd (is_closed (λ none. let clash : Some c ≡ None = none in cc) is_open)

pub none-known : (s : StreamState) → IsTaken s → s.session.close ≡ None → s.last ≡ None
none-known s taken_all is_open = none-by s.last s.session.close taken_all.is_closed is_open

read-closes : (standing : Standing) (rest : List ℕ) → standing ≡ contents.Open rest → close_of false standing Failed ≡ Some Read
read-closes standing rest is = ap (λ left. close_of false left Failed) is

-- ---- more bytes

pub units-append : (frames later : List Frame) → units_of (frames ++ later) ≡ units_of frames ++ units_of later
units-append frames later = map-append _ frames later

-- What closed an input closes it with more bytes: it was full, or a fault stays.
pub record StaysClosed (framing : Framing) (limits : Limits) (all : List ℕ) (frames : List Frame) (standing : Standing) : Type 0 where
  pub now_frames : List Frame
  pub now_standing : Standing
  pub contents : Holds framing limits.content all now_frames now_standing
  pub taken_same : taken limits.numbers (units_of frames) ≡ taken limits.numbers (units_of now_frames)
  pub close_same : close_of (is_cut limits.numbers (units_of frames)) standing Unfinished ≡ close_of (is_cut limits.numbers (units_of now_frames)) now_standing Unfinished

stays-cut : (framing : Framing) (limits : Limits) (bytes more : List ℕ) (frames : List Frame) (standing : Standing) → Holds framing limits.content bytes frames standing
    → is_cut limits.numbers (units_of frames) ≡ true → StaysClosed framing limits (bytes ++ more) frames standing
stays-cut framing limits bytes more frames standing had cut =
    let next = held_of_more framing limits.content bytes more frames standing had in
    let parts = units-append frames next.0 in
    let still : is_cut limits.numbers (units_of (frames ++ next.0)) ≡ true =
    ap (is_cut limits.numbers) parts ∙ is_cut-cut limits.numbers (units_of frames) (units_of next.0) cut in
    record {
      now_frames = frames ++ next.0;
      now_standing = next.1;
      contents = next.2;
      taken_same = sym (ap (taken limits.numbers) parts ∙ taken-cut limits.numbers (units_of frames) (units_of next.0) cut);
      close_same = ap (λ b. close_of b standing Unfinished) cut ∙ sym (ap (λ b. close_of b next.1 Unfinished) still);
    }

stays-uncut : (framing : Framing) (limits : Limits) (bytes more : List ℕ) (frames : List Frame) (standing : Standing) → Holds framing limits.content bytes frames standing
    → is_cut limits.numbers (units_of frames) ≡ false → close_of (is_cut limits.numbers (units_of frames)) standing Unfinished ≢ None
    → StaysClosed framing limits (bytes ++ more) frames standing
stays-uncut framing limits bytes more frames (contents.Broken fault) had uncut closed = record {
  now_frames = frames;
  now_standing = contents.Broken fault;
  contents = held_keep_a_fault framing limits.content bytes more frames fault had;
  taken_same = refl;
  close_same = refl;
}
stays-uncut framing limits bytes more frames (contents.Open rest) had uncut closed =
    absurd (closed (ap (λ b. close_of b (contents.Open rest) Unfinished) uncut))

stays-by : (framing : Framing) (limits : Limits) (bytes more : List ℕ) (frames : List Frame) (standing : Standing) (b : Bool) → is_cut limits.numbers (units_of frames) ≡ b
    → Holds framing limits.content bytes frames standing → close_of (is_cut limits.numbers (units_of frames)) standing Unfinished ≢ None
    → StaysClosed framing limits (bytes ++ more) frames standing
stays-by framing limits bytes more frames standing true is had closed = stays-cut framing limits bytes more frames standing had is
stays-by framing limits bytes more frames standing false is had closed = stays-uncut framing limits bytes more frames standing had is closed

pub stays-closed : (framing : Framing) (limits : Limits) (bytes more : List ℕ) (frames : List Frame) (standing : Standing) → Holds framing limits.content bytes frames standing
    → close_of (is_cut limits.numbers (units_of frames)) standing Unfinished ≢ None → StaysClosed framing limits (bytes ++ more) frames standing
stays-closed framing limits bytes more frames standing had closed =
    stays-by framing limits bytes more frames standing (is_cut limits.numbers (units_of frames)) refl had closed

-- ---- before the first byte

module _ (laws : Known) (framing : Framing) (table : MethodTable) (limits : Limits) (before : Option (List ℕ)) (cutter : Cutter) (s : SessionState)
    (is_framed : framing_of cutter ≡ framing) (limit : limit_of cutter ≡ limits.content) (is : s ≡ new_session table limits) where
  starts-at : (standing : Standing) → Holds framing limits.content [] [] standing → Knows cutter standing
      → StreamStands (fed_nothing framing table limits before) (λ n. None) (record { cutter = cutter; waiting = []; last = None; session = s }) before
  starts-at (contents.Open rest) holds knows =
      subst (λ x. StreamStands (fed_nothing framing table limits before) (λ n. None) (record { cutter = cutter; waiting = []; last = None; session = x }) before) (sym is) (record {
        frames = [];
        standing = contents.Open rest;
        contents = holds;
        units = [];
        items = [];
        out = λ n. None;
        out_are = λ n. refl;
        session = starts laws table limits;
        wrote = appends-none before;
        framing = is_framed;
        limit = limit;
        while_open = λ still. record { parts = refl; uncut = refl; last_is = refl; knows = knows };
        once_closed = λ closed. absurd (closed refl);
      })
  starts-at (contents.Broken fault) holds knows = absurd (nothing-broken framing limits.content fault holds)

  pub stream-starts : StandsBehind cutter [] []
      → StreamStands (fed_nothing framing table limits before) (λ n. None) (record { cutter = cutter; waiting = []; last = None; session = s }) before
  stream-starts stands =
      starts-at stands.0 (subst (λ f. Holds f limits.content [] [] stands.0) is_framed (subst (λ n. Holds (framing_of cutter) n [] [] stands.0) limit stands.1)) stands.2

-- ---- one number among others

at-both : {A : Type 0} (n : ℕ) (a : A) (f g : ℕ → A) (k : ℕ) → f k ≡ g k → with_at n a f k ≡ with_at n a g k
at-both n a f g k same = ap (λ x. cond (n == k) a x) same

module _ (laws : Known) (fed : Fed) (jobs : ℕ → Option HandlerState) (s : StreamState) (sink : Option (List ℕ)) (had : StreamStands fed jobs s sink) where
  -- The same jobs, told otherwise.
  pub same-jobs : (others : ℕ → Option HandlerState) → ((n : ℕ) → jobs n ≡ others n) → StreamStands fed others s sink
  same-jobs others same = record {
    frames = had.frames;
    standing = had.standing;
    contents = had.contents;
    units = had.units;
    items = had.items;
    out = had.out;
    out_are = λ n. had.out_are n ∙ same n;
    session = had.session;
    wrote = had.wrote;
    framing = had.framing;
    limit = had.limit;
    while_open = had.while_open;
    once_closed = had.once_closed;
  }

  -- ---- a piece that is let go

  pub let-go : s.session.close ≢ None → fed.ending ≡ Unfinished → (piece : List ℕ) → StreamStands (with_piece fed piece) jobs s sink
  let-go closed goes_on piece =
      let over = had.once_closed closed in
      let was : s.session.close ≡ close_of (is_cut fed.limits.numbers (units_of had.frames)) had.standing Unfinished =
      over.close_is ∙ ap (close_of (is_cut fed.limits.numbers (units_of had.frames)) had.standing) goes_on in
      let now = stays-closed fed.framing fed.limits fed.bytes piece had.frames had.standing had.contents (λ none. closed (was ∙ none)) in
      record {
        frames = now.now_frames;
        standing = now.now_standing;
        contents = now.contents;
        units = had.units;
        items = had.items;
        out = had.out;
        out_are = had.out_are;
        session = had.session;
        wrote = had.wrote;
        framing = had.framing;
        limit = had.limit;
        while_open = λ still. absurd (closed still);
        once_closed = λ still. record {
          units_are = over.units_are ∙ now.taken_same;
          close_is = was ∙ now.close_same ∙ ap (close_of (is_cut fed.limits.numbers (units_of now.now_frames)) now.now_standing) (sym goes_on);
        };
      }

  -- ---- contents that are let go

  pub lets-go : s.session.close ≢ None → (waiting : List Frame)
      → StreamStands fed jobs (record { cutter = s.cutter; waiting = waiting; last = s.last; session = s.session }) sink
  lets-go closed waiting = record {
    frames = had.frames;
    standing = had.standing;
    contents = had.contents;
    units = had.units;
    items = had.items;
    out = had.out;
    out_are = had.out_are;
    session = had.session;
    wrote = had.wrote;
    framing = had.framing;
    limit = had.limit;
    while_open = λ still. absurd (closed still);
    once_closed = had.once_closed;
  }

  module _ (is_open : s.session.close ≡ None) where
    abbrev on : GoesOn fed.limits had.frames had.standing fed.ending had.units s.cutter s.waiting s.last
    on = had.while_open is_open

    -- The cutter stands behind the bytes.
    pub cutter-contents : Holds (framing_of s.cutter) (limit_of s.cutter) fed.bytes had.frames had.standing
    cutter-contents =
        subst (λ f. Holds f (limit_of s.cutter) fed.bytes had.frames had.standing) (sym had.framing)
        (subst (λ n. Holds fed.framing n fed.bytes had.frames had.standing) (sym had.limit) had.contents)

    pub cutter-stands : StandsBehind s.cutter fed.bytes had.frames
    cutter-stands = (had.standing, cutter-contents, on.knows)

    all-taken : s.waiting ≡ [] → units_of had.frames ≡ had.units
    all-taken none = on.parts ∙ ap (λ fs. had.units ++ units_of fs) none ∙ append-nil had.units

    -- ---- a piece that is cut

    module _ (none : s.waiting ≡ []) (piece : List ℕ) (cutter : Cutter) (given : List Frame) (stands : StandsBehind cutter (fed.bytes ++ piece) (had.frames ++ given))
        (same : framing_of cutter ≡ framing_of s.cutter) (limit : limit_of cutter ≡ limit_of s.cutter) (last : Option Close) where
      pub cut-by : last ≡ close_of false stands.0 fed.ending
          → StreamStands (with_piece fed piece) jobs (record { cutter = cutter; waiting = given; last = last; session = s.session }) sink
      cut-by is = record {
        frames = had.frames ++ given;
        standing = stands.0;
        contents = subst (λ f. Holds f fed.limits.content (fed.bytes ++ piece) (had.frames ++ given) stands.0) (same ∙ had.framing)
            (subst (λ n. Holds (framing_of cutter) n (fed.bytes ++ piece) (had.frames ++ given) stands.0) (limit ∙ had.limit) stands.1);
        units = had.units;
        items = had.items;
        out = had.out;
        out_are = had.out_are;
        session = had.session;
        wrote = had.wrote;
        framing = same ∙ had.framing;
        limit = limit ∙ had.limit;
        while_open = λ still. record {
          parts = units-append had.frames given ∙ ap (λ us. us ++ units_of given) (all-taken none);
          uncut = on.uncut;
          last_is = is;
          knows = stands.2;
        };
        once_closed = λ closed. absurd (closed is_open);
      }

      pub cut-open : ((left : Standing) → Knows cutter left → IsOpenLeft left) → fed.ending ≡ Unfinished → last ≡ None
          → StreamStands (with_piece fed piece) jobs (record { cutter = cutter; waiting = given; last = last; session = s.session }) sink
      cut-open goes_on unfinished is =
          let left = rest_open stands.0 (goes_on stands.0 stands.2) in
          cut-by (is ∙ sym (ap (λ standing. close_of false standing fed.ending) left.1 ∙ ap (close_of false (contents.Open left.0)) unfinished))

      pub cut-broken : (fault : FrameFault) → ((left : Standing) → Knows cutter left → left ≡ contents.Broken fault) → last ≡ Some (close.Frame (told fault))
          → StreamStands (with_piece fed piece) jobs (record { cutter = cutter; waiting = given; last = last; session = s.session }) sink
      cut-broken fault broken is =
          cut-by (is ∙ sym (ap (λ standing. close_of false standing fed.ending) (broken stands.0 stands.2)))

    -- ---- a content is taken

    module _ (frame : Frame) (rest : List Frame) (waits : s.waiting ≡ frame ∷ rest) (how : Taken) (after : SessionState)
        (takes : TakesUnit s.session (unit_of frame.foreign frame.content) how after) where
      abbrev u : SeenUnit
      u = unit_of frame.foreign frame.content

      abbrev all : List SeenUnit
      all = had.units ++ u ∷ []

      now : SessionStands fed.table fed.limits (taken fed.limits.numbers all) had.items after had.out × (after.close ≡ close_by fed.limits.numbers all)
      now = unit-taken laws fed.table fed.limits had.units u had.items s.session after had.out had.session is_open on.uncut how takes

      all-parts : units_of had.frames ≡ all ++ units_of rest
      all-parts = on.parts ∙ ap (λ fs. had.units ++ units_of fs) waits ∙ sym (append_assoc had.units (u ∷ []) (units_of rest))

      goes-on : after.close ≡ None → GoesOn fed.limits had.frames had.standing fed.ending (taken fed.limits.numbers all) s.cutter rest s.last
      goes-on still =
          let uncut : is_cut fed.limits.numbers all ≡ false = uncut-of (is_cut fed.limits.numbers all) (sym now.1 ∙ still) in
          let same : taken fed.limits.numbers all ≡ all = taken-uncut fed.limits.numbers all uncut in
          record {
            parts = all-parts ∙ ap (λ us. us ++ units_of rest) (sym same);
            uncut = ap (is_cut fed.limits.numbers) same ∙ uncut;
            last_is = on.last_is;
            knows = on.knows;
          }

      is-full : after.close ≢ None → HasClosed fed.limits had.frames had.standing fed.ending (taken fed.limits.numbers all) after.close
      is-full closed =
          let cut : is_cut fed.limits.numbers all ≡ true = cut-of (is_cut fed.limits.numbers all) (λ none. closed (now.1 ∙ none)) in
          record {
            units_are = sym (ap (taken fed.limits.numbers) all-parts ∙ taken-cut fed.limits.numbers all (units_of rest) cut);
            close_is = now.1 ∙ ap full_if cut
                ∙ sym (ap (λ b. close_of b had.standing fed.ending) (ap (is_cut fed.limits.numbers) all-parts ∙ is_cut-cut fed.limits.numbers all (units_of rest) cut));
          }

      pub content-taken : StreamStands fed jobs (record { cutter = s.cutter; waiting = rest; last = s.last; session = after }) sink
      content-taken = record {
        frames = had.frames;
        standing = had.standing;
        contents = had.contents;
        units = taken fed.limits.numbers all;
        items = had.items;
        out = had.out;
        out_are = had.out_are;
        session = now.0;
        wrote = had.wrote;
        framing = had.framing;
        limit = had.limit;
        while_open = goes-on;
        once_closed = is-full;
      }

    -- ---- the end is taken

    pub end-taken : s.waiting ≡ [] → (c : Close) → s.last ≡ Some c
        → StreamStands fed jobs (record { cutter = s.cutter; waiting = s.waiting; last = s.last; session = ended s.session c }) sink
    end-taken none c is =
        let after = ends laws fed.table fed.limits had.units had.items s.session had.out c is_open had.session in
        let cut : is_cut fed.limits.numbers (units_of had.frames) ≡ false = ap (is_cut fed.limits.numbers) (all-taken none) ∙ on.uncut in
        record {
          frames = had.frames;
          standing = had.standing;
          contents = had.contents;
          units = had.units;
          items = had.items;
          out = had.out;
          out_are = had.out_are;
          session = after.0;
          wrote = had.wrote;
          framing = had.framing;
          limit = had.limit;
          while_open = λ still. absurd (let clash : Some c ≡ None = sym after.1 ∙ still in cc);
          once_closed = λ closed. record {
            units_are = sym (ap (taken fed.limits.numbers) (all-taken none) ∙ taken-uncut fed.limits.numbers had.units on.uncut);
            close_is = after.1 ∙ sym is ∙ on.last_is ∙ ap (λ b. close_of b had.standing fed.ending) (sym cut);
          };
        }

  -- ---- the input ends

  pub end-told : fed.ending ≡ Unfinished → (e : InputEnd) (last : Option Close)
      → (s.session.close ≡ None → last ≡ close_of false had.standing (ending_by e))
      → StreamStands (with_ending fed e) jobs (record { cutter = s.cutter; waiting = s.waiting; last = last; session = s.session }) sink
  end-told goes_on e last is = record {
    frames = had.frames;
    standing = had.standing;
    contents = had.contents;
    units = had.units;
    items = had.items;
    out = had.out;
    out_are = had.out_are;
    session = had.session;
    wrote = had.wrote;
    framing = had.framing;
    limit = had.limit;
    while_open = λ still. record {
      parts = (had.while_open still).parts;
      uncut = (had.while_open still).uncut;
      last_is = is still;
      knows = (had.while_open still).knows;
    };
    once_closed = λ closed.
        let over = had.once_closed closed in
        record {
          units_are = over.units_are;
          close_is = over.close_is ∙ closed-stays (is_cut fed.limits.numbers (units_of had.frames)) had.standing fed.ending (ending_by e) goes_on (λ none. closed (over.close_is ∙ none));
        };
  }

  -- that was known before
  pub end-known : fed.ending ≡ Unfinished → (e : InputEnd) → s.last ≢ None → StreamStands (with_ending fed e) jobs s sink
  end-known goes_on e known_end = end-told goes_on e s.last (λ still.
      let on = had.while_open still in
      on.last_is ∙ closed-stays false had.standing fed.ending (ending_by e) goes_on (λ none. known_end (on.last_is ∙ none)))

  pub end-read : s.last ≡ None → s.session.close ≡ None → close_of false had.standing Failed ≡ Some Read
  end-read none is_open =
      let left = open-of s.last had.standing fed.ending none (had.while_open is_open).last_is in
      read-closes had.standing left.0 left.1

  -- ---- jobs

  pub comes-back : (n : ℕ) (job turned : Job) → jobs n ≡ Some job.handler → job.polls ≡ 0 → Turned job turned
      → StreamStands fed (with_at n None jobs)
      (record { cutter = s.cutter; waiting = s.waiting; last = s.last; session = with_job_back s.session turned.handler turned.outcome turned.polls }) sink
  comes-back n job turned out unpolled turns = record {
    frames = had.frames;
    standing = had.standing;
    contents = had.contents;
    units = had.units;
    items = had.items;
    out = with_at n None had.out;
    out_are = λ k. at-both n None had.out jobs k (had.out_are k);
    session = job-back laws fed.table fed.limits had.units had.items s.session had.out had.session n job turned (had.out_are n ∙ out) unpolled turns;
    wrote = had.wrote;
    framing = had.framing;
    limit = had.limit;
    while_open = had.while_open;
    once_closed = had.once_closed;
  }

  module _ (pick : ℕ) (job : HandlerState) (number : job.number ≡ picked s.session.core pick) (after : SessionState) (leaves : LeavesAt s.session pick (Some job) after) where
    pub wasnt-out : jobs job.number ≡ None
    wasnt-out = sym (had.out_are job.number) ∙ ap had.out number
        ∙ none-yet laws fed.table fed.limits had.units had.items s.session had.out had.session pick job after leaves

    pub goes-out : StreamStands fed (with_at job.number (Some job) jobs) (record { cutter = s.cutter; waiting = s.waiting; last = s.last; session = after }) sink
    goes-out =
        let same : after.close ≡ s.session.close = ap (λ (x : SessionState). x.close) leaves.1.2 in
        record {
          frames = had.frames;
          standing = had.standing;
          contents = had.contents;
          units = had.units;
          items = had.items;
          out = with_at (picked s.session.core pick) (Some job) had.out;
          out_are = λ k. at-both (picked s.session.core pick) (Some job) had.out jobs k (had.out_are k) ∙ ap (λ m. with_at m (Some job) jobs k) (sym number);
          session = job-out laws fed.table fed.limits had.units had.items s.session had.out had.session pick job after leaves;
          wrote = had.wrote;
          framing = had.framing;
          limit = had.limit;
          while_open = λ still. had.while_open (sym same ∙ still);
          once_closed = λ closed.
              let over = had.once_closed (λ none. closed (same ∙ none)) in
              record { units_are = over.units_are; close_is = same ∙ over.close_is };
        }

  pub job-given : (pick : ℕ) (r : Option Job) (after : SessionState) → LeavesAt s.session pick (option_map (λ (job : Job). job.handler) r) after
      → IfSome r (λ job. job.handler.number ≡ picked s.session.core pick)
      → IfSome r (λ job. (jobs job.handler.number ≡ None) × StreamStands fed (with_at job.handler.number (Some job.handler) jobs)
      (record { cutter = s.cutter; waiting = s.waiting; last = s.last; session = after }) sink)
  job-given pick None after leaves number = tt
  job-given pick (Some job) after leaves number = (wasnt-out pick job.handler number after leaves, goes-out pick job.handler number after leaves)

-- ---- behind an end that is known

open-unknown : (standing : Standing) (ending : Ending) → ending ≡ Unfinished → close_of false standing ending ≢ None → (fault : FrameFault) × (standing ≡ contents.Broken fault)
open-unknown (contents.Open rest) ending goes_on some = absurd (some (ap (close_of false (contents.Open rest)) goes_on))
open-unknown (contents.Broken fault) ending goes_on some = (fault, refl)

module _ (laws : Known) (fed : Fed) (jobs : ℕ → Option HandlerState) (s : StreamState) (sink : Option (List ℕ)) (had : StreamStands fed jobs s sink)
    (goes_on : fed.ending ≡ Unfinished) where
  -- More bytes change nothing: a fault stays.
  behind-fault : s.session.close ≡ None → s.last ≢ None → (more : List ℕ) → StreamStands (with_piece fed more) jobs s sink
  behind-fault is_open known_end more =
      let on = had.while_open is_open in
      let broken = open-unknown had.standing fed.ending goes_on (λ none. known_end (on.last_is ∙ none)) in
      record {
        frames = had.frames;
        standing = had.standing;
        contents = subst (λ left. Holds fed.framing fed.limits.content (fed.bytes ++ more) had.frames left) (sym broken.1)
            (held_keep_a_fault fed.framing fed.limits.content fed.bytes more had.frames broken.0
            (subst (Holds fed.framing fed.limits.content fed.bytes had.frames) broken.1 had.contents));
        units = had.units;
        items = had.items;
        out = had.out;
        out_are = had.out_are;
        session = had.session;
        wrote = had.wrote;
        framing = had.framing;
        limit = had.limit;
        while_open = had.while_open;
        once_closed = λ closed. absurd (closed is_open);
      }

  behind-end : (close : Option Close) → s.session.close ≡ close → s.last ≢ None → (more : List ℕ) → StreamStands (with_piece fed more) jobs s sink
  behind-end None is known_end more = behind-fault is known_end more
  behind-end (Some close) is known_end more = let-go laws fed jobs s sink had (λ none. let clash : Some close ≡ None = sym is ∙ none in cc) goes_on more

  pub end-again : (e : InputEnd) → s.last ≢ None → StreamStands (with_end fed e) jobs s sink
  end-again e known_end =
      let text = text_of fed.framing (ending_by e) fed.bytes in
      subst (λ bytes. StreamStands (record fed { bytes = bytes; ending = ending_by e }) jobs s sink) (sym text.1)
      (end-known laws (with_piece fed text.0) jobs s sink (behind-end s.session.close refl known_end text.0) goes_on e known_end)

  -- Frames end as they are.
  pub frames-ended : fed.framing ≡ Frames → StreamStands (with_line_ended fed) jobs s sink
  frames-ended is =
      subst (λ framing. StreamStands (record fed { bytes = read_text framing Finished fed.bytes }) jobs s sink) (sym is) had

-- An LF ends a line.
pub line-ended : (fed : Fed) (jobs : ℕ → Option HandlerState) (s : StreamState) (sink : Option (List ℕ)) → fed.framing ≡ Lines
    → StreamStands (with_piece fed (10 ∷ [])) jobs s sink → StreamStands (with_line_ended fed) jobs s sink
line-ended fed jobs s sink is stands =
    subst (λ framing. StreamStands (record fed { bytes = read_text framing Finished fed.bytes }) jobs s sink) (sym is) stands
