-- What a drain makes of a session.
use Rattle.std.proofs.Common.{◌≡◌, ℕ, ◌+◌, ◌-◌, ◌<◌, ◌^◌, flat_map, min, List, ◌++◌, [], length, take, Bool, true, false, cond, Option, Some, None, refl, sym, ap, subst, ◌∙◌, append-nil, arith}
use Rattle.std.proofs.lemmas.List.{take_all}
use Rattle.std.specs.Io.KnownBytes.{Keeps, Appends}
use Rattle.answer_desk.specs.State.{front_texts}
use Rattle.peer_output.specs.Items.{count_sendings, count_calls}
use Rattle.peer_events.specs.Core.{Core}
use Rattle.peer_events.specs.Turning.{drained}
use Rattle.stream_framing.specs.Framed.{framed}
use Rattle.stream_framing.specs.declared.framing.Framing.{Framing}
use Rattle.stream_framing.specs.declared.framing.Framing.TheVariants.{Frames, Lines}
use Rattle.peer_session.specs.Framings.{bytes_in, due_in}
use Rattle.peer_session.specs.declared.writing.Written.{Written}
use Rattle.peer_session.specs.Events.{due_sendings, drained_session, StopsIn, WritesSomeIn, FailsToWriteIn}
use Rattle.session_runs.specs.Runs.{NothingDue}
use Rattle.peer_session.specs.Inner.Writing.{Counts, CountsOn}
use Rattle.peer_session.specs.SessionState.{SessionState, counted}

-- ---- nothing is written

fails_if : (framing : Framing) (s : SessionState) (before : Option (List ℕ)) (b : Bool) → b ≡ true → FailsToWriteIn framing b s s before before
fails_if framing s before true is = record { bytes = refl; after_is = refl }
fails_if framing s before false is = cc

pub broken-fails : (framing : Framing) (s : SessionState) (before : Option (List ℕ)) → s.is_broken ≡ true → FailsToWriteIn framing s.is_broken s s before before
broken-fails framing s before is = fails_if framing s before s.is_broken is

pub failed-before : (framing : Framing) (s : SessionState) (before : Option (List ℕ)) → s.has_failed ≡ true → StopsIn framing s s before before
failed-before Frames s before is = record { bytes = refl; after_is = refl }
failed-before Lines s before is = (refl, λ i. record s { has_failed = is i })

-- Without memory the session stays as it was, or has failed.
abbrev pub left_by : SessionState → Core → Bool → SessionState
left_by s core failed = record s { core = core; has_failed = failed }

pub none-left : (framing : Framing) (s : SessionState) (core : Core) (before : Option (List ℕ)) (failed : Bool) → s.has_failed ≡ false → (framing ≡ Frames → core ≡ s.core)
    → (framing ≡ Frames → failed ≡ false) → (framing ≡ Lines → failed ≡ true) → StopsIn framing s (left_by s core failed) before before
none-left Frames s core before failed well same frames lines = record {
  bytes = refl;
  after_is = λ i. record s { core = same refl i; has_failed = (frames refl ∙ sym well) i };
}
none-left Lines s core before failed well same frames lines = (refl, λ i. record s { core = core; has_failed = lines refl i })

-- ---- all of it, or some

min-later : (a b m : ℕ) → min (a + min b m) m ≡ min (a + b) m
min-later a b m = omega arith

counted-later : (a b : ℕ) → counted (a + counted b) ≡ counted (a + b)
counted-later a b = min-later a b (2 ^ 64 - 1)

-- once it was put and counted
abbrev pub after_put : SessionState → Core → Written → SessionState
after_put s core all = record s { core = core; messages = all.messages; call_frames = all.call_frames; answers = all.answers }

pub put-drained : (s : SessionState) (core : Core) (written all : Written) → Counts written (due_sendings s) → written.answers ≡ length (front_texts s.core.desk)
    → CountsOn (record { messages = s.messages; call_frames = s.call_frames; answers = s.answers }) written all → core ≡ drained s.core
    → after_put s core all ≡ drained_session s
put-drained s core written all counts answers on is =
    let messages : all.messages ≡ counted (s.messages + count_sendings (due_sendings s)) =
    on.messages ∙ ap (λ k. counted (s.messages + k)) counts.messages ∙ counted-later s.messages (count_sendings (due_sendings s)) in
    let call_frames : all.call_frames ≡ counted (s.call_frames + count_calls (due_sendings s)) =
    on.call_frames ∙ ap (λ k. counted (s.call_frames + k)) counts.call_frames ∙ counted-later s.call_frames (count_calls (due_sendings s)) in
    let answered : all.answers ≡ counted (s.answers + length (front_texts s.core.desk)) = on.answers ∙ ap (λ k. counted (s.answers + k)) answers in
    λ i. record s { core = is i; messages = messages i; call_frames = call_frames i; answers = answered i }

fails_else : (framing : Framing) (s after : SessionState) (before sink : Option (List ℕ)) (b : Bool) → b ≡ false → WritesSomeIn framing s after before sink → FailsToWriteIn framing b s after before sink
fails_else framing s after before sink true is some = cc
fails_else framing s after before sink false is some = some

pub some-written : (framing : Framing) (s after : SessionState) (before sink : Option (List ℕ)) → s.is_broken ≡ false → WritesSomeIn framing s after before sink → FailsToWriteIn framing s.is_broken s after before sink
some-written framing s after before sink is some = fails_else framing s after before sink s.is_broken is some

-- ---- what a sink takes

pub appends-nothing : (before : Option (List ℕ)) (bytes : List ℕ) → bytes ≡ [] → Appends before before bytes
appends-nothing None bytes none = tt
appends-nothing (Some xs) bytes none = sym (ap (λ l. xs ++ l) none ∙ append-nil xs)

pub appends-keeps : (before between after : Option (List ℕ)) (bytes : List ℕ) → Appends before between bytes → Keeps between after → Appends before after bytes
appends-keeps None between after bytes h kept = tt
appends-keeps (Some xs) None after bytes h kept = absurd h
appends-keeps (Some xs) (Some ys) None bytes h kept = kept
appends-keeps (Some xs) (Some ys) (Some zs) bytes h kept = kept ∙ h

pub appends-whole : (before between after : Option (List ℕ)) (bytes : List ℕ) → Appends before between bytes → Keeps between after → Appends before after (take (length bytes) bytes)
appends-whole before between after bytes h kept =
    subst (Appends before after) (sym (take_all (length bytes) bytes (omega arith))) (appends-keeps before between after bytes h kept)

-- ---- the sink's failures

pub still-broken : (before : ℕ) (b : Bool) → b ≡ true → before ≡ cond b before (min (before + 1) (2 ^ 64 - 1))
still-broken before true is = refl
still-broken before false is = cc

pub now-broken : (before : ℕ) (b : Bool) → b ≡ false → min (before + 1) (2 ^ 64 - 1) ≡ cond b before (min (before + 1) (2 ^ 64 - 1))
now-broken before true is = cc
now-broken before false is = refl

pub told-true : (before other : ℕ) (b : Bool) → b ≡ true → cond b before other ≡ before
told-true before other true is = refl
told-true before other false is = cc

pub told-false : (before other : ℕ) (b : Bool) → b ≡ false → cond b before other ≡ other
told-false before other true is = cc
told-false before other false is = refl

-- ---- nothing is due

pub no-bytes : (framing : Framing) (core : Core) → NothingDue core → due_in framing core ≡ []
no-bytes framing core none = ap (λ items. bytes_in framing items ++ flat_map (framed framing) (front_texts core.desk)) none.sendings ∙ ap (λ texts. flat_map (framed framing) texts) none.answers

counted-none : (a : ℕ) → a < 2 ^ 64 → a ≡ counted (a + 0)
counted-none a small = omega (arith, small)

pub drained-nothing : (s : SessionState) → NothingDue s.core → s.messages < 2 ^ 64 → s.call_frames < 2 ^ 64 → s.answers < 2 ^ 64 → s ≡ drained_session s
drained-nothing s none a b d =
    let core : s.core ≡ drained s.core = sym none.same in
    let messages : s.messages ≡ counted (s.messages + count_sendings (due_sendings s)) = counted-none s.messages a ∙ ap (λ items. counted (s.messages + count_sendings items)) (sym none.sendings) in
    let call_frames : s.call_frames ≡ counted (s.call_frames + count_calls (due_sendings s)) = counted-none s.call_frames b ∙ ap (λ items. counted (s.call_frames + count_calls items)) (sym none.sendings) in
    let answers : s.answers ≡ counted (s.answers + length (front_texts s.core.desk)) = counted-none s.answers d ∙ ap (λ texts. counted (s.answers + length texts)) (sym none.answers) in
    λ i. record s { core = core i; messages = messages i; call_frames = call_frames i; answers = answers i }
