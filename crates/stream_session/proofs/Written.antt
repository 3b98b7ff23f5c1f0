-- What a session has written: more by a drain, a part of it by one that fails, and an output once all is done.
use Rattle.std.proofs.Common.{arith, ◌≡◌, ◌≢◌, ℕ, List, [], ◌++◌, take, drop, true, false, Option, Some, None, is_some, refl, sym, ap, subst, ◌∙◌, append_assoc}
use Rattle.std.specs.Io.KnownBytes.{Appends}
use Rattle.std.proofs.lemmas.List.{take-append-drop}
use Rattle.rpc_messages.specs.Unit.{SeenUnit}
use Rattle.method_steps.specs.Steps.{MethodTable}
use Rattle.handler_future.specs.State.{HandlerState}
use Rattle.peer_session.specs.declared.limits.Limits.{Limits}
use Rattle.peer_session.specs.declared.report.Close.{Close}
use Rattle.peer_session.specs.Events.{WritesIn, WritesSomeIn}
use Rattle.peer_session.specs.Framings.{bytes_in, due_in}
use Rattle.stream_framing.specs.declared.framing.Framing.{Framing}
use Rattle.peer_session.specs.SessionState.{SessionState, IsDone, new_session, report_of, counted, count_numbers}
use Rattle.peer_output.specs.Cancelled.{Begins}
use Rattle.peer_output.specs.Items.{Item, count_calls}
use Rattle.peer_output.specs.Later.{MayBecome}
use Rattle.peer_output.specs.Output.{IsPartialOutput}
use Rattle.peer_events.specs.Core.{Core, stage_at}
use Rattle.peer_events.specs.Polls.{PollsWithin}
use Rattle.peer_events.specs.Stands.{StandsAfter}
use Rattle.peer_events.specs.Turning.{drained, ready}
use Rattle.stream_session.specs.Inner.Known.{Known}
use Rattle.stream_session.specs.Standing.{SessionStands, HasDrained, IsWhole}
use Rattle.stream_session.proofs.Draining.{appends_both, all_items, drained-bytes, stands-drained, serves-drained}
use Rattle.stream_session.proofs.Failing.{ready-drained}
use Rattle.stream_session.proofs.Unfailing.{start-not}
use Rattle.stream_session.proofs.Units.{numbers-taken}

-- ---- before the first content

pub starts : (laws : Known) (table : MethodTable) (limits : Limits) → SessionStands table limits [] [] (new_session table limits) (λ n. None)
starts laws table limits = record {
  table_is = refl;
  limits_are = refl;
  stands = laws.start_stands table;
  messages = refl;
  call_frames = refl;
  answers = refl;
  unbroken = refl;
  failed = λ still. start-not table;
  polls = 0;
  polls_are = refl;
  polls_fit = λ still. laws.start_polls table;
}

over-some : (close : Option Close) → close ≢ None → is_some close ≡ true
over-some None some = absurd (some refl)
over-some (Some close) some = refl

module _ (laws : Known) (table : MethodTable) (limits : Limits) (units : List SeenUnit) (items : List Item) (s : SessionState) (jobs : ℕ → Option HandlerState)
    (had : SessionStands table limits units items s jobs) where
  pub partial : (later : List SeenUnit) → MayBecome (is_some s.close) units later → IsPartialOutput table later items
  partial later becomes = laws.is_partial table (is_some s.close) s.core jobs units later items had.stands becomes

  -- ---- a drain

  abbrev pub now_items : List Item
  now_items = all_items laws table limits units items s jobs had

  now-bytes : (framing : Framing) → bytes_in framing now_items ≡ bytes_in framing items ++ due_in framing s.core
  now-bytes framing = drained-bytes laws table limits units items s jobs had framing

  module _ (framing : Framing) (before at sink : Option (List ℕ)) (wrote : Appends before at (bytes_in framing items)) (after : SessionState) where
    pub drains : WritesIn framing s after at sink → (all : List Item) × SessionStands table limits units all after jobs × Appends before sink (bytes_in framing all) × HasDrained table after jobs
    drains writes = (
      now_items,
      subst (λ x. SessionStands table limits units now_items x jobs) (sym writes.after_is)
          (serves-drained laws table limits units items s jobs had writes.not_failed),
      subst (Appends before sink) (sym (now-bytes framing)) (appends_both before at sink (bytes_in framing items) (due_in framing s.core) wrote writes.bytes),
      subst (λ x. HasDrained table x jobs) (sym writes.after_is) (record {
        core = s.core;
        units = units;
        items = items;
        out = jobs;
        out_are = λ n. refl;
        stands = had.stands;
        core_is = refl;
        well = writes.not_failed;
        none_failed = had.failed writes.not_failed;
      }),
    )

    pub begins-to-drain : (later : List SeenUnit) → WritesSomeIn framing s after at sink → MayBecome (is_some s.close) units later
        → (all : List Item) × (bytes : List ℕ) × IsPartialOutput table later all × Begins bytes (bytes_in framing all) × Appends before sink bytes
    begins-to-drain later some becomes = (
      now_items,
      bytes_in framing items ++ take some.count (due_in framing s.core),
      laws.is_partial table (is_some s.close) (drained s.core) jobs units later now_items (stands-drained laws table limits units items s jobs had).1 becomes,
      record {
        rest = drop some.count (due_in framing s.core);
        joined = now-bytes framing ∙ ap (λ l. bytes_in framing items ++ l) (sym (take-append-drop some.count (due_in framing s.core)))
            ∙ sym (append_assoc (bytes_in framing items) (take some.count (due_in framing s.core)) (drop some.count (due_in framing s.core)));
      },
      appends_both before at sink (bytes_in framing items) (take some.count (due_in framing s.core)) wrote some.bytes,
    )

  -- ---- all is done

  within-counted : (numbers call_frames polls : ℕ) → PollsWithin table numbers call_frames polls → PollsWithin table numbers (counted call_frames) (counted polls)
  within-counted numbers call_frames polls within = record { least = omega (arith, within.least); most = omega (arith, within.most) }

  few : IsDone s → s.has_failed ≡ false → PollsWithin table (count_numbers s) s.call_frames s.polls
  few done well =
      subst (λ k. PollsWithin table (count_numbers s) k s.polls) (sym had.call_frames)
      (subst (PollsWithin table (count_numbers s) (counted (count_calls items))) (sym had.polls_are)
      (within-counted (count_numbers s) (count_calls items) had.polls
      (laws.done_polls table s.core jobs items had.polls (had.polls_fit well) done.gone)))

  pub whole : IsDone s → IsWhole table units items (report_of s)
  whole done =
      let stands : StandsAfter table true s.core jobs units items = subst (λ b. StandsAfter table b s.core jobs units items) (over-some s.close done.over) had.stands in
      record {
        allowed = laws.is_whole table s.core jobs units items stands done.gone done.answered;
        numbers = numbers-taken table true s.core jobs units items stands;
        messages = had.messages;
        call_frames = had.call_frames;
        answers = had.answers;
        polls = few done done.not_failed;
      }

-- ---- what a drain leaves, with no job ready or out

module _ (laws : Known) (table : MethodTable) (s : SessionState) (jobs : ℕ → Option HandlerState) (had : HasDrained table s jobs) where
  pub done : ready s.core ≡ [] → ((n : ℕ) → jobs n ≡ None) → s.close ≢ None → s.is_broken ≡ false → IsDone s
  done none_ready none_out over unbroken =
      let stands : StandsAfter table true had.core had.out had.units had.items =
      subst (λ b. StandsAfter table b had.core had.out had.units had.items) (over-some s.close over) had.stands in
      let none : ready had.core ≡ [] = sym (ready-drained had.core) ∙ ap ready (sym had.core_is) ∙ none_ready in
      let all = laws.is_drained table had.core had.out had.units had.items stands none (λ n. had.out_are n ∙ none_out n) had.none_failed in
      record {
        over = over;
        not_broken = unbroken;
        not_failed = had.well;
        gone = λ n. ap (λ (c : Core). stage_at c n) had.core_is ∙ all.0 n;
        answered = ap (λ (c : Core). c.desk.units) had.core_is ∙ all.1;
      }
