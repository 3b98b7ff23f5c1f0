-- Jobs go out and come back, and the session goes on to stand.
use Rattle.std.proofs.Common.{◌≡◌, ℕ, ◌+◌, ◌-◌, ◌^◌, min, List, Bool, true, false, ltb, Option, Some, None, is_some, refl, sym, ap, subst, ◌∙◌, arith}
use Rattle.std.proofs.lemmas.Bool.{ltb-true, ltb-false}
use Rattle.method_steps.specs.Steps.{MethodTable}
use Rattle.rpc_messages.specs.Numbering.{units_numbers}
use Rattle.rpc_messages.specs.Unit.{SeenUnit}
use Rattle.answer_desk.specs.State.{number_at}
use Rattle.handler_future.specs.State.{HandlerState}
use Rattle.peer_session.specs.declared.limits.Limits.{Limits}
use Rattle.peer_session.specs.declared.job.Job.{Job}
use Rattle.peer_session.specs.Events.{LeavesAt, picked, with_job_back, is_failure}
use Rattle.peer_session.specs.SessionState.{SessionState, counted}
use Rattle.peer_session.specs.Turned.{Turned}
use Rattle.peer_output.specs.Events.{with_at}
use Rattle.peer_output.specs.Items.{Item, sent_by}
use Rattle.peer_output.specs.Past.{past_units, past_entries}
use Rattle.peer_events.specs.Core.{Core}
use Rattle.peer_events.specs.Fits.{NumberFits}
use Rattle.peer_events.specs.Stands.{StandsAfter}
use Rattle.peer_events.specs.Turning.{Leaves}
use Rattle.stream_session.specs.Inner.Known.{Known}
use Rattle.stream_session.specs.Standing.{SessionStands}
use Rattle.stream_session.proofs.Draining.{counted-more}
use Rattle.stream_session.proofs.Failing.{leaves-not, back-not, or_first, or_second, well-not}

-- a job that was turned once since it went out
one-turn : (before after : ℕ) → before ≡ 0 → after ≡ min (before + 1) (2 ^ 64 - 1) → after ≡ 1
one-turn before after none is = omega arith

module _ (table : MethodTable) (is_over : Bool) (s : Core) (jobs : ℕ → Option HandlerState) (units : List SeenUnit) (items : List Item)
    (stands : StandsAfter table is_over s jobs units items) (n : ℕ) (job : HandlerState) (after : Core) (leaves : Leaves s n job after) where
  not-out-by : (b : Bool) → ltb (units_numbers (past_units stands.past)) n ≡ b → jobs n ≡ None
  not-out-by true is = stands.rests.no_more_jobs n (ltb-true (units_numbers (past_units stands.past)) n is)
  not-out-by false is =
      let fits = subst (λ stage. NumberFits table is_over (past_entries stands.past) (past_entries stands.past) n stage (number_at s.desk n) (jobs n)
      (stands.past.sends n) (sent_by n stands.past.items) (stands.past.took n)) leaves.stage
      (stands.rests.each n (ltb-false (units_numbers (past_units stands.past)) n is)) in fits.3

  -- A handler that goes out wasn't out before.
  pub not-out : jobs n ≡ None
  not-out = not-out-by (ltb (units_numbers (past_units stands.past)) n) refl

module _ (laws : Known) (table : MethodTable) (limits : Limits) (units : List SeenUnit) (items : List Item) (s : SessionState) (jobs : ℕ → Option HandlerState)
    (had : SessionStands table limits units items s jobs) where
  pub job-back : (n : ℕ) (job turned : Job) → jobs n ≡ Some job.handler → job.polls ≡ 0 → Turned job turned
      → SessionStands table limits units items (with_job_back s turned.handler turned.outcome turned.polls) (with_at n None jobs)
  job-back n job turned out unpolled turns = record {
    table_is = had.table_is;
    limits_are = had.limits_are;
    stands = laws.back_stands table (is_some s.close) s.core jobs units items n job.handler turned.handler turned.outcome had.stands out turns.poll;
    messages = had.messages;
    call_frames = had.call_frames;
    answers = had.answers;
    unbroken = had.unbroken;
    failed = back-not s.core turned.handler turned.outcome s.has_failed had.failed;
    polls = had.polls + 1;
    polls_are = ap (λ k. counted (s.polls + k)) (one-turn job.polls turned.polls unpolled turns.polls) ∙ ap (λ k. counted (k + 1)) had.polls_are
        ∙ counted-more had.polls 1;
    polls_fit = λ still.
        laws.back_polls table (is_some s.close) s.core jobs units items n job.handler turned.handler turned.outcome had.polls
        had.stands out turns.poll (well-not turned.outcome (or_second s.has_failed (is_failure turned.outcome) still))
        (had.polls_fit (or_first s.has_failed (is_failure turned.outcome) still));
  }

  module _ (pick : ℕ) (job : HandlerState) (after : SessionState) (leaves : LeavesAt s pick (Some job) after) where
    pub none-yet : jobs (picked s.core pick) ≡ None
    none-yet = not-out table (is_some s.close) s.core jobs units items had.stands (picked s.core pick) job leaves.1.0 leaves.1.1

    pub job-out : SessionStands table limits units items after (with_at (picked s.core pick) (Some job) jobs)
    job-out = subst (λ x. SessionStands table limits units items x (with_at (picked s.core pick) (Some job) jobs)) (sym leaves.1.2) (record {
      table_is = had.table_is;
      limits_are = had.limits_are;
      stands = laws.leave_stands table (is_some s.close) s.core leaves.1.0 jobs units items (picked s.core pick) job had.stands leaves.1.1;
      messages = had.messages;
      call_frames = had.call_frames;
      answers = had.answers;
      unbroken = had.unbroken;
      failed = λ still. leaves-not s.core leaves.1.0 (picked s.core pick) job leaves.1.1 (had.failed still);
      polls = had.polls;
      polls_are = had.polls_are;
      polls_fit = λ still. laws.leave_polls table s.core leaves.1.0 jobs items (picked s.core pick) job had.polls leaves.1.1 (had.polls_fit still);
    })
