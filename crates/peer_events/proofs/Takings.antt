-- The entries of a unit are passed, one after another.
use Rattle.std.proofs.Common.{◌≡◌, ℕ, ◌+◌, ◌≤◌, List, [], ◌∷◌, ◌++◌, length, Bool, true, false, cond, Option, Some, None, ltb, refl, sym, ap, subst, ◌∙◌, append_assoc, append-nil, arith}
use Rattle.std.proofs.lemmas.Bool.{ltb-true, ltb-false}
use Rattle.rpc_messages.specs.declared.call.Call.{Call}
use Rattle.message_ids.specs.declared.id.Id.{Id}
use Rattle.rpc_messages.specs.declared.reply.Reply.{Reply}
use Rattle.rpc_messages.specs.Entry.{SeenEntry, call, reply, stray, invalid}
use Rattle.rpc_messages.specs.Numbering.{numbers_in, units_numbers}
use Rattle.rpc_messages.specs.Replies.{entries_along}
use Rattle.rpc_messages.specs.Unit.{SeenUnit}
use Rattle.method_steps.specs.Steps.{MethodTable}
use Rattle.answer_desk.specs.State.{with_reply}
use Rattle.handler_future.specs.State.{HandlerState}
use Rattle.peer_output.specs.Cancelled.{Begins}
use Rattle.peer_output.specs.Events.{with_units}
use Rattle.peer_output.specs.Past.{Past, past_units, past_entries}
use Rattle.peer_events.specs.Core.{Core, with_desk}
use Rattle.peer_events.specs.Finishing.{fault_passed, Cancels}
use Rattle.peer_events.specs.Fits.{Fits, AtRest}
use Rattle.peer_events.specs.Passing.{Passes}
use Rattle.peer_events.specs.Taking.{opened, PassesEntry, PassesEntries, Takes}
use Rattle.peer_events.specs.Taking.PassesEntries.{none_left, next}
use Rattle.peer_events.specs.Inner.Known.{Known}
use Rattle.peer_events.proofs.Faults.{HasPassedFault, fault_passed-passes}
use Rattle.peer_events.proofs.Opened.{entries-same, opened-fits}
use Rattle.peer_events.proofs.Passed.{silent-fits, call-fits, early-fits, reply-fits}
use Rattle.peer_events.proofs.Passing.{PassesTo, passes-nothing, passes-on, same-units}
use Rattle.peer_events.proofs.Reaching.{cancel-passes}
use Rattle.peer_events.proofs.Streams.{numbers-front, numbers-push, numbers-along, reply-other}

-- ---- one entry

module _ (known : Known) (table : MethodTable) (passed : List SeenEntry) (jobs : ℕ → Option HandlerState) (s : Core) (past : Past)
    (fits : Fits table false passed s past jobs) where
  -- where it changes no stage, and marks nothing
  plain-passes : (e : SeenEntry) (after : Core) → after.stages ≡ s.stages → Fits table false (passed ++ e ∷ []) after past jobs
      → PassesTo table (passed ++ e ∷ []) s after past jobs
  plain-passes e after same now = record { later = past; fits = now; passes = passes-nothing s after past same }

  reply-passes : (m t : ℕ) (r : Reply) → Begins (passed ++ reply m t r ∷ []) (past_entries past) → (came : Bool) → ltb m (1 + numbers_in passed) ≡ came
      → PassesTo table (passed ++ reply m t r ∷ []) s (cond came (with_desk s (with_reply s.desk m t r)) s) past jobs
  reply-passes m t r more true is =
      plain-passes (reply m t r) (with_desk s (with_reply s.desk m t r)) refl
      (reply-fits known table passed s past jobs (reply m t r) fits more m t r refl (omega (arith, ltb-true m (1 + numbers_in passed) is)))
  reply-passes m t r more false is =
      plain-passes (reply m t r) s refl
      (early-fits known table passed s past jobs (reply m t r) fits more m t r refl (omega (arith, ltb-false m (1 + numbers_in passed) is)))

  -- a call, once its fault was passed
  module _ (c : Call) (between : Core) (fault : HasPassedFault table passed s between past jobs (1 + numbers_in passed))
      (more : Begins (passed ++ call c ∷ []) (past_entries past)) where
    more-later : Begins (passed ++ call c ∷ []) (past_entries fault.all.later)
    more-later = subst (Begins (passed ++ call c ∷ [])) (sym (ap entries_along (same-units s between past fault.all.later fault.all.passes))) more

    cancels-passes : (target : Option Id) → c.target ≡ target → (after : Core) → Cancels between (1 + numbers_in passed) target after
        → PassesTo table (passed ++ call c ∷ []) s after past jobs
    cancels-passes None is after same = subst (λ a. PassesTo table (passed ++ call c ∷ []) s a past jobs) (sym same) (record {
      later = fault.all.later;
      fits = call-fits known table passed between fault.all.later jobs (call c) fault.all.fits more-later c refl is fault.sound;
      passes = fault.all.passes;
    })
    cancels-passes (Some id) is after reaches =
        let told = cancel-passes known table passed c id is jobs between fault.all.later fault.all.fits more-later fault.sound after reaches in
        record { later = told.later; fits = told.fits; passes = passes-on s between after past fault.all.later told.later fault.all.passes told.passes }

  call-given : (c : Call) → Begins (passed ++ call c ∷ []) (past_entries past) → 1 + numbers_in passed ≤ units_numbers (past_units past)
  call-given c more =
      omega (arith, numbers-front (passed ++ call c ∷ []) (past_entries past) more, numbers-push passed (call c), numbers-along (past_units past))

  entry-passes_at : (e : SeenEntry) (after : Core) → Begins (passed ++ e ∷ []) (past_entries past) → PassesEntry s (1 + numbers_in passed) e after
      → PassesTo table (passed ++ e ∷ []) s after past jobs
  entry-passes_at (call c) after more passes =
      cancels-passes c (fault_passed s (1 + numbers_in passed)) (fault_passed-passes known table passed jobs s past fits (1 + numbers_in passed) (call-given c more)) more
      c.target refl after passes
  entry-passes_at (reply m t r) after more same =
      subst (λ a. PassesTo table (passed ++ reply m t r ∷ []) s a past jobs) (sym same) (reply-passes m t r more (ltb m (1 + numbers_in passed)) refl)
  entry-passes_at stray after more same =
      subst (λ a. PassesTo table (passed ++ stray ∷ []) s a past jobs) (sym same)
      (plain-passes stray s refl (silent-fits known table passed s past jobs stray fits more refl (λ id. refl) (λ n t. reply-other n t passed stray refl)))
  entry-passes_at invalid after more same =
      subst (λ a. PassesTo table (passed ++ invalid ∷ []) s a past jobs) (sym same)
      (plain-passes invalid s refl (silent-fits known table passed s past jobs invalid fits more refl (λ id. refl) (λ n t. reply-other n t passed invalid refl)))

  pub entry-passes : (n : ℕ) → n ≡ 1 + numbers_in passed → (e : SeenEntry) (after : Core) → Begins (passed ++ e ∷ []) (past_entries past) → PassesEntry s n e after
      → PassesTo table (passed ++ e ∷ []) s after past jobs
  entry-passes n is e after more passes = entry-passes_at e after more (subst (λ k. PassesEntry s k e after) is passes)

-- ---- all of them

module _ (known : Known) (table : MethodTable) (jobs : ℕ → Option HandlerState) where
  on-passed : (passed : List SeenEntry) (e : SeenEntry) (es : List SeenEntry) (s between after : Core) (past : Past) (p : PassesTo table (passed ++ e ∷ []) s between past jobs)
      → PassesTo table ((passed ++ e ∷ []) ++ es) between after p.later jobs → PassesTo table (passed ++ e ∷ es) s after past jobs
  on-passed passed e es s between after past p q = record {
    later = q.later;
    fits = subst (λ l. Fits table false l after q.later jobs) (append_assoc passed (e ∷ []) es) q.fits;
    passes = passes-on s between after past p.later q.later p.passes q.passes;
  }

  pub entries-pass : {s after : Core} {n : ℕ} {es : List SeenEntry} → PassesEntries s n es after → (passed : List SeenEntry) (past : Past) → n ≡ 1 + numbers_in passed
      → past_entries past ≡ passed ++ es → Fits table false passed s past jobs → PassesTo table (passed ++ es) s after past jobs
  entries-pass (none_left {s} {n}) passed past is all fits = record {
    later = past;
    fits = subst (λ l. Fits table false l s past jobs) (sym (append-nil passed)) fits;
    passes = passes-nothing s s past refl;
  }
  entries-pass (next {s} {between} {after} {n} {e} {es} passes more) passed past is all fits =
      let here = entry-passes known table passed jobs s past fits n is e between (record { rest = es; joined = all ∙ sym (append_assoc passed (e ∷ []) es) }) passes in
      on-passed passed e es s between after past here
      (entries-pass more (passed ++ e ∷ []) here.later (omega (arith, is, numbers-push passed e))
      (ap entries_along (same-units s between past here.later here.passes) ∙ all ∙ sym (append_assoc passed (e ∷ []) es))
      here.fits)

-- ---- the whole

pub record IsTaken (table : MethodTable) (s after : Core) (past : Past) (u : SeenUnit) (jobs : ℕ → Option HandlerState) : Type 0 where
  pub later : Past
  pub rest : AtRest table false after later jobs
  pub passes : Passes (opened table s u) after (with_units past (u ∷ [])) later

pub taken-rests : Known → (table : MethodTable) (s after : Core) (past : Past) (u : SeenUnit) (jobs : ℕ → Option HandlerState) → AtRest table false s past jobs
    → Takes table s u after → IsTaken table s after past u jobs
taken-rests known table s after past u jobs rest takes =
    let same = entries-same known table s past jobs rest u in
    let first : length s.stages ≡ 1 + numbers_in (past_entries past) = omega (arith, rest.stages, numbers-along (past_units past)) in
    let taken = entries-pass known table jobs takes (past_entries past) (with_units past (u ∷ [])) first same (opened-fits known table s past jobs rest u) in
    record {
      later = taken.later;
      rest = subst (λ l. Fits table false l after taken.later jobs)
          (sym (ap entries_along (same-units (opened table s u) after (with_units past (u ∷ [])) taken.later taken.passes) ∙ same)) taken.fits;
      passes = taken.passes;
    }
