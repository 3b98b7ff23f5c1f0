-- A call at fault is finished as its entry is passed.
use Rattle.std.proofs.Common.{◌≡◌, ◌≢◌, ℕ, ◌+◌, ◌≤◌, List, [], false, Option, Some, None, ◌⊎◌, inl, inr, refl, sym, subst, ◌∙◌, arith}
use Rattle.std.proofs.lemmas.Bool.{cases_eq}
use Rattle.std.proofs.lemmas.List.{length-set}
use Rattle.rpc_messages.specs.declared.reply.Reply.TheVariants.{Standard as Fixed}
use Rattle.message_ids.specs.declared.standard.Standard.{Standard}
use Rattle.rpc_messages.specs.Entry.{SeenEntry}
use Rattle.rpc_messages.specs.Numbering.{units_numbers}
use Rattle.method_steps.specs.Steps.{MethodTable}
use Rattle.answer_desk.specs.State.{number_at, with_end}
use Rattle.handler_future.specs.State.{HandlerState}
use Rattle.peer_events.specs.declared.stage.Stage.{Stage}
use Rattle.peer_events.specs.declared.stage.Stage.TheVariants.{Gone, Faulty, Idle, Out, Over, Failed}
use Rattle.peer_output.specs.Cancelled.{Begins}
use Rattle.peer_output.specs.Course.{silent}
use Rattle.peer_output.specs.Events.{with_at, with_course}
use Rattle.peer_output.specs.Items.{sent_by}
use Rattle.peer_output.specs.Past.{Past, past_units, past_entries}
use Rattle.peer_events.specs.Core.{Core, stage_at}
use Rattle.peer_events.specs.Finishing.{fault_at, fault_passed}
use Rattle.peer_events.specs.Fits.{NumberFits, Fits}
use Rattle.peer_events.specs.Passing.{EndsByFault, PassesNumber}
use Rattle.peer_events.specs.Inner.Known.{Known}
use Rattle.peer_events.proofs.Beside.{Beside, FitsAt, fits-beside, beside-fits, beside-changed, same-fits}
use Rattle.peer_events.proofs.Pointwise.{at-here, at-elsewhere, stage-elsewhere, stage-gone, next-ended, units-ended}
use Rattle.peer_events.proofs.Streams.{begins-nothing, begins-itself, numbers-along}
use Rattle.peer_events.proofs.Passing.{PassesTo, passes-nothing}

-- what becomes of it, and that the number isn't at fault
pub record HasPassedFault (table : MethodTable) (passed : List SeenEntry) (s after : Core) (past : Past) (jobs : ℕ → Option HandlerState) (n : ℕ) : Type 0 where
  pub all : PassesTo table passed s after past jobs
  pub sound : (error : Standard) → stage_at after n ≢ Faulty error

module _ (known : Known) (table : MethodTable) (passed : List SeenEntry) (jobs : ℕ → Option HandlerState) (s : Core) (past : Past)
    (fits : Fits table false passed s past jobs) (n : ℕ) (given : n ≤ units_numbers (past_units past)) where
  module _ (error : Standard) (was : stage_at s n ≡ Faulty error)
      (f : NumberFits table false (past_entries past) passed n (Faulty error) (number_at s.desk n) (jobs n) (past.sends n) (sent_by n past.items) (past.took n)) where
    later : Past
    later = with_course past n (silent (Fixed error))

    fault-beside : Beside table false (λ k. passed) (fault_at s n (Faulty error)) (with_course past n (silent (Fixed error))) jobs n
    fault-beside = beside-changed table false (λ k. passed) s (fault_at s n (Faulty error)) past (with_at n [] past.sends) (with_at n (Some (silent (Fixed error))) past.took) jobs jobs n
        (fits-beside table false passed s past jobs n fits given)
        (known.finishes table false past n (silent (Fixed error)) fits.past_is given f.3 (subst (λ l. Begins l []) (sym f.2) (begins-itself []))
        (known.fault_finishes table false (past_entries past) n error (omega (arith, given, numbers-along (past_units past))) f.4))
        refl
        (units-ended known past.took (1 + units_numbers past.released) s.desk past.left n (silent (Fixed error)) fits.units)
        (next-ended s.desk n (Fixed error))
        (length-set s.stages n Gone)
        (λ k apart. stage-elsewhere s.stages n k Gone apart)
        (λ k apart. known.ended_elsewhere s.desk n k (Fixed error) apart)
        (λ k apart. refl)
        (λ k apart. at-elsewhere n [] past.sends k apart)
        (λ k apart. at-elsewhere n (Some (silent (Fixed error))) past.took k apart)

    fault-here : FitsAt table false passed (fault_at s n (Faulty error)) (with_course past n (silent (Fixed error))) jobs n
    fault-here =
        same-fits table false (past_entries past) passed n Gone (stage_at (fault_at s n (Faulty error)) n) None (number_at (with_end s.desk n (Fixed error)) n) None (jobs n)
        [] (with_at n [] past.sends n) [] (sent_by n past.items) (Some (silent (Fixed error))) (with_at n (Some (silent (Fixed error))) past.took n)
        (stage-gone s.stages n) (known.ended_here s.desk n (Fixed error)) f.1 (at-here n [] past.sends)
        (begins-nothing (sent_by n past.items) (subst (Begins (sent_by n past.items)) f.2 (fits.past_is.written n))) (at-here n (Some (silent (Fixed error))) past.took)
        (refl, refl, refl, inl (silent (Fixed error), refl))

    fault-ends : EndsByFault s past (with_course past n (silent (Fixed error))) n
    fault-ends = record {
      error = error;
      was = was;
      ends = record { unfinished = f.3; took = at-here n (Some (silent (Fixed error))) past.took; sends = at-here n [] past.sends };
    }

    fault-number : (k : ℕ) → (k ≡ n) ⊎ (k ≡ n → ⊥) → PassesNumber s (fault_at s n (Faulty error)) past (with_course past n (silent (Fixed error))) k
    fault-number k (inl same) = inr (inl (subst (EndsByFault s past (with_course past n (silent (Fixed error)))) (sym same) fault-ends))
    fault-number k (inr apart) = inl (record {
      stage = stage-elsewhere s.stages n k Gone apart;
      sends = at-elsewhere n [] past.sends k apart;
      took = at-elsewhere n (Some (silent (Fixed error))) past.took k apart;
    })

    gone-sound : (st : Stage) → st ≡ Gone → (other : Standard) → st ≢ Faulty other
    gone-sound st gone other is = cc

    fault-passes : HasPassedFault table passed s (fault_at s n (Faulty error)) past jobs n
    fault-passes = record {
      all = record {
        later = with_course past n (silent (Fixed error));
        fits = beside-fits table false passed (fault_at s n (Faulty error)) (with_course past n (silent (Fixed error))) jobs n fault-beside fault-here;
        passes = record { released = refl; left = refl; items = refl; numbers = λ k. fault-number k (cases_eq k n) };
      };
      sound = gone-sound (stage_at (fault_at s n (Faulty error)) n) (stage-gone s.stages n);
    }

  -- one that isn't at fault
  sound-passes : ((error : Standard) → stage_at s n ≢ Faulty error) → HasPassedFault table passed s s past jobs n
  sound-passes sound = record { all = record { later = past; fits = fits; passes = passes-nothing s s past refl }; sound = sound }

  other-sound : (stage : Stage) → stage_at s n ≡ stage → ((error : Standard) → stage ≢ Faulty error) → (error : Standard) → stage_at s n ≢ Faulty error
  other-sound stage was other error is = other error (sym was ∙ is)

  passes-by_stage : (stage : Stage) → stage_at s n ≡ stage
      → NumberFits table false (past_entries past) passed n stage (number_at s.desk n) (jobs n) (past.sends n) (sent_by n past.items) (past.took n)
      → HasPassedFault table passed s (fault_at s n stage) past jobs n
  passes-by_stage Gone was f = sound-passes (other-sound Gone was (λ error is. cc))
  passes-by_stage (Faulty error) was f = fault-passes error was f
  passes-by_stage (Idle h so_far) was f = sound-passes (other-sound (Idle h so_far) was (λ error is. cc))
  passes-by_stage (Out so_far) was f = sound-passes (other-sound (Out so_far) was (λ error is. cc))
  passes-by_stage (Over h so_far) was f = sound-passes (other-sound (Over h so_far) was (λ error is. cc))
  passes-by_stage Failed was f = sound-passes (other-sound Failed was (λ error is. cc))

  pub fault_passed-passes : HasPassedFault table passed s (fault_passed s n) past jobs n
  fault_passed-passes = passes-by_stage (stage_at s n) refl (fits.each n given)
