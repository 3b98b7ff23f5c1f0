-- What a session at rest has left nothing to do of: cancels of handlers that are here, and calls at fault.
use Rattle.std.proofs.Common.{◌≡◌, ◌≢◌, ℕ, ◌<◌, ◌≤◌, length, Bool, true, false, Option, inl, inr, sym, ap, subst, ◌∙◌, arith}
use Rattle.message_ids.specs.declared.standard.Standard.{Standard}
use Rattle.rpc_messages.specs.Numbering.{numbers_in, units_numbers}
use Rattle.method_steps.specs.Steps.{MethodTable}
use Rattle.answer_desk.specs.State.{number_at}
use Rattle.open_numbers.specs.OpenCalls.{is_marked_number}
use Rattle.handler_future.specs.State.{HandlerState}
use Rattle.peer_events.specs.declared.stage.Stage.{Stage}
use Rattle.peer_events.specs.declared.stage.Stage.TheVariants.{Gone, Faulty, Idle}
use Rattle.peer_output.specs.Cancelled.{is_cancelled}
use Rattle.peer_output.specs.Items.{sent_by}
use Rattle.peer_output.specs.Past.{Past, past_units, past_entries}
use Rattle.peer_events.specs.Core.{Core, stage_at}
use Rattle.peer_events.specs.Fits.{NumberFits, AtRest}
use Rattle.peer_events.specs.Passing.{EndsByCancel, PassesNumber, Passes}
use Rattle.peer_events.proofs.Pointwise.{stage-within}
use Rattle.peer_events.proofs.Streams.{numbers-along}

module _ (table : MethodTable) (is_over : Bool) (s : Core) (past : Past) (jobs : ℕ → Option HandlerState) (rest : AtRest table is_over s past jobs) (n : ℕ) where
  -- how a number with a stage fits
  fits-stage : (stage : Stage) → stage_at s n ≡ stage → stage ≢ Gone
      → NumberFits table is_over (past_entries past) (past_entries past) n stage (number_at s.desk n) (jobs n) (past.sends n) (sent_by n past.items) (past.took n)
  fits-stage stage was some =
      let below : n < length s.stages = stage-within s.stages n (λ gone. some (sym was ∙ gone)) in
      let given : n ≤ units_numbers (past_units past) = omega (arith, below, rest.stages) in
      subst (λ st. NumberFits table is_over (past_entries past) (past_entries past) n st (number_at s.desk n) (jobs n) (past.sends n) (sent_by n past.items) (past.took n)) was
      (rest.each n given)

  pub here-uncancelled : (h : HandlerState) (so_far : ℕ) → stage_at s n ≡ Idle h so_far → is_cancelled (past_entries past) n ≡ false
  here-uncancelled h so_far was =
      let f = fits-stage (Idle h so_far) was (λ gone. cc) in
      sym f.0.fits.mark ∙ ap is_marked_number (sym f.0.is_open) ∙ f.2

  pub no-fault : (error : Standard) → stage_at s n ≢ Faulty error
  no-fault error was =
      let below : n < length s.stages = stage-within s.stages n (λ gone. (let clash : Faulty error ≡ Gone = sym was ∙ gone in cc)) in
      let behind : numbers_in (past_entries past) < n = (fits-stage (Faulty error) was (λ gone. cc)).5 in
      absurd (omega (arith, below, behind, rest.stages, numbers-along (past_units past)))

-- ---- the law of cancels

not_both : (b : Bool) → b ≡ true → b ≡ false → ⊥
not_both true is other = cc
not_both false is other = cc

module _ (table : MethodTable) (s after : Core) (past later : Past) (jobs : ℕ → Option HandlerState) (n : ℕ) (h : HandlerState) (so_far : ℕ)
    (rest : AtRest table false after later jobs) (was : stage_at s n ≡ Idle h so_far) (reached : is_cancelled (past_entries later) n ≡ true) where
  by_number : PassesNumber s after past later n → EndsByCancel s past later n
  by_number (inl stays) = absurd (not_both (is_cancelled (past_entries later) n) reached (here-uncancelled table false after later jobs rest n h so_far (stays.stage ∙ was)))
  by_number (inr (inl fault)) = absurd (let clash : Faulty fault.error ≡ Idle h so_far = sym fault.was ∙ was in cc)
  by_number (inr (inr cancel)) = cancel

  pub here-ends : Passes s after past later → EndsByCancel s past later n
  here-ends passes = by_number (passes.numbers n)
