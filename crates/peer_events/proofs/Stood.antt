-- What stands after units goes on to stand, event by event.
use Rattle.std.proofs.Common.{◌≡◌, ◌≢◌, ℕ, List, [], ◌∷◌, ◌++◌, map, ◌==◌, Bool, true, false, cond, Option, Some, None, refl, sym, ap, subst, ◌∙◌, append_assoc}
use Rattle.std.specs.Cmp.{unsigned_Decides}
use Rattle.rpc_messages.specs.Dues.{Due}
use Rattle.rpc_messages.specs.Unit.{SeenUnit}
use Rattle.method_steps.specs.Steps.{MethodTable}
use Rattle.answer_desk.specs.State.{front_texts}
use Rattle.handler_future.specs.State.{HandlerState, IsPoll}
use Rattle.handler_future.specs.declared.outcome.Outcome.{Outcome}
use Rattle.peer_events.specs.declared.stage.Stage.TheVariants.{Gone, Failed}
use Rattle.peer_output.specs.Events.{with_at, with_units}
use Rattle.peer_output.specs.Items.{Item, answered, bytes_of}
use Rattle.peer_output.specs.Later.{MayBecome}
use Rattle.peer_output.specs.Output.{IsOutput, IsPartialOutput}
use Rattle.peer_output.specs.Past.{past_units}
use Rattle.peer_events.specs.Core.{Core, stage_at, unwritten_from}
use Rattle.peer_events.specs.Stands.{StandsAfter}
use Rattle.peer_events.specs.Taking.{opened, Takes}
use Rattle.peer_events.specs.Turning.{start, Leaves, ready, returned, closed, due_bytes, drained}
use Rattle.peer_events.specs.Inner.Known.{Known}
use Rattle.peer_events.proofs.Done.{done-output, drained-gone, drained-none}
use Rattle.peer_events.proofs.Drained.{drained-rest, items-bytes}
use Rattle.peer_events.proofs.Leaving.{closed-rest, leaves-rest, idle_fits}
use Rattle.peer_events.proofs.Returned.{any-back}
use Rattle.peer_events.proofs.Passing.{same-units}
use Rattle.peer_events.proofs.Pointwise.{at-here}
use Rattle.peer_events.proofs.Started.{start-at_rest}
use Rattle.peer_events.proofs.Takings.{taken-rests}

module _ (known : Known) (table : MethodTable) where
  pub start-stands : StandsAfter table false (start table) (λ n. None) [] []
  start-stands = record { past = _; rests = start-at_rest known table; units_are = refl; items_are = refl }

  pub taken-stands : (s after : Core) (jobs : ℕ → Option HandlerState) (units : List SeenUnit) (items : List Item) (unit : SeenUnit) → StandsAfter table false s jobs units items
      → Takes table s unit after → StandsAfter table false after jobs (units ++ unit ∷ []) items
  taken-stands s after jobs units items unit stands takes =
      let taken = taken-rests known table s after stands.past unit jobs stands.rests takes in
      record {
        past = taken.later;
        rests = taken.rest;
        units_are = same-units (opened table s unit) after (with_units stands.past (unit ∷ [])) taken.later taken.passes
            ∙ sym (append_assoc stands.past.released stands.past.left (unit ∷ [])) ∙ ap (λ us. us ++ unit ∷ []) stands.units_are;
        items_are = taken.passes.items ∙ stands.items_are;
      }

  pub closed-stands : (s : Core) (jobs : ℕ → Option HandlerState) (units : List SeenUnit) (items : List Item) → StandsAfter table false s jobs units items
      → StandsAfter table true (closed s) jobs units items
  closed-stands s jobs units items stands = record {
    past = stands.past;
    rests = closed-rest known table s stands.past jobs stands.rests;
    units_are = stands.units_are;
    items_are = stands.items_are;
  }

  module _ (is_over : Bool) (s : Core) (jobs : ℕ → Option HandlerState) (units : List SeenUnit) (items : List Item) (stands : StandsAfter table is_over s jobs units items) where
    pub leaves-stands : (after : Core) (n : ℕ) (job : HandlerState) → Leaves s n job after → StandsAfter table is_over after (with_at n (Some job) jobs) units items
    leaves-stands after n job leaves = record {
      past = stands.past;
      rests = (leaves-rest known table is_over s after stands.past jobs n job stands.rests leaves).0;
      units_are = stands.units_are;
      items_are = stands.items_are;
    }

    pub back-stands : (n : ℕ) (job turned : HandlerState) (outcome : Option Outcome) → jobs n ≡ Some job → IsPoll job turned outcome
        → StandsAfter table is_over (returned s turned outcome) (with_at n None jobs) units items
    back-stands n job turned outcome is_out polled =
        let back = any-back known table is_over s stands.past jobs n job turned outcome stands.rests is_out polled in
        record {
          past = back.0;
          rests = back.1;
          units_are = back.2 ∙ stands.units_are;
          items_are = back.3 ∙ stands.items_are;
        }

    pub drained-stands : (dues : List Due) × StandsAfter table is_over (drained s) jobs units (items ++ unwritten_from 0 s.stages ++ map answered dues)
        × (map (λ (due : Due). due.text) dues ≡ front_texts s.desk)
        × (bytes_of (items ++ unwritten_from 0 s.stages ++ map answered dues) ≡ bytes_of items ++ due_bytes s)
    drained-stands =
        let drain = drained-rest known table is_over s stands.past jobs stands.rests in (
          drain.1,
          record {
            past = drain.0;
            rests = drain.2;
            units_are = drain.3 ∙ stands.units_are;
            items_are = drain.5 ∙ ap (λ l. l ++ unwritten_from 0 s.stages ++ map answered drain.1) stands.items_are;
          },
          drain.4,
          items-bytes s items (items ++ unwritten_from 0 s.stages ++ map answered drain.1) drain.1 drain.4 refl,
        )

    pub partial-stands : (later : List SeenUnit) → MayBecome is_over units later → IsPartialOutput table later items
    partial-stands later becomes =
        subst (IsPartialOutput table later) stands.items_are
        (known.is_partial table is_over stands.past later stands.rests.past_is (subst (λ us. MayBecome is_over us later) (sym stands.units_are) becomes))

  pub output-stands : (s : Core) (jobs : ℕ → Option HandlerState) (units : List SeenUnit) (items : List Item) → StandsAfter table true s jobs units items
      → ((n : ℕ) → stage_at s n ≡ Gone) → s.desk.units ≡ [] → IsOutput table units items
  output-stands s jobs units items stands gone none =
      subst (λ us. IsOutput table us items) stands.units_are
      (subst (IsOutput table (past_units stands.past)) stands.items_are
      (done-output known table s stands.past jobs stands.rests gone none))

  pub stuck-stands : (s : Core) (jobs : ℕ → Option HandlerState) (units : List SeenUnit) (items : List Item) → StandsAfter table true s jobs units items
      → ready s ≡ [] → ((n : ℕ) → jobs n ≡ None) → ((n : ℕ) → stage_at s n ≢ Failed)
      → ((n : ℕ) → stage_at (drained s) n ≡ Gone) × ((drained s).desk.units ≡ [])
  stuck-stands s jobs units items stands none_ready none_out none_failed = (
    drained-gone table s stands.past jobs stands.rests none_ready none_out none_failed,
    drained-none table s stands.past jobs stands.rests none_ready none_out none_failed,
  )

-- ---- a whole turn

job_gone : (is : Bool) (job o : Option HandlerState) → (is ≡ true → o ≡ None) → cond is None (cond is job o) ≡ o
job_gone true job o none = sym (none refl)
job_gone false job o none = refl

-- what was out before is out after
pub jobs-again : (n : ℕ) (job : HandlerState) (jobs : ℕ → Option HandlerState) → jobs n ≡ None → with_at n None (with_at n (Some job) jobs) ≡ jobs
jobs-again n job jobs none = λ i k. job_gone (n == k) (Some job) (jobs k) (λ is. subst (λ m. jobs m ≡ None) ((unsigned_Decides n k).0 is) none) i

pub turn-stands : (known : Known) (table : MethodTable) (is_over : Bool) (s between : Core) (jobs : ℕ → Option HandlerState) (units : List SeenUnit) (items : List Item) (n : ℕ)
    (job turned : HandlerState) (outcome : Option Outcome) → StandsAfter table is_over s jobs units items → Leaves s n job between → IsPoll job turned outcome
    → StandsAfter table is_over (returned between turned outcome) jobs units items
turn-stands known table is_over s between jobs units items n job turned outcome stands leaves polled =
    let out = leaves-stands known table is_over s jobs units items stands between n job leaves in
    let fits = idle_fits known table is_over s stands.past jobs n leaves.handler leaves.so_far stands.rests leaves.stage in
    subst (λ js. StandsAfter table is_over (returned between turned outcome) js units items) (jobs-again n job jobs fits.3)
    (back-stands known table is_over between (with_at n (Some job) jobs) units items out n job turned outcome (at-here n (Some job) jobs) polled)
