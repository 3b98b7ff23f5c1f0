-- What carries a number from one place of the stream to another, where it isn't finished by the way.
use Rattle.std.proofs.Common.{◌≡◌, ℕ, ◌<◌, List, Bool, false, Option, Some, None, inl, inr, refl, ◌∙◌}
use Rattle.message_ids.specs.declared.standard.Standard.{Standard}
use Rattle.rpc_messages.specs.Entry.{SeenEntry}
use Rattle.rpc_messages.specs.Numbering.{numbers_in}
use Rattle.rpc_messages.specs.Replies.{reply_to}
use Rattle.method_steps.specs.Steps.{MethodTable}
use Rattle.open_numbers.specs.declared.open_call.OpenCall.{OpenCall}
use Rattle.open_numbers.specs.declared.replies.Slot.{Slot}
use Rattle.open_numbers.specs.declared.replies.Slot.TheVariants.{Empty, Held, Given}
use Rattle.open_numbers.specs.OpenCalls.{is_marked_number}
use Rattle.handler_future.specs.Front.{Heard}
use Rattle.handler_future.specs.State.{HandlerState}
use Rattle.peer_events.specs.declared.stage.Stage.{Stage}
use Rattle.peer_events.specs.declared.stage.Stage.TheVariants.{Gone, Faulty, Idle, Out, Over, Failed}
use Rattle.peer_output.specs.Work.{work}
use Rattle.peer_output.specs.Course.{Sending, Course}
use Rattle.peer_output.specs.Later.{IsHeardFrom}
use Rattle.peer_events.specs.Fits.{SlotFits, OpenFits, RunFits, IsGone, NumberFits}

-- from these entries, and those of them that were passed, and what the desk keeps, to those
pub record Carries (table : MethodTable) (is_over : Bool) (entries passed entries' passed' : List SeenEntry) (n : ℕ) (stage : Stage) (desk desk' : Option OpenCall) : Type 0 where
  pub works : work table entries' n ≡ work table entries n
  pub closed : desk ≡ None → desk' ≡ None
  pub behind : (error : Standard) → stage ≡ Faulty error → numbers_in passed < n → numbers_in passed' < n
  pub faulty : (error : Standard) → stage ≡ Faulty error → numbers_in passed < n → (kept : OpenCall) → desk ≡ Some kept → is_marked_number desk ≡ false
      → ((kept' : OpenCall) × (desk' ≡ Some kept') × (is_marked_number desk' ≡ false))
  pub unmarked : is_marked_number desk ≡ false → is_marked_number desk' ≡ false
  pub heard : (heard : Heard) → IsHeardFrom is_over passed n heard → IsHeardFrom is_over passed' n heard
  pub keeps : (h : HandlerState) (kept : OpenCall) → desk ≡ Some kept → OpenFits entries passed n h kept
      → ((kept' : OpenCall) × (desk' ≡ Some kept') × OpenFits entries' passed' n h kept')

module _ (table : MethodTable) (is_over : Bool) (entries passed entries' passed' : List SeenEntry) (n : ℕ) (desk desk' : Option OpenCall) where
  gone-carried : (took : Option Course) → work table entries' n ≡ work table entries n → IsGone table entries n took → IsGone table entries' n took
  gone-carried took works (inl over) = inl over
  gone-carried took works (inr none) = inr (works ∙ none.0, none.1)

  run-carried : (stage : Stage) (h : HandlerState) (sends : List Sending) (took : Option Course) → Carries table is_over entries passed entries' passed' n stage desk desk'
      → RunFits table is_over entries passed n h desk sends took → RunFits table is_over entries' passed' n h desk' sends took
  run-carried stage h sends took c r =
      let keeps = c.keeps h r.kept r.is_open r.fits in
      record {
        number = r.number;
        works = c.works ∙ r.works;
        heard = c.heard h.heard r.heard;
        sends_are = r.sends_are;
        unfinished = r.unfinished;
        kept = keeps.0;
        is_open = keeps.1;
        fits = keeps.2;
      }

  pub carried : (stage : Stage) (job : Option HandlerState) (sends written : List Sending) (took : Option Course) → Carries table is_over entries passed entries' passed' n stage desk desk'
      → NumberFits table is_over entries passed n stage desk job sends written took → NumberFits table is_over entries' passed' n stage desk' job sends written took
  carried Gone job sends written took c f = (c.closed f.0, f.1, f.2, gone-carried took c.works f.3)
  carried (Faulty error) job sends written took c f =
      (c.faulty error refl f.5 f.0.0 f.0.1 f.0.2, f.1, f.2, f.3, c.works ∙ f.4, c.behind error refl f.5)
  carried (Idle h so_far) job sends written took c f = (run-carried (Idle h so_far) h sends took c f.0, f.1, c.unmarked f.2, f.3, f.4, f.5)
  carried (Out so_far) job sends written took c f = (f.0, f.1, f.2, run-carried (Out so_far) f.0 sends took c f.3, f.4, f.5)
  carried (Over h so_far) job sends written took c f = (c.closed f.0, f.1, f.2, f.3, f.4)
  carried Failed job sends written took c f = f

-- a slot where the entries that come have no reply for it
pub slot-carried : (passed passed' : List SeenEntry) (n turn : ℕ) (h : HandlerState) (slot : Slot) → reply_to n turn passed' ≡ reply_to n turn passed
    → SlotFits passed n h turn slot → SlotFits passed' n h turn slot
slot-carried passed passed' n turn h Empty same f = (same ∙ f.0, f.1)
slot-carried passed passed' n turn h (Held reply) same f = (same ∙ f.0, f.1)
slot-carried passed passed' n turn h Given same f = f
