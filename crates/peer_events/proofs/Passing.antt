-- What becomes of numbers over one entry, and over several.
use Rattle.std.proofs.Common.{◌≡◌, ℕ, List, ◌++◌, map, Option, Some, None, false, inl, inr, refl, sym, ap, subst, ◌∙◌}
use Rattle.rpc_messages.specs.declared.reply.Reply.TheVariants.{Standard as Fixed}
use Rattle.message_ids.specs.declared.standard.Standard.TheVariants.{Cancelled}
use Rattle.rpc_messages.specs.Entry.{SeenEntry}
use Rattle.rpc_messages.specs.Replies.{entries_along}
use Rattle.method_steps.specs.Steps.{MethodTable}
use Rattle.handler_future.specs.State.{HandlerState}
use Rattle.peer_output.specs.Course.{Sending, withdrawal, Course, silent}
use Rattle.peer_output.specs.Cancelled.{Begins}
use Rattle.peer_output.specs.Past.{Past, past_units, past_entries}
use Rattle.peer_events.specs.Core.{Core, stage_at}
use Rattle.peer_events.specs.Fits.{Fits}
use Rattle.peer_events.specs.Passing.{unanswered, StaysAsItWas, IsFinishedWith, EndsByFault, EndsByCancel, PassesNumber, Passes}

-- what becomes of a session as entries are passed
pub record PassesTo (table : MethodTable) (passed : List SeenEntry) (s after : Core) (past : Past) (jobs : ℕ → Option HandlerState) : Type 0 where
  pub later : Past
  pub fits : Fits table false passed after later jobs
  pub passes : Passes s after past later

-- ---- nothing happens to numbers

pub passes-nothing : (s after : Core) (past : Past) → after.stages ≡ s.stages → Passes s after past past
passes-nothing s after past same = record {
  released = refl;
  left = refl;
  items = refl;
  numbers = λ n. inl (record { stage = ap (λ stages. stage_at (record { desk = s.desk; stages = stages }) n) same; sends = refl; took = refl });
}

-- ---- one after another

not_both : (o : Option Course) (c : Course) → o ≡ Some c → o ≡ None → ⊥
not_both None c is none = cc
not_both (Some d) c is none = cc

module _ (s between after : Core) (past then_past later : Past) (n : ℕ) where
  finished-stays : (c : Course) → IsFinishedWith past then_past n c → StaysAsItWas between after then_past later n → IsFinishedWith past later n c
  finished-stays c f b = record { unfinished = f.unfinished; took = b.took ∙ f.took; sends = b.sends ∙ f.sends }

  stays-finished : (c d : Course) → c ≡ d → StaysAsItWas s between past then_past n → IsFinishedWith then_past later n c → IsFinishedWith past later n d
  stays-finished c d same a f = record { unfinished = sym a.took ∙ f.unfinished; took = f.took ∙ ap Some same; sends = f.sends ∙ ap (λ (e : Course). e.sends) same }

  stays-cancelled : past_entries then_past ≡ past_entries past → StaysAsItWas s between past then_past n → EndsByCancel between then_past later n → EndsByCancel s past later n
  stays-cancelled same a f = record {
    handler = f.handler;
    so_far = f.so_far;
    was = sym a.stage ∙ f.was;
    passed = f.passed;
    begins = subst (Begins f.passed) same f.begins;
    reached = f.reached;
    ends = stays-finished (record { sends = then_past.sends n ++ map withdrawal (unanswered f.passed n f.handler.waits); answer = Fixed Cancelled }) (record { sends = past.sends n ++ map withdrawal (unanswered f.passed n f.handler.waits); answer = Fixed Cancelled })
        (ap (λ (l : List Sending). record { sends = l ++ map withdrawal (unanswered f.passed n f.handler.waits); answer = Fixed Cancelled }) a.sends) a f.ends;
  }

  stays-faulty : StaysAsItWas s between past then_past n → EndsByFault between then_past later n → EndsByFault s past later n
  stays-faulty a f = record { error = f.error; was = sym a.stage ∙ f.was; ends = stays-finished (silent (Fixed f.error)) (silent (Fixed f.error)) refl a f.ends }

  number-on : past_entries then_past ≡ past_entries past → PassesNumber s between past then_past n → PassesNumber between after then_past later n → PassesNumber s after past later n
  number-on same (inl a) (inl b) = inl (record { stage = b.stage ∙ a.stage; sends = b.sends ∙ a.sends; took = b.took ∙ a.took })
  number-on same (inl a) (inr (inl b)) = inr (inl (stays-faulty a b))
  number-on same (inl a) (inr (inr b)) = inr (inr (stays-cancelled same a b))
  number-on same (inr (inl a)) (inl b) = inr (inl (record { error = a.error; was = a.was; ends = finished-stays (silent (Fixed a.error)) a.ends b }))
  number-on same (inr (inl a)) (inr (inl b)) = absurd (not_both (then_past.took n) (silent (Fixed a.error)) a.ends.took b.ends.unfinished)
  number-on same (inr (inl a)) (inr (inr b)) = absurd (not_both (then_past.took n) (silent (Fixed a.error)) a.ends.took b.ends.unfinished)
  number-on same (inr (inr a)) (inl b) = inr (inr (record {
    handler = a.handler;
    so_far = a.so_far;
    was = a.was;
    passed = a.passed;
    begins = a.begins;
    reached = a.reached;
    ends = finished-stays (record { sends = past.sends n ++ map withdrawal (unanswered a.passed n a.handler.waits); answer = Fixed Cancelled }) a.ends b;
  }))
  number-on same (inr (inr a)) (inr (inl b)) =
      absurd (not_both (then_past.took n) (record { sends = past.sends n ++ map withdrawal (unanswered a.passed n a.handler.waits); answer = Fixed Cancelled }) a.ends.took b.ends.unfinished)
  number-on same (inr (inr a)) (inr (inr b)) =
      absurd (not_both (then_past.took n) (record { sends = past.sends n ++ map withdrawal (unanswered a.passed n a.handler.waits); answer = Fixed Cancelled }) a.ends.took b.ends.unfinished)

pub same-units : (s after : Core) (past later : Past) → Passes s after past later → past_units later ≡ past_units past
same-units s after past later p = λ i. p.released i ++ p.left i

pub passes-on : (s between after : Core) (past then_past later : Past) → Passes s between past then_past → Passes between after then_past later → Passes s after past later
passes-on s between after past then_past later p q = record {
  released = q.released ∙ p.released;
  left = q.left ∙ p.left;
  items = q.items ∙ p.items;
  numbers = λ n. number-on s between after past then_past later n (ap entries_along (same-units s between past then_past p)) (p.numbers n) (q.numbers n);
}
