-- What a number that is cancelled withdraws: the calls that it waits for and to which no reply has come.
use Rattle.std.proofs.Common.{◌≡◌, ℕ, ◌≤◌, List, [], ◌∷◌, filter, All, Bool, false, cond, not, Option, Some, is_some, inl, inr, refl, sym, ap, subst, ◌∙◌, arith}
use Rattle.std.proofs.lemmas.List.Elements.{All-head, All-tail}
use Rattle.std.specs.Option.{option_and_then}
use Rattle.rpc_messages.specs.Entry.{SeenEntry}
use Rattle.rpc_messages.specs.Replies.{reply_to}
use Rattle.method_templates.specs.Steps.{calls_of}
use Rattle.method_steps.specs.Steps.{MethodTable}
use Rattle.open_numbers.specs.declared.open_call.OpenCall.{OpenCall}
use Rattle.open_numbers.specs.declared.replies.Slot.{Slot}
use Rattle.open_numbers.specs.declared.replies.Slot.TheVariants.{Empty, Held, Given}
use Rattle.open_numbers.specs.Replies.{slot_at, given_by}
use Rattle.answer_desk.specs.State.{State, number_at, slot_of}
use Rattle.handler_future.specs.Front.{is_heard, last_turns}
use Rattle.handler_future.specs.State.{HandlerState}
use Rattle.peer_output.specs.Course.{Sending, Course}
use Rattle.peer_events.specs.Hearing.{hear_waits}
use Rattle.peer_events.specs.Fits.{SlotFits, RunFits, IsAtRest}
use Rattle.peer_events.specs.Passing.{unanswered}
use Rattle.peer_events.specs.Inner.Known.{Known}
use Rattle.peer_events.proofs.Waits.{has_reply, waits-left, slot_there, unheard-all}

given_if : (passed : List SeenEntry) (n : ℕ) (h : HandlerState) (turn : ℕ) (slot : Slot) → SlotFits passed n h turn slot → is_heard h.heard turn ≡ false
    → is_some (given_by false (Some slot)) ≡ is_some (reply_to n turn passed)
given_if passed n h turn Empty fits unheard_yet = ap is_some (sym fits.0)
given_if passed n h turn (Held r) fits unheard_yet = ap is_some (sym fits.0)
given_if passed n h turn Given fits unheard_yet = cc

kept_if : (x : ℕ) (xs ys : List ℕ) (a b : Bool) → a ≡ b → xs ≡ ys → cond (not a) (x ∷ xs) xs ≡ cond (not b) (x ∷ ys) ys
kept_if x xs ys a b same rest = ap (λ c. cond (not c) (x ∷ xs) xs) same ∙ ap (λ l. cond (not b) (x ∷ l) l) rest

module _ (table : MethodTable) (entries passed : List SeenEntry) (n : ℕ) (h : HandlerState) (desk : State) (sends : List Sending) (took : Option Course)
    (fits : RunFits table false entries passed n h (number_at desk n) sends took) (goes_on : desk.is_closed ≡ false) where
  same_reply : (turn : ℕ) → is_heard h.heard turn ≡ false → 1 ≤ turn → turn ≤ calls_of h.program.steps → has_reply desk h.number turn ≡ is_some (reply_to n turn passed)
  same_reply turn unheard_yet low high =
      let turns = fits.fits.turns in
      let slot = slot_there fits.kept.replies turn low (omega arith) in
      ap (λ b. is_some (given_by b (slot_of desk h.number turn))) goes_on
      ∙ ap (λ m. is_some (given_by false (slot_of desk m turn))) fits.number
      ∙ ap (λ o. is_some (given_by false (option_and_then (λ (m : OpenCall). slot_at m.replies turn) o))) fits.is_open
      ∙ ap (λ o. is_some (given_by false o)) slot.1
      ∙ given_if passed n h turn slot.0 (fits.fits.slots turn slot.0 slot.1) unheard_yet

  same_waits : (xs : List ℕ) → All (λ t. is_heard h.heard t ≡ false) xs → All (λ t. (1 ≤ t) × (t ≤ calls_of h.program.steps)) xs
      → filter (λ u. not (has_reply desk h.number u)) xs ≡ unanswered passed n xs
  same_waits [] unheard_yet within = refl
  same_waits (x ∷ xs) unheard_yet within =
      let low = All-head (λ t. (1 ≤ t) × (t ≤ calls_of h.program.steps)) x xs within in
      kept_if x (filter (λ u. not (has_reply desk h.number u)) xs) (unanswered passed n xs) (has_reply desk h.number x) (is_some (reply_to n x passed))
      (same_reply x (All-head (λ t. is_heard h.heard t ≡ false) x xs unheard_yet) low.0 low.1)
      (same_waits xs (All-tail (λ t. is_heard h.heard t ≡ false) x xs unheard_yet) (All-tail (λ t. (1 ≤ t) × (t ≤ calls_of h.program.steps)) x xs within))

  at_rest : IsAtRest h → filter (λ u. not (has_reply desk h.number u)) h.waits ≡ unanswered passed n h.waits
  at_rest (inl fresh) =
      ap (λ (g : HandlerState). filter (λ u. not (has_reply desk h.number u)) g.waits) fresh.1 ∙ sym (ap (λ (g : HandlerState). unanswered passed n g.waits) fresh.1)
  at_rest (inr waiting) = same_waits h.waits (subst (All (λ t. is_heard h.heard t ≡ false)) (sym waiting.waits) (unheard-all h.heard (last_turns h.messages))) waiting.within

pub waits-unanswered : Known → (table : MethodTable) (entries passed : List SeenEntry) (n : ℕ) (h : HandlerState) (desk : State) (sends : List Sending) (took : Option Course)
    → desk.is_closed ≡ false → RunFits table false entries passed n h (number_at desk n) sends took → IsAtRest h → (hear_waits desk h).handler.waits ≡ unanswered passed n h.waits
waits-unanswered known table entries passed n h desk sends took goes_on fits rest = waits-left known desk h ∙ at_rest table entries passed n h desk sends took fits goes_on rest
