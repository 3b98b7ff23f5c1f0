-- A call that is a unit by itself.
use Rattle.std.proofs.Common.{◌≡◌, ℕ, ◌+◌, ◌<◌, ◌≤◌, ◌^◌, nat_le, false, cond, List, [], ◌∷◌, ◌++◌, length, Option, Some, None, ap, ◌∙◌, arith, append-nil}
use Rattle.std.proofs.lemmas.Bool.{leb-true, false_from_ne_true}
use Rattle.std.proofs.lemmas.List.Elements.{filter-append}
use Rattle.std.specs.Prelude.{is_some}
use Rattle.message_ids.specs.declared.id.Id.{Id}
use Rattle.connection_messages.specs.declared.call.Call.{Call}
use Rattle.connection_messages.specs.declared.entry.Entry.TheVariants.{Call as call_entry}
use Rattle.connection_messages.specs.declared.unit.Unit.{Unit}
use Rattle.connection_messages.specs.declared.unit.Unit.TheVariants.{Single}
use Rattle.connection_history.specs.declared.order.Order.{Order}
use Rattle.connection_history.specs.Counts.{capped}
use Rattle.open_calls.specs.Numbered.{up_to}
use Rattle.owed_answers.specs.Owed.{OwedUnit, OwedState}
use Rattle.connection_steps.specs.States.{State, owed_slots}
use Rattle.connection_steps.specs.Steps.{answers_of, leaving, new_call_slots, owed_with}
use Rattle.connection_steps.specs.Tallies.{tally_in}
use Rattle.connection_desk.specs.declared.tally.Tally.{Tally}
use Rattle.connection_desk.specs.Desks.{with_counts}
use Rattle.connection_desk.specs.Inner.{with_call}
use Rattle.connection_desk.proofs.Counting.{IsFew, tally, none_more}
use Rattle.connection_desk.proofs.Owing.{lacking-stays}

abbrev pub lone : Call → Unit
lone call = Single (call_entry call)

-- that it never came
pub taken_back : {X : Type 0} (n : ℕ) (x : X) (calls : List (ℕ × X)) → up_to n calls ≡ calls → up_to n (calls ++ (n + 1, x) ∷ []) ≡ calls
taken_back n x calls is =
    filter-append (λ e. nat_le e.0 n) calls ((n + 1, x) ∷ []) ∙ ap (λ fs. fs ++ up_to n ((n + 1, x) ∷ [])) is
    ∙ ap (λ b. calls ++ cond b ((n + 1, x) ∷ []) []) (false_from_ne_true (nat_le (n + 1) n) (λ le. let less : n + 1 ≤ n = leb-true (n + 1) n le in omega arith)) ∙ append-nil calls

-- what is owed then, and that nothing goes out
pub owed_lone : (call : Call) (s : OwedState) → owed_with (lone call) s ≡ s.owed ++ owed_slots s.places false (new_call_slots call.id)
owed_lone call s = ap (λ slots. s.owed ++ owed_slots s.places false slots) (append-nil (new_call_slots call.id))

pub stays_owed : (order : Order) (id : Option Id) (place : ℕ) (owed : List (ℕ × OwedUnit)) → leaving order owed ≡ []
    → leaving order (owed ++ owed_slots place false (new_call_slots id)) ≡ []
stays_owed order None place owed none = ap (leaving order) (append-nil owed) ∙ none
stays_owed order (Some id) place owed none = lacking-stays order place (record { is_batch = false; slots = None ∷ [] }) owed none (omega arith)

pub none_leaves : (order : Order) (call : Call) (s : OwedState) → leaving order s.owed ≡ [] → leaving order (owed_with (lone call) s) ≡ []
none_leaves order call s none = ap (leaving order) (owed_lone call s) ∙ stays_owed order call.id s.places s.owed none

-- what is counted
counts_with : (call : Call) (id : Option Id) (t : Tally) → IsFew t → t.unreadable < 2 ^ 64 → t.answers < 2 ^ 64
    → tally (capped (t.requests + length (cond (is_some id) (call ∷ []) []))) (capped (t.answers + 0)) (capped (t.unreadable + 0)) (capped (t.invalid + 0)) (capped (t.ignored + 0)) ≡ with_call id t
counts_with call None t few readable answered =
    λ i. tally (none_more t.requests few.requests i) (none_more t.answers answered i) (none_more t.unreadable readable i) (none_more t.invalid few.invalid i) (none_more t.ignored few.ignored i)
counts_with call (Some id) t few readable answered =
    λ i. tally (capped (t.requests + 1)) (none_more t.answers answered i) (none_more t.unreadable readable i) (none_more t.invalid few.invalid i) (none_more t.ignored few.ignored i)

pub counts_lone : (order : Order) (call : Call) (s : State) (t : Tally) → leaving order s.owed.owed ≡ [] → IsFew t → t.unreadable < 2 ^ 64 → t.answers < 2 ^ 64
    → with_counts (tally_in order (lone call) s) t ≡ with_call call.id t
counts_lone order call s t none few readable answered =
    ap (λ gone. let r : Tally = tally (capped (t.requests + length (cond (is_some call.id) (call ∷ []) []))) (capped (t.answers + length (answers_of gone))) (capped (t.unreadable + 0)) (capped (t.invalid + 0)) (capped (t.ignored + 0)) in r)
    (none_leaves order call s.owed none)
    ∙ counts_with call call.id t few readable answered
