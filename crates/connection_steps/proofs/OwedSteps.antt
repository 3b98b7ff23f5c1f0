-- What is owed after one more thing happened, and what is written then.
use Rattle.std.proofs.Common.{◌≡◌, ℕ, suc, ◌+◌, ◌≤◌, List, [], ◌∷◌, ◌++◌, map, length, refl, sym, ap, subst, ◌∙◌, length-append, append-nil, arith}
use Rattle.std.proofs.lemmas.List.{map-id}
use Rattle.std.specs.List.{flat_map}
use Rattle.std.specs.Prelude.{None, Option, Some, option_map}
use Rattle.message_ids.specs.declared.id.Id.{Id}
use Rattle.connection_messages.specs.declared.entry.Entry.{Entry}
use Rattle.connection_messages.specs.declared.entry.Entry.TheVariants.{Call, Cancel, Reply, Stray, Invalid}
use Rattle.connection_messages.specs.declared.unit.Unit.{Unit}
use Rattle.connection_messages.specs.declared.unit.Unit.TheVariants.{Unreadable, Single, Batch}
use Rattle.connection_history.specs.declared.order.Order.{Order}
use Rattle.connection_history.specs.Stream.{entries_in, entries_along, call_in, calls_in}
use Rattle.connection_history.specs.History.{Happening, came, History, units_of, answer_to, Origin}
use Rattle.connection_history.specs.Items.{out, newly_out, answers_at}
use Rattle.connection_history.specs.Refusals.{IsLawful}
use Rattle.connection_history.specs.Answers.{dues}
use Rattle.connection_history.proofs.Dues.{DuesStay, dues-stay}
use Rattle.connection_history.proofs.Histories.{answer_to-came}
use Rattle.connection_history.proofs.Lawful.{unknown_unanswered}
use Rattle.connection_history.proofs.Streams.{length-calls_in-append}
use Rattle.owed_answers.specs.Owed.{OwedState, OwedUnit}
use Rattle.connection_steps.specs.States.{given_text, call_slots, entry_slots, slots_along, unit_slots, is_batch, owed_slots, owed_of}
use Rattle.connection_steps.specs.Steps.{new_call_slots, new_slots, new_unit_slots, leaving, staying, answers_of, owed_with}
use Rattle.connection_steps.proofs.OwedSlots.{Slots, unit_with}
use Rattle.connection_steps.proofs.OwedRows.{with_slots, all_units, placed, dues_of, dues-slots, state_with, owed-slots, answers-slots}
use Rattle.connection_steps.proofs.OwedSame.{units-same}
use Rattle.connection_steps.proofs.OwedChanges.{IsChange, changed, change, placed-change, staying-change, leaving-change}
use Rattle.connection_messages.specs.declared.cancels.Cancels.{Cancels}

pub length-with_slots : (history : History) (n : ℕ) (us : List Unit) → length (with_slots history n us) ≡ length us
length-with_slots history n [] = refl
length-with_slots history n (u ∷ us) = ap (λ k. suc k) (length-with_slots history (n + length (calls_in (entries_in u))) us)

-- ---- slots change, and units come

abbrev pub Moves : History → Happening → (ℕ → Slots → Slots) → List OwedUnit → Type 0
Moves past h f more = all_units (h ∷ past) ≡ changed f 0 (all_units past) ++ more

still-owed : (order : Order) (past : History) → staying order (placed 0 (all_units past)) ≡ (owed_of order past).owed
still-owed order past = sym (ap (λ (s : OwedState). s.owed) (owed-slots order past))

all-placed : (past : History) → 0 + length (all_units past) ≡ length (units_of past)
all-placed past = omega (arith, length-with_slots past 1 (units_of past))

module _ (order : Order) (past : History) (h : Happening) (f : ℕ → Slots → Slots) (later : IsChange f) (more : List OwedUnit) (moves : Moves past h f more) where
  -- what stays
  pub moved-owed : staying order (placed 0 (all_units (h ∷ past))) ≡ staying order (map (change f) (owed_of order past).owed ++ placed (length (units_of past)) more)
  moved-owed =
      ap (λ ws. staying order (placed 0 ws)) moves
      ∙ ap (staying order) (placed-change f later 0 (length (units_of past)) (all_units past) more (all-placed past))
      ∙ staying-change f later order (placed 0 (all_units past)) (placed (length (units_of past)) more)
      ∙ ap (λ es. staying order (map (change f) es ++ placed (length (units_of past)) more)) (still-owed order past)

  -- what is settled stays
  still-due : DuesStay (dues_of (all_units past)) (dues_of (changed f 0 (all_units past) ++ more))
  still-due =
      subst (λ ds. DuesStay ds (dues_of (changed f 0 (all_units past) ++ more))) (dues-slots past 1 (units_of past))
      (subst (λ ds. DuesStay (dues past) ds) (dues-slots (h ∷ past) 1 (units_of (h ∷ past)) ∙ ap dues_of moves) (dues-stay past h))

  -- what leaves
  pub moved-answers : answers_at order past h ≡ answers_of (leaving order (map (change f) (owed_of order past).owed ++ placed (length (units_of past)) more))
  moved-answers =
      answers-slots order past h
      ∙ ap (λ ws. newly_out 0 (out order (dues_of (all_units past))) (out order (dues_of ws))) moves
      ∙ leaving-change f later order 0 (length (units_of past)) (all_units past) more (all-placed past) still-due
      ∙ ap (λ es. answers_of (leaving order (map (change f) es ++ placed (length (units_of past)) more))) (still-owed order past)

-- ---- a unit comes

-- from this number on, no call is answered
abbrev NoneFrom : ℕ → History → Type 0
NoneFrom n history = (k : ℕ) → n ≤ k → answer_to k history ≡ None

module _ (history : History) where
  call-new : (n : ℕ) (id : Option Id) → NoneFrom n history → call_slots history n id ≡ new_call_slots id
  call-new n None none = refl
  call-new n (Some id) none = ap (λ o. option_map (given_text id) o ∷ []) (none n (omega arith))

  entry-new : (n : ℕ) (e : Entry) → NoneFrom n history → entry_slots history n e ≡ new_slots e
  entry-new n (Call c) none = call-new n c.id none
  entry-new n (Cancel id) none = refl
  entry-new n (Reply k r) none = refl
  entry-new n Stray none = refl
  entry-new n Invalid none = refl

  entries-new : (n : ℕ) (es : List Entry) → NoneFrom n history → slots_along history n es ≡ flat_map new_slots es
  entries-new n [] none = refl
  entries-new n (e ∷ es) none = λ i. entry-new n e none i ++ entries-new (n + length (call_in e)) es (λ k from. none k (omega arith)) i

  unit-new : (n : ℕ) (u : Unit) → NoneFrom n history → unit_slots history n u ≡ new_unit_slots u
  unit-new n Unreadable none = refl
  unit-new n (Single e) none = entries-new n (e ∷ []) none
  unit-new n (Batch es) none = entries-new n es none

  units-push : (n : ℕ) (us : List Unit) (u : Unit)
      → with_slots history n (us ++ u ∷ []) ≡ with_slots history n us ++ unit_with (is_batch u) (unit_slots history (n + length (calls_in (entries_along us))) u) ∷ []
  units-push n [] u = let here : n ≡ n + 0 = omega arith in ap (λ k. unit_with (is_batch u) (unit_slots history k u) ∷ []) here
  units-push n (v ∷ us) u =
      let on : n + length (calls_in (entries_in v)) + length (calls_in (entries_along us)) ≡ n + length (calls_in (entries_in v ++ entries_along us)) =
      omega (arith, length-calls_in-append (entries_in v) (entries_along us)) in
      ap (λ ws. unit_with (is_batch v) (unit_slots history n v) ∷ ws)
      (units-push (n + length (calls_in (entries_in v))) us u
      ∙ ap (λ k. with_slots history (n + length (calls_in (entries_in v))) us ++ unit_with (is_batch u) (unit_slots history k u) ∷ []) on)

abbrev new_unit : Unit → OwedUnit
new_unit u = unit_with (is_batch u) (new_unit_slots u)

came-units : (cancels : Option Cancels) (past : History) (from : Option Origin) (u : Unit) → IsLawful cancels past → all_units (came from u ∷ past) ≡ all_units past ++ new_unit u ∷ []
came-units cancels past from u lawful =
    units-push (came from u ∷ past) 1 (units_of past) u
    ∙ (λ i. units-same (came from u ∷ past) past 1 (units_of past) (λ k least. answer_to-came k past from u) i
    ++ unit_with (is_batch u)
    (unit-new (came from u ∷ past) (1 + length (calls_in (entries_along (units_of past)))) u
    (λ k least. answer_to-came k past from u ∙ unknown_unanswered cancels k past lawful (omega arith)) i)
    ∷ [])

abbrev same_slots : ℕ → Slots → Slots
same_slots place ss = ss

same-later : IsChange same_slots
same-later place [] = refl
same-later place (s ∷ ss) = (tt, λ given. given)

same-units : (place : ℕ) (ws : List OwedUnit) → changed same_slots place ws ≡ ws
same-units place [] = refl
same-units place (w ∷ ws) = ap (λ l. w ∷ l) (same-units (place + 1) ws)

came-moves : (cancels : Option Cancels) (past : History) (from : Option Origin) (u : Unit) → IsLawful cancels past → Moves past (came from u) same_slots (new_unit u ∷ [])
came-moves cancels past from u lawful = came-units cancels past from u lawful ∙ ap (λ ws. ws ++ new_unit u ∷ []) (sym (same-units 0 (all_units past)))

came-list : (order : Order) (past : History) (u : Unit) → map (change same_slots) (owed_of order past).owed ++ placed (length (units_of past)) (new_unit u ∷ []) ≡ owed_with u (owed_of order past)
came-list order past u =
    λ i. map-id (owed_of order past).owed i ++ append-nil (owed_slots (length (units_of past)) (is_batch u) (new_unit_slots u)) i

-- it is owed its answers, and those that can go out do
pub came-owed : (cancels : Option Cancels) (order : Order) (past : History) (from : Option Origin) (u : Unit) → IsLawful cancels past
    → owed_of order (came from u ∷ past) ≡ state_with (length (units_of past) + 1) (staying order (owed_with u (owed_of order past)))
came-owed cancels order past from u lawful =
    owed-slots order (came from u ∷ past)
    ∙ (λ i. state_with (length-append (units_of past) (u ∷ []) i)
    ((moved-owed order past (came from u) same_slots same-later (new_unit u ∷ []) (came-moves cancels past from u lawful) ∙ ap (staying order) (came-list order past u)) i))

pub came-answers : (cancels : Option Cancels) (order : Order) (past : History) (from : Option Origin) (u : Unit) → IsLawful cancels past
    → answers_at order past (came from u) ≡ answers_of (leaving order (owed_with u (owed_of order past)))
came-answers cancels order past from u lawful =
    moved-answers order past (came from u) same_slots same-later (new_unit u ∷ []) (came-moves cancels past from u lawful)
    ∙ ap (λ es. answers_of (leaving order es)) (came-list order past u)
