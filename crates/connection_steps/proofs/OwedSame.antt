-- What changes no slot changes nothing that is owed.
use Rattle.std.proofs.Common.{◌≡◌, ℕ, ◌+◌, ◌≤◌, List, [], ◌∷◌, ◌++◌, length, Option, Some, None, refl, sym, ap, ◌∙◌, append-nil, arith}
use Rattle.std.specs.Prelude.{option_map}
use Rattle.message_ids.specs.declared.id.Id.{Id}
use Rattle.connection_messages.specs.declared.entry.Entry.{Entry}
use Rattle.connection_messages.specs.declared.entry.Entry.TheVariants.{Call, Cancel, Reply, Stray, Invalid}
use Rattle.connection_messages.specs.declared.unit.Unit.{Unit}
use Rattle.connection_messages.specs.declared.unit.Unit.TheVariants.{Unreadable, Single, Batch}
use Rattle.connection_history.specs.declared.order.Order.{Order}
use Rattle.connection_history.specs.Stream.{entries_in, call_in, calls_in}
use Rattle.connection_history.specs.History.{Happening, History, units_of, units_at, or_else, answer_at, answer_to}
use Rattle.connection_history.specs.Items.{out, newly_at, newly_out, answers_at}
use Rattle.connection_history.proofs.Tests.{or_else-none}
use Rattle.connection_steps.specs.States.{given_text, call_slots, entry_slots, slots_along, unit_slots, is_batch, owed_of}
use Rattle.connection_steps.specs.Steps.{staying}
use Rattle.connection_steps.proofs.OwedSlots.{unit_with}
use Rattle.connection_steps.proofs.OwedRows.{with_slots, all_units, placed, dues_of, state_with, owed-slots, answers-slots}

-- from this number on, calls have the same answers
abbrev pub SameFrom : ℕ → History → History → Type 0
SameFrom n now was = (k : ℕ) → n ≤ k → answer_to k now ≡ answer_to k was

later_on : (n more : ℕ) (now was : History) → SameFrom n now was → SameFrom (n + more) now was
later_on n more now was same k from = same k (omega arith)

module _ (now was : History) where
  call-same : (n : ℕ) (id : Option Id) → SameFrom n now was → call_slots now n id ≡ call_slots was n id
  call-same n None same = refl
  call-same n (Some id) same = ap (λ o. option_map (given_text id) o ∷ []) (same n (omega arith))

  entry-same : (n : ℕ) (e : Entry) → SameFrom n now was → entry_slots now n e ≡ entry_slots was n e
  entry-same n (Call c) same = call-same n c.id same
  entry-same n (Cancel id) same = refl
  entry-same n (Reply k r) same = refl
  entry-same n Stray same = refl
  entry-same n Invalid same = refl

  pub entries-same : (n : ℕ) (es : List Entry) → SameFrom n now was → slots_along now n es ≡ slots_along was n es
  entries-same n [] same = refl
  entries-same n (e ∷ es) same =
      λ i. entry-same n e same i ++ entries-same (n + length (call_in e)) es (later_on n (length (call_in e)) now was same) i

  pub unit-same : (n : ℕ) (u : Unit) → SameFrom n now was → unit_slots now n u ≡ unit_slots was n u
  unit-same n Unreadable same = refl
  unit-same n (Single e) same = entries-same n (e ∷ []) same
  unit-same n (Batch es) same = entries-same n es same

  -- units whose calls have the same answers
  pub units-same : (n : ℕ) (us : List Unit) → SameFrom n now was → with_slots now n us ≡ with_slots was n us
  units-same n [] same = refl
  units-same n (u ∷ us) same =
      let calls = length (calls_in (entries_in u)) in
      λ i. unit_with (is_batch u) (unit-same n u same i) ∷ units-same (n + calls) us (later_on n calls now was same) i

-- ---- nothing comes, and nothing is answered

abbrev IsSilent : Happening → Type 0
IsSilent h = (k : ℕ) → answer_at k h ≡ None

silent-same : (past : History) (h : Happening) → IsSilent h → SameFrom 1 (h ∷ past) past
silent-same past h silent k from = ap (or_else (answer_to k past)) (silent k) ∙ or_else-none (answer_to k past)

pub silent-units : (past : History) (h : Happening) → units_at h ≡ [] → units_of (h ∷ past) ≡ units_of past
silent-units past h none = ap (λ us. units_of past ++ us) none ∙ append-nil (units_of past)

silent-all : (past : History) (h : Happening) → units_at h ≡ [] → IsSilent h → all_units (h ∷ past) ≡ all_units past
silent-all past h none silent =
    ap (with_slots (h ∷ past) 1) (silent-units past h none) ∙ units-same (h ∷ past) past 1 (units_of past) (silent-same past h silent)

pub newly-none : (place : ℕ) (o : Option (List ℕ)) → newly_at place o o ≡ []
newly-none place None = refl
newly-none place (Some t) = refl

none_new : (place : ℕ) (outs : List (Option (List ℕ))) → newly_out place outs outs ≡ []
none_new place [] = refl
none_new place (o ∷ outs) = λ i. newly-none place o i ++ none_new (place + 1) outs i

-- it changes nothing that is owed
pub silent-owed : (order : Order) (past : History) (h : Happening) → units_at h ≡ [] → IsSilent h → owed_of order (h ∷ past) ≡ owed_of order past
silent-owed order past h none silent =
    owed-slots order (h ∷ past)
    ∙ (λ i. state_with (length (silent-units past h none i)) (staying order (placed 0 (silent-all past h none silent i)))) ∙ sym (owed-slots order past)

-- and writes no answer
pub silent-answers : (order : Order) (past : History) (h : Happening) → units_at h ≡ [] → IsSilent h → answers_at order past h ≡ []
silent-answers order past h none silent =
    answers-slots order past h
    ∙ ap (λ ws. newly_out 0 (out order (dues_of (all_units past))) (out order (dues_of ws))) (silent-all past h none silent)
    ∙ none_new 0 (out order (dues_of (all_units past)))
