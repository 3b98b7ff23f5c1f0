-- The units that came, each with the slots of its answer, and which of them are owed.
use Rattle.std.proofs.Common.{◌≡◌, ℕ, ◌+◌, List, [], ◌∷◌, ◌++◌, map, length, Bool, true, false, cond, not, Option, refl, sym, ap, ◌∙◌}
use Rattle.std.proofs.lemmas.List.Elements.{filter-append}
use Rattle.std.specs.Prelude.{filter}
use Rattle.connection_messages.specs.declared.unit.Unit.{Unit}
use Rattle.connection_history.specs.declared.order.Order.{Order}
use Rattle.connection_history.specs.declared.order.Order.TheVariants.{AsAnswered, AsCame}
use Rattle.connection_history.specs.Stream.{entries_in, calls_in}
use Rattle.connection_history.specs.History.{Happening, History, units_of}
use Rattle.connection_history.specs.Answers.{Due, open_yet, nothing, text, dues_along, dues}
use Rattle.connection_history.specs.Items.{out, newly_out, answers_at}
use Rattle.owed_answers.specs.Owed.{OwedState, OwedUnit, unit_texts}
use Rattle.connection_steps.specs.States.{unit_slots, is_batch, owed_slots, is_settled, gone, owed_unit, owed_along, owed_of}
use Rattle.connection_steps.specs.Steps.{is_complete, incomplete_rest, staying}
use Rattle.connection_steps.proofs.OwedSlots.{Slots, unit_with, due_text, due_slots, due_owed, due-slots}

-- ---- units with their slots

abbrev pub with_slots : History → ℕ → List Unit → List OwedUnit
with_slots history n [] = []
with_slots history n (u ∷ us) = unit_with (is_batch u) (unit_slots history n u) ∷ with_slots history (n + length (calls_in (entries_in u))) us

-- all that came
abbrev pub all_units : History → List OwedUnit
all_units history = with_slots history 1 (units_of history)

-- those that have an answer, by their places from this one on
abbrev pub placed : ℕ → List OwedUnit → List (ℕ × OwedUnit)
placed place [] = []
placed place (w ∷ ws) = owed_slots place w.is_batch w.slots ++ placed (place + 1) ws

abbrev pub dues_of : List OwedUnit → List Due
dues_of ws = map due_owed ws

-- units are owed what their slots say
pub dues-slots : (history : History) (n : ℕ) (us : List Unit) → dues_along history n us ≡ dues_of (with_slots history n us)
dues-slots history n [] = refl
dues-slots history n (u ∷ us) = λ i. due-slots history n u i ∷ dues-slots history (n + length (calls_in (entries_in u))) us i

-- ---- those that aren't done with

abbrev row : ℕ → OwedUnit → Bool → List (ℕ × OwedUnit)
row place w true = []
row place w false = owed_slots place w.is_batch w.slots

abbrev rows : ℕ → List OwedUnit → List Bool → List (ℕ × OwedUnit)
rows place [] done = []
rows place (w ∷ ws) [] = []
rows place (w ∷ ws) (d ∷ done) = row place w d ++ rows (place + 1) ws done

unit-row : (history : History) (place n : ℕ) (u : Unit) (d : Bool) → owed_unit history place n u d ≡ row place (unit_with (is_batch u) (unit_slots history n u)) d
unit-row history place n u true = refl
unit-row history place n u false = refl

along-rows : (history : History) (place n : ℕ) (us : List Unit) (done : List Bool) → owed_along history place n us done ≡ rows place (with_slots history n us) done
along-rows history place n [] done = refl
along-rows history place n (u ∷ us) [] = refl
along-rows history place n (u ∷ us) (d ∷ done) =
    λ i. unit-row history place n u d i ++ along-rows history (place + 1) (n + length (calls_in (entries_in u))) us done i

abbrev is_incomplete : ℕ × OwedUnit → Bool
is_incomplete e = not (is_complete e.1)

-- a unit is settled where it is complete
text-settled : (ts : List (List ℕ)) → is_settled (due_text ts) ≡ true
text-settled [] = refl
text-settled (t ∷ ts) = refl

settled_if : (b : Bool) (ts : List (List ℕ)) → is_settled (cond b (due_text ts) open_yet) ≡ b
settled_if true ts = text-settled ts
settled_if false ts = refl

settled-complete : (w : OwedUnit) → is_settled (due_owed w) ≡ is_complete w
settled-complete w = settled_if (is_complete w) (unit_texts w)

-- as answered, each that is complete is done with
kept_if : (b : Bool) (place : ℕ) (batch : Bool) (s : Option (List ℕ)) (ss : Slots)
    → row place (unit_with batch (s ∷ ss)) b ≡ cond (not b) ((place, unit_with batch (s ∷ ss)) ∷ []) []
kept_if true place batch s ss = refl
kept_if false place batch s ss = refl

answered_row : (place : ℕ) (batch : Bool) (ss : Slots) → row place (unit_with batch ss) (is_settled (due_slots batch ss)) ≡ filter is_incomplete (owed_slots place batch ss)
answered_row place batch [] = refl
answered_row place batch (s ∷ ss) =
    ap (row place (unit_with batch (s ∷ ss))) (settled-complete (unit_with batch (s ∷ ss))) ∙ kept_if (is_complete (unit_with batch (s ∷ ss))) place batch s ss

answered_rows : (place : ℕ) (ws : List OwedUnit) → rows place ws (gone AsAnswered (dues_of ws)) ≡ filter is_incomplete (placed place ws)
answered_rows place [] = refl
answered_rows place (w ∷ ws) =
    (λ i. answered_row place w.is_batch w.slots i ++ answered_rows (place + 1) ws i)
    ∙ sym (filter-append is_incomplete (owed_slots place w.is_batch w.slots) (placed (place + 1) ws))

-- as came, none is done with from the first that isn't complete on
none_done : (place : ℕ) (ws : List OwedUnit) → rows place ws (map (λ d. false) (dues_of ws)) ≡ placed place ws
none_done place [] = refl
none_done place (w ∷ ws) = ap (λ l. owed_slots place w.is_batch w.slots ++ l) (none_done (place + 1) ws)

gone-came : (d : Due) (ds : List Due) → gone AsCame (d ∷ ds) ≡ cond (is_settled d) (true ∷ gone AsCame ds) (false ∷ map (λ d. false) ds)
gone-came open_yet ds = refl
gone-came nothing ds = refl
gone-came (text t) ds = refl

came_if : (b : Bool) (place : ℕ) (batch : Bool) (s : Option (List ℕ)) (ss : Slots) (ws : List OwedUnit)
    → rows (place + 1) ws (gone AsCame (dues_of ws)) ≡ incomplete_rest (placed (place + 1) ws)
    → rows place (unit_with batch (s ∷ ss) ∷ ws) (cond b (true ∷ gone AsCame (dues_of ws)) (false ∷ map (λ d. false) (dues_of ws)))
    ≡ cond b (incomplete_rest (placed (place + 1) ws)) ((place, unit_with batch (s ∷ ss)) ∷ placed (place + 1) ws)
came_if true place batch s ss ws more = more
came_if false place batch s ss ws more = ap (λ l. (place, unit_with batch (s ∷ ss)) ∷ l) (none_done (place + 1) ws)

came_row : (place : ℕ) (batch : Bool) (ss : Slots) (ws : List OwedUnit) → rows (place + 1) ws (gone AsCame (dues_of ws)) ≡ incomplete_rest (placed (place + 1) ws)
    → rows place (unit_with batch ss ∷ ws) (gone AsCame (due_slots batch ss ∷ dues_of ws)) ≡ incomplete_rest (owed_slots place batch ss ++ placed (place + 1) ws)
came_row place batch [] ws more = more
came_row place batch (s ∷ ss) ws more =
    let w = unit_with batch (s ∷ ss) in
    ap (rows place (w ∷ ws))
    (gone-came (due_owed w) (dues_of ws) ∙ ap (λ b. cond b (true ∷ gone AsCame (dues_of ws)) (false ∷ map (λ d. false) (dues_of ws))) (settled-complete w))
    ∙ came_if (is_complete w) place batch s ss ws more

came_rows : (place : ℕ) (ws : List OwedUnit) → rows place ws (gone AsCame (dues_of ws)) ≡ incomplete_rest (placed place ws)
came_rows place [] = refl
came_rows place (w ∷ ws) = came_row place w.is_batch w.slots ws (came_rows (place + 1) ws)

rows-staying : (order : Order) (place : ℕ) (ws : List OwedUnit) → rows place ws (gone order (dues_of ws)) ≡ staying order (placed place ws)
rows-staying AsAnswered place ws = answered_rows place ws
rows-staying AsCame place ws = came_rows place ws

abbrev pub state_with : ℕ → List (ℕ × OwedUnit) → OwedState
state_with places owed = record { places = places; owed = owed }

-- what is owed after a history
pub owed-slots : (order : Order) (history : History) → owed_of order history ≡ state_with (length (units_of history)) (staying order (placed 0 (all_units history)))
owed-slots order history =
    ap (state_with (length (units_of history)))
    (along-rows history 0 1 (units_of history) (gone order (dues history))
    ∙ ap (λ ds. rows 0 (all_units history) (gone order ds)) (dues-slots history 1 (units_of history)) ∙ rows-staying order 0 (all_units history))

-- what is written when something happens
pub answers-slots : (order : Order) (past : History) (h : Happening)
    → answers_at order past h ≡ newly_out 0 (out order (dues_of (all_units past))) (out order (dues_of (all_units (h ∷ past))))
answers-slots order past h =
    λ i. newly_out 0 (out order (dues-slots past 1 (units_of past) i)) (out order (dues-slots (h ∷ past) 1 (units_of (h ∷ past)) i))
