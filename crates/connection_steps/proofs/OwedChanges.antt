-- Slots that are given, and units that come: what goes out then, and what stays.
use Rattle.std.proofs.Common.{◌≡◌, ℕ, suc, ◌+◌, List, [], ◌∷◌, ◌++◌, map, length, Bool, true, false, cond, not, Option, None, refl, sym, ap, ◌∙◌, append_assoc, append-nil, arith}
use Rattle.std.proofs.lemmas.List.{map-append}
use Rattle.std.proofs.lemmas.List.Elements.{filter-append}
use Rattle.std.specs.Prelude.{⊤, filter}
use Rattle.connection_history.specs.declared.order.Order.{Order}
use Rattle.connection_history.specs.declared.order.Order.TheVariants.{AsAnswered, AsCame}
use Rattle.connection_history.specs.Answers.{Due, open_yet}
use Rattle.connection_history.specs.Items.{answer, text_if_due, out, newly_at, newly_out}
use Rattle.connection_history.proofs.Dues.{DueStays, DuesStay}
use Rattle.owed_answers.specs.Owed.{OwedUnit, texts_of, joined, unit_texts}
use Rattle.connection_steps.specs.States.{owed_slots}
use Rattle.connection_steps.specs.Steps.{is_complete, complete_front, incomplete_rest, leaving, staying, answer_of, answers_of}
use Rattle.connection_steps.proofs.OwedSame.{newly-none}
use Rattle.connection_steps.proofs.OwedSlots.{Slots, all_given, lacking_none, unit_with, due_text, due_slots}
use Rattle.connection_steps.proofs.OwedRows.{placed, dues_of}

abbrev HasSlots : Slots → Type 0
HasSlots [] = ⊥
HasSlots (s ∷ ss) = ⊤

-- A unit's slots after a change: none come or go, and once all are given they stay so.
abbrev pub IsLater : Slots → Slots → Type 0
IsLater [] later = later ≡ []
IsLater (s ∷ ss) later = HasSlots later × (all_given (s ∷ ss) ≡ true → all_given later ≡ true)

abbrev pub IsChange : (ℕ → Slots → Slots) → Type 0
IsChange f = (place : ℕ) (ss : Slots) → IsLater ss (f place ss)

-- units from this place on, changed
abbrev pub changed : (ℕ → Slots → Slots) → ℕ → List OwedUnit → List OwedUnit
changed f place [] = []
changed f place (w ∷ ws) = unit_with w.is_batch (f place w.slots) ∷ changed f (place + 1) ws

abbrev pub change : (ℕ → Slots → Slots) → ℕ × OwedUnit → ℕ × OwedUnit
change f e = (e.0, unit_with e.1.is_batch (f e.0 e.1.slots))

abbrev complete : ℕ × OwedUnit → Bool
complete e = is_complete e.1

abbrev incomplete : ℕ × OwedUnit → Bool
incomplete e = not (is_complete e.1)

-- ---- a unit that has slots

owed-has : (place : ℕ) (batch : Bool) (ss : Slots) → HasSlots ss → owed_slots place batch ss ≡ (place, unit_with batch ss) ∷ []
owed-has place batch [] has = absurd has
owed-has place batch (s ∷ ss) has = refl

given-later : (ss later : Slots) → IsLater ss later → all_given ss ≡ true → all_given later ≡ true
given-later [] later is given = ap all_given is
given-later (s ∷ ss) later is given = is.1 given

complete-later : (ss later : Slots) (batch : Bool) → IsLater ss later → is_complete (unit_with batch ss) ≡ true → is_complete (unit_with batch later) ≡ true
complete-later ss later batch is whole = lacking_none later ∙ given-later ss later is (sym (lacking_none ss) ∙ whole)

-- ---- what newly is out, where nothing was

none_before : (place : ℕ) (ds : List Due) (after : List (Option (List ℕ))) → newly_out place (map (λ d. None) ds) after ≡ newly_out place [] after
none_before place [] after = refl
none_before place (d ∷ ds) [] = refl
none_before place (d ∷ ds) (a ∷ after) = ap (λ l. newly_at place None a ++ l) (none_before (place + 1) ds after)

none_after : (place : ℕ) (ds : List Due) → newly_out place [] (map (λ d. None) ds) ≡ []
none_after place [] = refl
none_after place (d ∷ ds) = none_after (place + 1) ds

-- a unit that is complete goes out with its text, where it has any
joined_out : (place : ℕ) (batch : Bool) (ts : List (List ℕ)) → newly_at place None (text_if_due (due_text (joined batch ts))) ≡ map (answer place) (joined batch ts)
joined_out place batch [] = refl
joined_out place batch (t ∷ ts) = refl

new_whole : (place : ℕ) (w : OwedUnit) → newly_at place None (text_if_due (due_text (unit_texts w))) ≡ answer_of (place, w)
new_whole place w = joined_out place w.is_batch (texts_of w)

new_if : (b : Bool) (place : ℕ) (w : OwedUnit) → newly_at place None (text_if_due (cond b (due_text (unit_texts w)) open_yet)) ≡ answers_of (cond b ((place, w) ∷ []) [])
new_if true place w = new_whole place w ∙ sym (append-nil (answer_of (place, w)))
new_if false place w = refl

new-has : (place : ℕ) (batch : Bool) (ss : Slots)
    → newly_at place None (text_if_due (due_slots batch ss)) ≡ answers_of (cond (is_complete (unit_with batch ss)) ((place, unit_with batch ss) ∷ []) [])
new-has place batch ss = new_if (is_complete (unit_with batch ss)) place (unit_with batch ss)

new_row : (place : ℕ) (batch : Bool) (ss : Slots) → newly_at place None (text_if_due (due_slots batch ss)) ≡ answers_of (filter complete (owed_slots place batch ss))
new_row place batch [] = refl
new_row place batch (s ∷ ss) = new_if (is_complete (unit_with batch (s ∷ ss))) place (unit_with batch (s ∷ ss))

answers-append : (es more : List (ℕ × OwedUnit)) → answers_of (es ++ more) ≡ answers_of es ++ answers_of more
answers-append [] more = refl
answers-append (e ∷ es) more = ap (λ l. answer_of e ++ l) (answers-append es more) ∙ sym (append_assoc (answer_of e) (answers_of es) (answers_of more))

complete-append : (es more : List (ℕ × OwedUnit)) → answers_of (filter complete (es ++ more)) ≡ answers_of (filter complete es) ++ answers_of (filter complete more)
complete-append es more = ap answers_of (filter-append complete es more) ∙ answers-append (filter complete es) (filter complete more)

answered_first : (place : ℕ) (ws : List OwedUnit) → newly_out place [] (out AsAnswered (dues_of ws)) ≡ answers_of (filter complete (placed place ws))
answered_first place [] = refl
answered_first place (w ∷ ws) =
    (λ i. new_row place w.is_batch w.slots i ++ answered_first (place + 1) ws i)
    ∙ sym (complete-append (owed_slots place w.is_batch w.slots) (placed (place + 1) ws))

-- what is settled doesn't hold up what comes behind it
out-settled : (ts : List (List ℕ)) (ds : List Due) → out AsCame (due_text ts ∷ ds) ≡ text_if_due (due_text ts) ∷ out AsCame ds
out-settled [] ds = refl
out-settled (t ∷ ts) ds = refl

first_if : (b : Bool) (place : ℕ) (w : OwedUnit) (ws : List OwedUnit) → newly_out (place + 1) [] (out AsCame (dues_of ws)) ≡ answers_of (complete_front (placed (place + 1) ws))
    → newly_out place [] (out AsCame (cond b (due_text (unit_texts w)) open_yet ∷ dues_of ws)) ≡ answers_of (cond b ((place, w) ∷ complete_front (placed (place + 1) ws)) [])
first_if true place w ws more = ap (newly_out place []) (out-settled (unit_texts w) (dues_of ws)) ∙ (λ i. new_whole place w i ++ more i)
first_if false place w ws more = none_after (place + 1) (dues_of ws)

first_row : (place : ℕ) (batch : Bool) (ss : Slots) (ws : List OwedUnit) → newly_out (place + 1) [] (out AsCame (dues_of ws)) ≡ answers_of (complete_front (placed (place + 1) ws))
    → newly_out place [] (out AsCame (due_slots batch ss ∷ dues_of ws)) ≡ answers_of (complete_front (owed_slots place batch ss ++ placed (place + 1) ws))
first_row place batch [] ws more = more
first_row place batch (s ∷ ss) ws more = first_if (is_complete (unit_with batch (s ∷ ss))) place (unit_with batch (s ∷ ss)) ws more

came_first : (place : ℕ) (ws : List OwedUnit) → newly_out place [] (out AsCame (dues_of ws)) ≡ answers_of (complete_front (placed place ws))
came_first place [] = refl
came_first place (w ∷ ws) = first_row place w.is_batch w.slots ws (came_first (place + 1) ws)

-- ---- a change

module _ (f : ℕ → Slots → Slots) (later : IsChange f) where
  slots-change : (place : ℕ) (batch : Bool) (ss : Slots) → owed_slots place batch (f place ss) ≡ map (change f) (owed_slots place batch ss)
  slots-change place batch [] = ap (owed_slots place batch) (later place [])
  slots-change place batch (s ∷ ss) = owed-has place batch (f place (s ∷ ss)) (later place (s ∷ ss)).0

  -- the units that have an answer are changed, and more come
  pub placed-change : (place end : ℕ) (ws more : List OwedUnit) → place + length ws ≡ end → placed place (changed f place ws ++ more) ≡ map (change f) (placed place ws) ++ placed end more
  placed-change place end [] more at = let same : place ≡ end = omega arith in ap (λ p. placed p more) same
  placed-change place end (w ∷ ws) more at =
      (λ i. slots-change place w.is_batch w.slots i ++ placed-change (place + 1) end ws more (omega arith) i)
      ∙ sym (append_assoc (map (change f) (owed_slots place w.is_batch w.slots)) (map (change f) (placed (place + 1) ws)) (placed end more))
      ∙ ap (λ l. l ++ placed end more) (sym (map-append (change f) (owed_slots place w.is_batch w.slots) (placed (place + 1) ws)))

  -- ---- what stays

  complete-change : (e : ℕ × OwedUnit) → complete e ≡ true → complete (change f e) ≡ true
  complete-change e whole = complete-later e.1.slots (f e.0 e.1.slots) e.1.is_batch (later e.0 e.1.slots) whole

  kept_if : (b : Bool) (e : ℕ × OwedUnit) (rest es more : List (ℕ × OwedUnit)) → (b ≡ true → complete (change f e) ≡ true) → rest ≡ filter incomplete (map (change f) es ++ more)
      → cond (incomplete (change f e)) (change f e ∷ rest) rest ≡ filter incomplete (map (change f) (cond (not b) (e ∷ es) es) ++ more)
  kept_if true e rest es more whole is = ap (λ c. cond (not c) (change f e ∷ rest) rest) (whole refl) ∙ is
  kept_if false e rest es more whole is = ap (λ l. cond (incomplete (change f e)) (change f e ∷ l) l) is

  answered-staying : (es more : List (ℕ × OwedUnit)) → filter incomplete (map (change f) es ++ more) ≡ filter incomplete (map (change f) (filter incomplete es) ++ more)
  answered-staying [] more = refl
  answered-staying (e ∷ es) more = kept_if (complete e) e (filter incomplete (map (change f) es ++ more)) (filter incomplete es) more (complete-change e) (answered-staying es more)

  rest_if : (b : Bool) (e : ℕ × OwedUnit) (es more : List (ℕ × OwedUnit)) → (b ≡ true → complete (change f e) ≡ true)
      → incomplete_rest (map (change f) es ++ more) ≡ incomplete_rest (map (change f) (incomplete_rest es) ++ more)
      → incomplete_rest (change f e ∷ (map (change f) es ++ more)) ≡ incomplete_rest (map (change f) (cond b (incomplete_rest es) (e ∷ es)) ++ more)
  rest_if true e es more whole is =
      ap (λ c. cond c (incomplete_rest (map (change f) es ++ more)) (change f e ∷ (map (change f) es ++ more))) (whole refl) ∙ is
  rest_if false e es more whole is = refl

  came-staying : (es more : List (ℕ × OwedUnit)) → incomplete_rest (map (change f) es ++ more) ≡ incomplete_rest (map (change f) (incomplete_rest es) ++ more)
  came-staying [] more = refl
  came-staying (e ∷ es) more = rest_if (complete e) e es more (complete-change e) (came-staying es more)

  -- what left before doesn't matter
  pub staying-change : (order : Order) (es more : List (ℕ × OwedUnit)) → staying order (map (change f) es ++ more) ≡ staying order (map (change f) (staying order es) ++ more)
  staying-change AsAnswered es more = answered-staying es more
  staying-change AsCame es more = came-staying es more

  -- ---- what leaves

  -- what was settled before goes out no more
  gone_before : (place : ℕ) (ts : List (List ℕ)) (d : Due) → DueStays (due_text ts) d → newly_at place (text_if_due (due_text ts)) (text_if_due d) ≡ []
  gone_before place [] d stays = ap (λ e. newly_at place None (text_if_due e)) stays
  gone_before place (t ∷ ts) d stays = refl

  leaves_if : (b : Bool) (place : ℕ) (batch : Bool) (s : Option (List ℕ)) (ss : Slots) (ts : List (List ℕ))
      → DueStays (cond b (due_text ts) open_yet) (due_slots batch (f place (s ∷ ss)))
      → newly_at place (text_if_due (cond b (due_text ts) open_yet)) (text_if_due (due_slots batch (f place (s ∷ ss))))
      ≡ answers_of (filter complete (map (change f) (cond (not b) ((place, unit_with batch (s ∷ ss)) ∷ []) [])))
  leaves_if true place batch s ss ts stays = gone_before place ts (due_slots batch (f place (s ∷ ss))) stays
  leaves_if false place batch s ss ts stays = new-has place batch (f place (s ∷ ss))

  leaves_row : (place : ℕ) (batch : Bool) (ss : Slots) → DueStays (due_slots batch ss) (due_slots batch (f place ss))
      → newly_at place (text_if_due (due_slots batch ss)) (text_if_due (due_slots batch (f place ss)))
      ≡ answers_of (filter complete (map (change f) (filter incomplete (owed_slots place batch ss))))
  leaves_row place batch [] stays = ap (λ l. newly_at place None (text_if_due (due_slots batch l))) (later place [])
  leaves_row place batch (s ∷ ss) stays = leaves_if (is_complete (unit_with batch (s ∷ ss))) place batch s ss (unit_texts (unit_with batch (s ∷ ss))) stays

  leaves-append : (es fs more : List (ℕ × OwedUnit)) → answers_of (filter complete (map (change f) (filter incomplete (es ++ fs)) ++ more))
      ≡ answers_of (filter complete (map (change f) (filter incomplete es))) ++ answers_of (filter complete (map (change f) (filter incomplete fs) ++ more))
  leaves-append es fs more =
      ap (λ l. answers_of (filter complete (map (change f) l ++ more))) (filter-append incomplete es fs)
      ∙ ap (λ l. answers_of (filter complete (l ++ more))) (map-append (change f) (filter incomplete es) (filter incomplete fs))
      ∙ ap (λ l. answers_of (filter complete l)) (append_assoc (map (change f) (filter incomplete es)) (map (change f) (filter incomplete fs)) more)
      ∙ complete-append (map (change f) (filter incomplete es)) (map (change f) (filter incomplete fs) ++ more)

  answered-leaving : (place end : ℕ) (ws more : List OwedUnit) → place + length ws ≡ end → DuesStay (dues_of ws) (dues_of (changed f place ws ++ more))
      → newly_out place (out AsAnswered (dues_of ws)) (out AsAnswered (dues_of (changed f place ws ++ more)))
      ≡ answers_of (filter complete (map (change f) (filter incomplete (placed place ws)) ++ placed end more))
  answered-leaving place end [] more at stay = let same : place ≡ end = omega arith in answered_first place more ∙ ap (λ p. answers_of (filter complete (placed p more))) same
  answered-leaving place end (w ∷ ws) more at stay =
      (λ i. leaves_row place w.is_batch w.slots stay.0 i ++ answered-leaving (place + 1) end ws more (omega arith) stay.1 i)
      ∙ sym (leaves-append (owed_slots place w.is_batch w.slots) (placed (place + 1) ws) (placed end more))

  -- a unit that was settled stays as it is
  settled_stays : (ts : List (List ℕ)) (d : Due) → DueStays (due_text ts) d → d ≡ due_text ts
  settled_stays [] d stays = stays
  settled_stays (t ∷ ts) d stays = stays

  front_if : (b : Bool) (place end : ℕ) (batch : Bool) (s : Option (List ℕ)) (ss : Slots) (ts : List (List ℕ)) (ws more : List OwedUnit)
      → place + suc (length ws) ≡ end → DueStays (cond b (due_text ts) open_yet) (due_slots batch (f place (s ∷ ss)))
      → newly_out (place + 1) (out AsCame (dues_of ws)) (out AsCame (dues_of (changed f (place + 1) ws ++ more)))
      ≡ answers_of (complete_front (map (change f) (incomplete_rest (placed (place + 1) ws)) ++ placed end more))
      → newly_out place (out AsCame (cond b (due_text ts) open_yet ∷ dues_of ws)) (out AsCame (dues_of (changed f place (unit_with batch (s ∷ ss) ∷ ws) ++ more)))
      ≡ answers_of (complete_front (map (change f) (cond b (incomplete_rest (placed (place + 1) ws)) ((place, unit_with batch (s ∷ ss)) ∷ placed (place + 1) ws)) ++ placed end more))
  front_if true place end batch s ss ts ws more at stays others =
      let rest = dues_of (changed f (place + 1) ws ++ more) in
      ap (λ d. newly_out place (out AsCame (due_text ts ∷ dues_of ws)) (out AsCame (d ∷ rest))) (settled_stays ts (due_slots batch (f place (s ∷ ss))) stays)
      ∙ (λ i. newly_out place (out-settled ts (dues_of ws) i) (out-settled ts rest i))
      ∙ (λ i. newly-none place (text_if_due (due_text ts)) i ++ others i)
  front_if false place end batch s ss ts ws more at stays others =
      let all = unit_with batch (s ∷ ss) ∷ ws in
      none_before place (open_yet ∷ dues_of ws) (out AsCame (dues_of (changed f place all ++ more)))
      ∙ came_first place (changed f place all ++ more)
      ∙ ap (λ l. answers_of (complete_front l)) (placed-change place end all more at)

  front_row : (place end : ℕ) (batch : Bool) (ss : Slots) (ws more : List OwedUnit) → place + suc (length ws) ≡ end → DueStays (due_slots batch ss) (due_slots batch (f place ss))
      → newly_out (place + 1) (out AsCame (dues_of ws)) (out AsCame (dues_of (changed f (place + 1) ws ++ more)))
      ≡ answers_of (complete_front (map (change f) (incomplete_rest (placed (place + 1) ws)) ++ placed end more))
      → newly_out place (out AsCame (due_slots batch ss ∷ dues_of ws)) (out AsCame (dues_of (changed f place (unit_with batch ss ∷ ws) ++ more)))
      ≡ answers_of (complete_front (map (change f) (incomplete_rest (owed_slots place batch ss ++ placed (place + 1) ws)) ++ placed end more))
  front_row place end batch [] ws more at stays others =
      ap (λ l. newly_out place (None ∷ out AsCame (dues_of ws)) (out AsCame (due_slots batch l ∷ dues_of (changed f (place + 1) ws ++ more)))) (later place [])
      ∙ others
  front_row place end batch (s ∷ ss) ws more at stays others =
      front_if (is_complete (unit_with batch (s ∷ ss))) place end batch s ss (unit_texts (unit_with batch (s ∷ ss))) ws more at stays others

  came-leaving : (place end : ℕ) (ws more : List OwedUnit) → place + length ws ≡ end → DuesStay (dues_of ws) (dues_of (changed f place ws ++ more))
      → newly_out place (out AsCame (dues_of ws)) (out AsCame (dues_of (changed f place ws ++ more)))
      ≡ answers_of (complete_front (map (change f) (incomplete_rest (placed place ws)) ++ placed end more))
  came-leaving place end [] more at stay = let same : place ≡ end = omega arith in came_first place more ∙ ap (λ p. answers_of (complete_front (placed p more))) same
  came-leaving place end (w ∷ ws) more at stay = front_row place end w.is_batch w.slots ws more at stay.0 (came-leaving (place + 1) end ws more (omega arith) stay.1)

  -- of what stayed before, and of what comes, the answers that can go out do
  pub leaving-change : (order : Order) (place end : ℕ) (ws more : List OwedUnit) → place + length ws ≡ end → DuesStay (dues_of ws) (dues_of (changed f place ws ++ more))
      → newly_out place (out order (dues_of ws)) (out order (dues_of (changed f place ws ++ more)))
      ≡ answers_of (leaving order (map (change f) (staying order (placed place ws)) ++ placed end more))
  leaving-change AsAnswered place end ws more at stay = answered-leaving place end ws more at stay
  leaving-change AsCame place end ws more at stay = came-leaving place end ws more at stay
