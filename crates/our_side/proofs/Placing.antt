-- What is counted in all that a connection says, by what is counted in the units that came.
use Rattle.std.proofs.Common.{◌≡◌, ◌==◌, ℕ, zero, suc, ◌+◌, ◌≤◌, Bool, true, false, if◌then◌else◌, List, [], ◌∷◌, ◌++◌, length, map, get_or, Option, Some, None, refl, sym, ap, subst, ◌∙◌, arith}
use Rattle.std.proofs.lemmas.Bool.Decides.{nat_tests}
use Rattle.std.specs.Prelude.{⊤, slice_get, flat_map, option_to_list}
use Rattle.connection_messages.specs.declared.unit.Unit.{Unit}
use Rattle.connection.specs.BackToBack as back
use Rattle.connection.specs.BackToBack.{Message, said_at, messages_at, messages_of}
use Rattle.connection_history.specs.declared.order.Order.{Order}
use Rattle.connection_history.specs.declared.order.Order.TheVariants.{AsAnswered, AsCame}
use Rattle.connection_history.specs.Answers.{Due, open_yet, nothing, text, dues}
use Rattle.connection_history.specs.History.{Happening, came, called, called_all, noticed, withdrew, answered, ended, History, units_of, units_at}
use Rattle.connection_history.specs.Items.{Item, said, answer as answer_item, text_if_due, out, newly_out, items_of, answers_at, items_at}
use Rattle.connection_history.specs.Items as items
use Rattle.connection_history.specs.Written.{places_in, answers_of}
use Rattle.our_side.specs.Answered.{total}
use Rattle.our_side.specs.Asked.{as_number}
use Rattle.our_side.proofs.Below.{AllOf}

-- ---- places, each once

abbrev weights_at : List ℕ → List ℕ → ℕ
weights_at ws [] = 0
weights_at ws (place ∷ places) = get_or ws place 0 + weights_at ws places

abbrev sum_of : List ℕ → ℕ
sum_of [] = 0
sum_of (w ∷ ws) = w + sum_of ws

abbrev times_in : ℕ → List ℕ → ℕ
times_in place [] = 0
times_in place (other ∷ places) = as_number (other == place) + times_in place places

at-append : (ws xs ys : List ℕ) → weights_at ws (xs ++ ys) ≡ weights_at ws xs + weights_at ws ys
at-append ws [] ys = (let same : weights_at ws ys ≡ 0 + weights_at ws ys = omega arith in same)
at-append ws (x ∷ xs) ys = let rest = at-append ws xs ys in omega (arith, rest)

-- those behind the first
abbrev behind : List ℕ → List ℕ
behind [] = []
behind (zero ∷ places) = behind places
behind (suc place ∷ places) = place ∷ behind places

later_not : (place : ℕ) → as_number (suc place == 0) ≡ 0
later_not place = ap as_number (no place)
  where
    no : (n : ℕ) → (suc n == 0) ≡ false
    no n = grind (arith, nat_tests)

zero_not : (place : ℕ) → as_number (0 == suc place) ≡ 0
zero_not place = ap as_number (no place)
  where
    no : (n : ℕ) → (0 == suc n) ≡ false
    no n = grind (arith, nat_tests)

both_less : (a b : ℕ) → (suc a == suc b) ≡ (a == b)
both_less a b = grind (arith, nat_tests)

no_more : (w : ℕ) (ws places : List ℕ) → times_in 0 places ≡ 0 → weights_at (w ∷ ws) places ≡ weights_at ws (behind places)
no_more w ws [] none = refl
no_more w ws (zero ∷ places) none = absurd (let o : 1 + times_in 0 places ≡ 0 = none in omega (arith, o))
no_more w ws (suc place ∷ places) none =
    ap (λ n. get_or ws place 0 + n) (no_more w ws places (let o : as_number (suc place == 0) + times_in 0 places ≡ 0 = none in let z = later_not place in omega (arith, o, z)))

first_apart : (w : ℕ) (ws places : List ℕ) → times_in 0 places ≤ 1 → weights_at (w ∷ ws) places ≤ w + weights_at ws (behind places)
first_apart w ws [] once = omega arith
first_apart w ws (zero ∷ places) once = let none = no_more w ws places (let o : 1 + times_in 0 places ≤ 1 = once in omega (arith, o)) in omega (arith, none)
first_apart w ws (suc place ∷ places) once =
    let rest = first_apart w ws places (let o : as_number (suc place == 0) + times_in 0 places ≤ 1 = once in let z = later_not place in omega (arith, o, z)) in
    omega (arith, rest)

times_behind : (place : ℕ) (places : List ℕ) → times_in place (behind places) ≡ times_in (suc place) places
times_behind place [] = refl
times_behind place (zero ∷ places) = let rest = times_behind place places in let z = zero_not place in omega (arith, rest, z)
times_behind place (suc other ∷ places) = λ i. as_number (sym (both_less other place) i) + times_behind place places i

none_at : (places : List ℕ) → weights_at [] places ≡ 0
none_at [] = refl
none_at (place ∷ places) = let rest = none_at places in omega (arith, rest)

each_once : (ws places : List ℕ) → ((place : ℕ) → times_in place places ≤ 1) → weights_at ws places ≤ sum_of ws
each_once [] places once = let none = none_at places in omega (arith, none)
each_once (w ∷ ws) places once =
    let first = first_apart w ws places (once 0) in
    let rest = each_once ws (behind places) (λ place. subst (λ n. n ≤ 1) (sym (times_behind place places)) (once (suc place))) in
    omega (arith, first, rest)

-- ---- more units

get_more : (ws more : List ℕ) (place : ℕ) → get_or ws place 0 ≤ get_or (ws ++ more) place 0
get_more [] more place = omega arith
get_more (w ∷ ws) more zero = omega arith
get_more (w ∷ ws) more (suc place) = get_more ws more place

at_more : (ws more places : List ℕ) → weights_at ws places ≤ weights_at (ws ++ more) places
at_more ws more [] = omega arith
at_more ws more (place ∷ places) = let one = get_more ws more place in let rest = at_more ws more places in omega (arith, one, rest)

map-append : (weight : Unit → ℕ) (us more : List Unit) → map weight (us ++ more) ≡ map weight us ++ map weight more
map-append weight [] more = refl
map-append weight (u ∷ us) more = ap (λ ws. weight u ∷ ws) (map-append weight us more)

said_nowhere : (past : History) (h : Happening) → places_in (items.said_at past h) ≡ []
said_nowhere past (came o u) = refl
said_nowhere past (called n o) = refl
said_nowhere past (called_all n os) = refl
said_nowhere past (noticed o) = refl
said_nowhere past (withdrew by k) = refl
said_nowhere past (answered n a) = refl
said_nowhere past (ended close) = refl

places-append : (xs ys : List Item) → places_in (xs ++ ys) ≡ places_in xs ++ places_in ys
places-append [] ys = refl
places-append (said t ∷ xs) ys = places-append xs ys
places-append (answer_item place t ∷ xs) ys = ap (λ ps. place ∷ ps) (places-append xs ys)

times_are : (place : ℕ) (is : List Item) → times_in place (places_in is) ≡ length (answers_of place is)
times_are place [] = refl
times_are place (said t ∷ is) = times_are place is
times_are place (answer_item other t ∷ is) = from (other == place) (times_are place is)
  where
    from : (b : Bool) → times_in place (places_in is) ≡ length (answers_of place is) → as_number b + times_in place (places_in is) ≡ length (if b then t ∷ answers_of place is else answers_of place is)
    from true rest = let same : 1 + times_in place (places_in is) ≡ suc (length (answers_of place is)) = omega (arith, rest) in same
    from false rest = let same : 0 + times_in place (places_in is) ≡ length (answers_of place is) = omega (arith, rest) in same

one_at_most : (o : Option (List ℕ)) → length (option_to_list o) ≤ 1
one_at_most None = omega arith
one_at_most (Some t) = omega arith

-- ---- what goes out is the text that its unit is owed

abbrev pub IsOut : History → ℕ → Type 0
IsOut history place = (t : List ℕ) × (slice_get (dues history) place ≡ Some (text t))

due_text : (d : Due) (t : List ℕ) → text_if_due d ≡ Some t → d ≡ text t
due_text open_yet t h = absurd (cc)
due_text nothing t h = absurd (cc)
due_text (text s) t h = let same : s ≡ t = cc in ap text same

none_out : (ds : List Due) (place : ℕ) (t : List ℕ) → slice_get (map (λ (d : Due). None) ds) place ≡ Some (Some t) → ⊥
none_out [] place t h = cc
none_out (d ∷ ds) zero t h = cc
none_out (d ∷ ds) (suc place) t h = none_out ds place t h

answered_due : (ds : List Due) (place : ℕ) (t : List ℕ) → slice_get (map text_if_due ds) place ≡ Some (Some t) → slice_get ds place ≡ Some (text t)
answered_due [] place t h = absurd (cc)
answered_due (d ∷ ds) zero t h = let is : text_if_due d ≡ Some t = cc in ap (λ e. Some e) (due_text d t is)
answered_due (d ∷ ds) (suc place) t h = answered_due ds place t h

came_due : (ds : List Due) (place : ℕ) (t : List ℕ) → slice_get (out AsCame ds) place ≡ Some (Some t) → slice_get ds place ≡ Some (text t)
came_due [] place t h = absurd (cc)
came_due (open_yet ∷ ds) zero t h = absurd (cc)
came_due (open_yet ∷ ds) (suc place) t h = absurd (none_out ds place t h)
came_due (nothing ∷ ds) zero t h = absurd (cc)
came_due (nothing ∷ ds) (suc place) t h = came_due ds place t h
came_due (text s ∷ ds) zero t h = let same : s ≡ t = cc in ap (λ u. Some (text u)) same
came_due (text s ∷ ds) (suc place) t h = came_due ds place t h

out_due : (order : Order) (ds : List Due) (place : ℕ) (t : List ℕ) → slice_get (out order ds) place ≡ Some (Some t) → slice_get ds place ≡ Some (text t)
out_due AsAnswered ds place t h = answered_due ds place t h
out_due AsCame ds place t h = came_due ds place t h

abbrev IsAt : (ℕ → Type 0) → ℕ → List (Option (List ℕ)) → Type 0
IsAt P from after = (i : ℕ) (t : List ℕ) → slice_get after i ≡ Some (Some t) → P (from + i)

at_first : (P : ℕ → Type 0) (from : ℕ) (t : List ℕ) (after : List (Option (List ℕ))) → IsAt P from (Some t ∷ after) → P from
at_first P from t after is = subst P (let same : from + 0 ≡ from = omega arith in same) (is 0 t refl)

at_rest : (P : ℕ → Type 0) (from : ℕ) (o : Option (List ℕ)) (after : List (Option (List ℕ))) → IsAt P from (o ∷ after) → IsAt P (from + 1) after
at_rest P from o after is i t at = subst P (let same : from + suc i ≡ from + 1 + i = omega arith in same) (is (suc i) t at)

newly_at : (P : ℕ → Type 0) (from : ℕ) (before after : List (Option (List ℕ))) → IsAt P from after → AllOf P (places_in (newly_out from before after))
newly_at P from before [] is = tt
newly_at P from [] (None ∷ after) is = newly_at P (from + 1) [] after (at_rest P from None after is)
newly_at P from [] (Some t ∷ after) is = (at_first P from t after is, newly_at P (from + 1) [] after (at_rest P from (Some t) after is))
newly_at P from (Some s ∷ before) (a ∷ after) is = newly_at P (from + 1) before after (at_rest P from a after is)
newly_at P from (None ∷ before) (None ∷ after) is = newly_at P (from + 1) before after (at_rest P from None after is)
newly_at P from (None ∷ before) (Some t ∷ after) is = (at_first P from t after is, newly_at P (from + 1) before after (at_rest P from (Some t) after is))

all_out : (order : Order) (past : History) (h : Happening) → AllOf (IsOut (h ∷ past)) (places_in (answers_at order past h))
all_out order past h =
    newly_at (IsOut (h ∷ past)) 0 (out order (dues past)) (out order (dues (h ∷ past)))
    (λ i t at. subst (IsOut (h ∷ past)) (let same : i ≡ 0 + i = omega arith in same) (t, out_due order (dues (h ∷ past)) i t at))

-- ---- all that is said

module _ (count : Message → ℕ) (weight : Unit → ℕ) where
  pub total-append : (xs ys : List Message) → total count (xs ++ ys) ≡ total count xs + total count ys
  total-append [] ys = (let same : total count ys ≡ 0 + total count ys = omega arith in same)
  total-append (x ∷ xs) ys = let rest = total-append xs ys in omega (arith, rest)

  -- The answer of a unit counts no more than the unit, where it is out.
  abbrev pub IsFew : History → Type 0
  IsFew history = (place : ℕ) → IsOut history place → total count (back.answer_at history place) ≤ get_or (map weight (units_of history)) place 0

  placed_few : (history : History) (places : List ℕ) → IsFew history → AllOf (IsOut history) places → total count (flat_map (back.answer_at history) places) ≤ weights_at (map weight (units_of history)) places
  placed_few history [] few are_out = omega arith
  placed_few history (place ∷ places) few are_out =
      let one = few place are_out.0 in
      let rest = placed_few history places few are_out.1 in
      let sum = total-append (back.answer_at history place) (flat_map (back.answer_at history) places) in
      omega (arith, one, rest, sum)

  sum_is : (us : List Unit) → sum_of (map weight us) ≡ total weight us
  sum_is [] = refl
  sum_is (u ∷ us) = ap (λ n. weight u + n) (sum_is us)

  -- and at each moment
  abbrev pub AreFew : History → Type 0
  AreFew [] = ⊤
  AreFew (h ∷ past) = IsFew (h ∷ past) × AreFew past

  module _ (order : Order) (none : (past : History) (h : Happening) → total count (said_at past h) ≡ 0) where
    all_few : (history : History) → AreFew history → total count (messages_of order history) ≤ weights_at (map weight (units_of history)) (places_in (items_of order history))
    all_few [] few = omega arith
    all_few (h ∷ past) few =
        let old = places_in (items_of order past) in
        let new = places_in (answers_at order past h) in
        let ws = map weight (units_of (h ∷ past)) in
        let before = all_few past few.1 in
        let grown = at_more (map weight (units_of past)) (map weight (units_at h)) old in
        let units : map weight (units_of (h ∷ past)) ≡ map weight (units_of past) ++ map weight (units_at h) = map-append weight (units_of past) (units_at h) in
        let kept : weights_at (map weight (units_of past)) old ≤ weights_at ws old = subst (λ all. weights_at (map weight (units_of past)) old ≤ weights_at all old) (sym units) grown in
        let now = placed_few (h ∷ past) new few.0 (all_out order past h) in
        let first = total-append (messages_of order past) (messages_at order past h) in
        let second = total-append (said_at past h) (flat_map (back.answer_at (h ∷ past)) new) in
        let nothing_said = none past h in
        let where_new : places_in (items_at order past h) ≡ new = places-append (items.said_at past h) (answers_at order past h) ∙ ap (λ ps. ps ++ new) (said_nowhere past h) in
        let where_all : places_in (items_of order (h ∷ past)) ≡ old ++ new = places-append (items_of order past) (items_at order past h) ∙ ap (λ ps. old ++ ps) where_new in
        let split : weights_at ws (places_in (items_of order (h ∷ past))) ≡ weights_at ws old + weights_at ws new = ap (weights_at ws) where_all ∙ at-append ws old new in
        omega (arith, before, kept, now, first, second, nothing_said, split)

    -- all that is said counts no more than all units that came
    pub all_counted : (history : History) → AreFew history → ((place : ℕ) → (o : Option (List ℕ)) × (answers_of place (items_of order history) ≡ option_to_list o)) → total count (messages_of order history) ≤ total weight (units_of history)
    all_counted history few once =
        let most = all_few history few in
        let each = each_once (map weight (units_of history)) (places_in (items_of order history)) (λ place.
        let o = once place in
        let times = times_are place (items_of order history) in
        let size = ap length o.1 in
        let one = one_at_most o.0 in
        omega (arith, times, size, one)) in
        let sum = sum_is (units_of history) in
        omega (arith, most, each, sum)
