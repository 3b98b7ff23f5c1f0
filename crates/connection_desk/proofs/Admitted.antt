-- What the entries of a unit do once all of its calls are open is what they do one after another.
use Rattle.std.proofs.Common.{◌≡◌, ℕ, suc, ◌+◌, ◌<◌, ◌≤◌, ◌^◌, ◌&&◌, nat_le, Bool, true, false, cond, if◌then◌else◌, List, [], ◌∷◌, ◌++◌, length, map, refl, sym, ap, subst, ◌∙◌, arith, add-zero, append_assoc, append-nil, length-append}
use Rattle.std.proofs.lemmas.List.{map-append}
use Rattle.std.proofs.lemmas.List.Elements.{filter-append}
use Rattle.std.proofs.lemmas.Bool.{le-leb, leb-true, false_from_ne_true}
use Rattle.std.specs.List.{filter}
use Rattle.message_ids.specs.declared.id.Id.{Id}
use Rattle.connection_messages.specs.declared.entry.Entry.{Entry}
use Rattle.connection_messages.specs.declared.entry.Entry.TheVariants.{Call, Cancel, Reply, Stray, Invalid}
use Rattle.connection_history.specs.declared.event.Event.TheVariants as event
use Rattle.connection_history.specs.Counts.{is_unreadable}
use Rattle.connection_history.specs.Stream.{call_in, calls_in, entries_in}
use Rattle.connection_messages.specs.declared.unit.Unit.{Unit}
use Rattle.open_calls.specs.declared.their_call.TheirCall.{TheirCall}
use Rattle.open_calls.specs.Numbered.{up_to, Above, Below}
use Rattle.open_calls.specs.Own.{OwnState}
use Rattle.open_calls.specs.Theirs.{TheirState, new_call, is_reached, cancelled}
use Rattle.connection_desk.proofs.Entries.{ArrivalLaws}
use Rattle.connection_desk.proofs.States.{their_state as state_of}
use Rattle.connection_steps.specs.States.{slot_count}
use Rattle.connection_steps.specs.Steps.{cancelled_if, cancelled_all, reached_numbers, theirs_after, theirs_after_all, own_after, told_of, told_of_all}
use Rattle.connection_steps.specs.Tallies.{requests_in, invalid_in, ignored_if, ignored_in}
use Rattle.connection_desk.specs.declared.tally.Tally.{Tally}
use Rattle.connection_desk.specs.Desks.{with_answers}
use Rattle.connection_desk.specs.Inner.{added_call, added_calls, cancelled_to, told_at, told_along, calls_at, calls_along, counted_in}
use Rattle.connection_desk.proofs.Counting.{IsFew, ignored_along, with_unit, all_counted}

-- ---- numbers

above_less : {X : Type 0} (m k : ℕ) (es : List (ℕ × X)) → m ≤ k → Above k es → Above m es
above_less m k [] le above = tt
above_less m k (e ∷ es) le above = (let lt : k < e.0 = above.0 in omega arith, above_less m k es le above.1)

above-append : {X : Type 0} (m : ℕ) (es fs : List (ℕ × X)) → Above m es → Above m fs → Above m (es ++ fs)
above-append m [] fs here there = there
above-append m (e ∷ es) fs here there = (here.0, above-append m es fs here.1 there)

entry_above : (place slot n : ℕ) (e : Entry) → Above n (added_call place slot n e)
entry_above place slot n (Call c) = (omega arith, tt)
entry_above place slot n (Cancel id) = tt
entry_above place slot n (Reply k r) = tt
entry_above place slot n Stray = tt
entry_above place slot n Invalid = tt

added_above : (place slot n : ℕ) (es : List Entry) → Above n (added_calls place slot n es)
added_above place slot n [] = tt
added_above place slot n (e ∷ es) =
    above-append n (added_call place slot n e) (added_calls place (slot + slot_count e) (n + length (call_in e)) es) (entry_above place slot n e)
    (above_less n (n + length (call_in e)) (added_calls place (slot + slot_count e) (n + length (call_in e)) es) (omega arith) (added_above place (slot + slot_count e) (n + length (call_in e)) es))

below_step : {X : Type 0} (b : Bool) (m : ℕ) (e : ℕ × X) (es : List (ℕ × X)) → (b ≡ true → e.0 < suc m) → Below (suc m) es → Below (suc m) (cond b (e ∷ es) es)
below_step true m e es here there = (here refl, there)
below_step false m e es here there = there

below_up_to : {X : Type 0} (m : ℕ) (es : List (ℕ × X)) → Below (suc m) (up_to m es)
below_up_to m [] = tt
below_up_to m (e ∷ es) = below_step (nat_le e.0 m) m e (up_to m es) (λ is. let le : e.0 ≤ m = leb-true e.0 m is in omega arith) (below_up_to m es)

pub below_of : {X : Type 0} (m : ℕ) (es : List (ℕ × X)) → up_to m es ≡ es → Below (suc m) es
below_of m es is = subst (λ fs. Below (suc m) fs) is (below_up_to m es)

front_of : {X : Type 0} (laws : ArrivalLaws X) (n : ℕ) (front added : List (ℕ × X)) → Below (suc n) front → Above n added → up_to n (front ++ added) ≡ front
front_of laws n front added under over =
    filter-append (λ e. nat_le e.0 n) front added ∙ ap (λ fs. fs ++ up_to n added) (laws.up_to_below n front under) ∙ ap (λ fs. front ++ fs) (laws.up_to_above n added over) ∙ append-nil front

-- ---- a cancel

cancelled_front : (n : ℕ) (id : Id) (es : List (ℕ × TheirCall)) → Below (suc n) es → cancelled_to n id es ≡ cancelled_all id es
cancelled_front n id [] under = refl
cancelled_front n id (e ∷ es) under =
    ap (λ b. (e.0, cond (b && is_reached id e.1) (cancelled e.1) e.1) ∷ cancelled_to n id es) (le-leb e.0 n (let lt : e.0 < suc n = under.0 in omega arith))
    ∙ ap (λ fs. (e.0, cancelled_if id e.1) ∷ fs) (cancelled_front n id es under.1)

cancelled_behind : (n : ℕ) (id : Id) (es : List (ℕ × TheirCall)) → Above n es → cancelled_to n id es ≡ es
cancelled_behind n id [] over = refl
cancelled_behind n id (e ∷ es) over =
    ap (λ b. (e.0, cond (b && is_reached id e.1) (cancelled e.1) e.1) ∷ cancelled_to n id es)
    (false_from_ne_true (nat_le e.0 n) (λ le. let less : e.0 ≤ n = leb-true e.0 n le in let lt : n < e.0 = over.0 in omega arith))
    ∙ ap (λ fs. e ∷ fs) (cancelled_behind n id es over.1)

cancelled_there : (n : ℕ) (id : Id) (front added : List (ℕ × TheirCall)) → Below (suc n) front → Above n added → cancelled_to n id (front ++ added) ≡ cancelled_all id front ++ added
cancelled_there n id front added under over =
    map-append (λ (e : ℕ × TheirCall). (e.0, (if nat_le e.0 n && is_reached id e.1 then cancelled e.1 else e.1))) front added
    ∙ ap (λ fs. fs ++ cancelled_to n id added) (cancelled_front n id front under)
    ∙ ap (λ fs. cancelled_all id front ++ fs) (cancelled_behind n id added over)

below_all : (n : ℕ) (id : Id) (es : List (ℕ × TheirCall)) → Below n es → Below n (cancelled_all id es)
below_all n id [] under = tt
below_all n id (e ∷ es) under = (under.0, below_all n id es under.1)

-- ---- an entry

calls_entry : (place slot n : ℕ) (front added : List (ℕ × TheirCall)) (e : Entry) → Below (suc n) front → Above n added
    → calls_at n e (front ++ (added_call place slot n e ++ added)) ≡ (theirs_after place slot e (state_of n front)).calls ++ added
calls_entry place slot n front added (Call c) under over = sym (append_assoc front ((n + 1, new_call c.id place slot) ∷ []) added)
calls_entry place slot n front added (Cancel id) under over = cancelled_there n id front added under over
calls_entry place slot n front added (Reply k r) under over = refl
calls_entry place slot n front added Stray under over = refl
calls_entry place slot n front added Invalid under over = refl

came_entry : (place slot n : ℕ) (front : List (ℕ × TheirCall)) (e : Entry)
    → theirs_after place slot e (state_of n front) ≡ state_of (n + length (call_in e)) (theirs_after place slot e (state_of n front)).calls
came_entry place slot n front (Call c) = refl
came_entry place slot n front (Cancel id) = ap (λ m. state_of m (cancelled_all id front)) (sym (add-zero n))
came_entry place slot n front (Reply k r) = ap (λ m. state_of m front) (sym (add-zero n))
came_entry place slot n front Stray = ap (λ m. state_of m front) (sym (add-zero n))
came_entry place slot n front Invalid = ap (λ m. state_of m front) (sym (add-zero n))

below_entry : (laws : ArrivalLaws TheirCall) (place slot n : ℕ) (front : List (ℕ × TheirCall)) (e : Entry) → Below (suc n) front
    → Below (suc (n + length (call_in e))) (theirs_after place slot e (state_of n front)).calls
below_entry laws place slot n front (Call c) under = laws.push (suc (n + 1)) (n + 1) (new_call c.id place slot) front (omega arith) (laws.more (suc n) (suc (n + 1)) front (omega arith) under)
below_entry laws place slot n front (Cancel id) under = laws.more (suc n) (suc (n + 0)) (cancelled_all id front) (omega arith) (below_all (suc n) id front under)
below_entry laws place slot n front (Reply k r) under = laws.more (suc n) (suc (n + 0)) front (omega arith) under
below_entry laws place slot n front Stray under = laws.more (suc n) (suc (n + 0)) front (omega arith) under
below_entry laws place slot n front Invalid under = laws.more (suc n) (suc (n + 0)) front (omega arith) under

-- ---- all entries

pub theirs_along : (laws : ArrivalLaws TheirCall) (place slot n : ℕ) (front : List (ℕ × TheirCall)) (es : List Entry) → Below (suc n) front
    → state_of (n + length (calls_in es)) (calls_along n es (front ++ added_calls place slot n es)) ≡ theirs_after_all place slot es (state_of n front)
theirs_along laws place slot n front [] under = ap (λ m. state_of m (front ++ [])) (add-zero n) ∙ ap (λ fs. state_of n fs) (append-nil front)
theirs_along laws place slot n front (e ∷ es) under =
    let m = n + length (call_in e) in
    let slot2 = slot + slot_count e in
    let calls = (theirs_after place slot e (state_of n front)).calls in
    let added = added_calls place slot2 m es in
    let total : n + length (calls_in (e ∷ es)) ≡ m + length (calls_in es) = omega (arith, length-append (call_in e) (calls_in es)) in
    ap (λ k. state_of k (calls_along m es (calls_at n e (front ++ (added_call place slot n e ++ added))))) total
    ∙ ap (λ fs. state_of (m + length (calls_in es)) (calls_along m es fs))
    (calls_entry place slot n front added e under (above_less n m added (omega arith) (added_above place slot2 m es)))
    ∙ theirs_along laws place slot2 m calls es (below_entry laws place slot n front e under)
    ∙ ap (λ s. theirs_after_all place slot2 es s) (sym (came_entry place slot n front e))

-- ---- what is told

-- a call without the place of its answer
abbrev plain : ℕ × TheirCall → ℕ × TheirCall
plain e = (e.0, record { id = e.1.id; is_cancelled = e.1.is_cancelled; place = 0; slot = 0 })

abbrev plains : List (ℕ × TheirCall) → List (ℕ × TheirCall)
plains es = map plain es

reached_step : (b : Bool) (e : ℕ × TheirCall) (es fs : List (ℕ × TheirCall)) → map (λ x. x.0) fs ≡ map (λ x. x.0) es
    → map (λ x. x.0) (cond b (plain e ∷ fs) fs) ≡ map (λ x. x.0) (cond b (e ∷ es) es)
reached_step true e es fs is = ap (λ ks. e.0 ∷ ks) is
reached_step false e es fs is = is

reached_plain : (id : Id) (es : List (ℕ × TheirCall)) → reached_numbers id (plains es) ≡ reached_numbers id es
reached_plain id [] = refl
reached_plain id (e ∷ es) =
    reached_step (is_reached id e.1) e (filter (λ x. is_reached id x.1) es) (filter (λ x. is_reached id x.1) (plains es)) (reached_plain id es)

cancelled_step : (b : Bool) (e : ℕ × TheirCall) → (e.0, cond b (cancelled (plain e).1) (plain e).1) ≡ plain (e.0, cond b (cancelled e.1) e.1)
cancelled_step true e = refl
cancelled_step false e = refl

cancelled_plain : (id : Id) (es : List (ℕ × TheirCall)) → cancelled_all id (plains es) ≡ plains (cancelled_all id es)
cancelled_plain id [] = refl
cancelled_plain id (e ∷ es) =
    ap (λ x. x ∷ cancelled_all id (plains es)) (cancelled_step (is_reached id e.1) e) ∙ ap (λ xs. plain (e.0, cancelled_if id e.1) ∷ xs) (cancelled_plain id es)

told_entry : (laws : ArrivalLaws TheirCall) (place slot n : ℕ) (own : OwnState) (front added : List (ℕ × TheirCall)) (e : Entry) (s : TheirState) → Below (suc n) front → Above n added → s.came ≡ n → plains front ≡ plains s.calls
    → told_at n own (front ++ (added_call place slot n e ++ added)) e ≡ told_of own s e
told_entry laws place slot n own front added (Call c) s under over came alike = ap (λ m. event.Call (m + 1) c ∷ []) (sym came)
told_entry laws place slot n own front added (Cancel id) s under over came alike =
    ap (λ es. map event.Cancelled (reached_numbers id es)) (front_of laws n front added under over)
    ∙ ap (λ ks. map event.Cancelled ks) (sym (reached_plain id front) ∙ ap (λ es. reached_numbers id es) alike ∙ reached_plain id s.calls)
told_entry laws place slot n own front added (Reply k r) s under over came alike = refl
told_entry laws place slot n own front added Stray s under over came alike = refl
told_entry laws place slot n own front added Invalid s under over came alike = refl

alike_entry : (place slot n : ℕ) (front : List (ℕ × TheirCall)) (e : Entry) (s : TheirState) → s.came ≡ n → plains front ≡ plains s.calls
    → plains (theirs_after place slot e (state_of n front)).calls ≡ plains (theirs_after 0 0 e s).calls
alike_entry place slot n front (Call c) s came alike =
    map-append plain front ((n + 1, new_call c.id place slot) ∷ [])
    ∙ ap (λ es. es ++ (n + 1, new_call c.id 0 0) ∷ []) alike
    ∙ ap (λ m. plains s.calls ++ (m + 1, new_call c.id 0 0) ∷ []) (sym came)
    ∙ sym (map-append plain s.calls ((s.came + 1, new_call c.id 0 0) ∷ []))
alike_entry place slot n front (Cancel id) s came alike =
    sym (cancelled_plain id front) ∙ ap (λ es. cancelled_all id es) alike ∙ cancelled_plain id s.calls
alike_entry place slot n front (Reply k r) s came alike = alike
alike_entry place slot n front Stray s came alike = alike
alike_entry place slot n front Invalid s came alike = alike

count_entry : (n : ℕ) (e : Entry) (s : TheirState) → s.came ≡ n → (theirs_after 0 0 e s).came ≡ n + length (call_in e)
count_entry n (Call c) s came = ap (λ m. m + 1) came
count_entry n (Cancel id) s came = came ∙ sym (add-zero n)
count_entry n (Reply k r) s came = came ∙ sym (add-zero n)
count_entry n Stray s came = came ∙ sym (add-zero n)
count_entry n Invalid s came = came ∙ sym (add-zero n)

told_alike : (laws : ArrivalLaws TheirCall) (place slot n : ℕ) (own : OwnState) (front : List (ℕ × TheirCall)) (es : List Entry) (s : TheirState) → Below (suc n) front → s.came ≡ n → plains front ≡ plains s.calls
    → told_along n own (front ++ added_calls place slot n es) es ≡ told_of_all own s es
told_alike laws place slot n own front [] s under came alike = refl
told_alike laws place slot n own front (e ∷ es) s under came alike =
    let m = n + length (call_in e) in
    let slot2 = slot + slot_count e in
    let calls = (theirs_after place slot e (state_of n front)).calls in
    let added = added_calls place slot2 m es in
    let over = above_less n m added (omega arith) (added_above place slot2 m es) in
    let all = front ++ (added_call place slot n e ++ added) in
    ap (λ told. told ++ told_along m (own_after e own) (calls_at n e all) es) (told_entry laws place slot n own front added e s under over came alike)
    ∙ ap (λ fs. told_of own s e ++ told_along m (own_after e own) fs es) (calls_entry place slot n front added e under over)
    ∙ ap (λ told. told_of own s e ++ told)
    (told_alike laws place slot2 m (own_after e own) calls es (theirs_after 0 0 e s) (below_entry laws place slot n front e under) (count_entry n e s came) (alike_entry place slot n front e s came alike))

pub told_same : (laws : ArrivalLaws TheirCall) (place n : ℕ) (own : OwnState) (front : List (ℕ × TheirCall)) (es : List Entry) → Below (suc n) front
    → told_along n own (front ++ added_calls place 0 n es) es ≡ told_of_all own (state_of n front) es
told_same laws place n own front es under = told_alike laws place 0 n own front es (state_of n front) under refl refl

-- ---- what is ignored

ignored_alike : (laws : ArrivalLaws TheirCall) (place slot n : ℕ) (own : OwnState) (front : List (ℕ × TheirCall)) (es : List Entry) (s : TheirState) → Below (suc n) front → s.came ≡ n → plains front ≡ plains s.calls
    → ignored_along n own (front ++ added_calls place slot n es) es ≡ ignored_in own s es
ignored_alike laws place slot n own front [] s under came alike = refl
ignored_alike laws place slot n own front (e ∷ es) s under came alike =
    let m = n + length (call_in e) in
    let slot2 = slot + slot_count e in
    let calls = (theirs_after place slot e (state_of n front)).calls in
    let added = added_calls place slot2 m es in
    let over = above_less n m added (omega arith) (added_above place slot2 m es) in
    let all = front ++ (added_call place slot n e ++ added) in
    ap (λ told. ignored_if e told + ignored_along m (own_after e own) (calls_at n e all) es) (told_entry laws place slot n own front added e s under over came alike)
    ∙ ap (λ fs. ignored_if e (told_of own s e) + ignored_along m (own_after e own) fs es) (calls_entry place slot n front added e under over)
    ∙ ap (λ k. ignored_if e (told_of own s e) + k)
    (ignored_alike laws place slot2 m (own_after e own) calls es (theirs_after 0 0 e s) (below_entry laws place slot n front e under) (count_entry n e s came) (alike_entry place slot n front e s came alike))

pub ignored_same : (laws : ArrivalLaws TheirCall) (place n : ℕ) (own : OwnState) (front : List (ℕ × TheirCall)) (es : List Entry) → Below (suc n) front
    → ignored_along n own (front ++ added_calls place 0 n es) es ≡ ignored_in own (state_of n front) es
ignored_same laws place n own front es under = ignored_alike laws place 0 n own front es (state_of n front) under refl refl

-- ---- what is counted

-- a unit adds its counts, where its answers that went out were counted before
pub unit_counted : (laws : ArrivalLaws TheirCall) (place n : ℕ) (own : OwnState) (front : List (ℕ × TheirCall)) (u : Unit) (answers : ℕ) (t : Tally) → Below (suc n) front → IsFew t → t.unreadable < 2 ^ 64
    → counted_in u n own (front ++ added_calls place 0 n (entries_in u)) (with_answers answers t)
    ≡ with_unit (requests_in (entries_in u)) (if is_unreadable u then 1 else 0) (invalid_in (entries_in u)) (ignored_in own (state_of n front) (entries_in u)) (with_answers answers t)
unit_counted laws place n own front u answers t under few readable =
    let es = entries_in u in
    all_counted u n own (front ++ added_calls place 0 n es) (with_answers answers t) (record { requests = few.requests; invalid = few.invalid; ignored = few.ignored }) readable
    ∙ ap (λ k. with_unit (requests_in es) (if is_unreadable u then 1 else 0) (invalid_in es) k (with_answers answers t)) (ignored_same laws place n own front es under)
