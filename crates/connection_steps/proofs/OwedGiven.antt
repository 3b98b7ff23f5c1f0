-- An answer that is given: the slot in which it stands.
use Rattle.std.proofs.Common.{◌≡◌, ◌≢◌, ℕ, zero, suc, ◌+◌, ◌<◌, ◌≤◌, ◌==◌, List, [], ◌∷◌, ◌++◌, map, length, set, Bool, true, false, cond, not, ◌&&◌, ◌||◌, Option, Some, None, ◌⊎◌, inl, inr, refl, sym, ap, subst, ◌∙◌, append-nil, arith}
use Rattle.std.proofs.lemmas.List.{map-id}
use Rattle.std.specs.Prelude.{⊤, option_map}
use Rattle.message_ids.specs.declared.id.Id.{Id}
use Rattle.connection_messages.specs.declared.answer.Answer.{Answer}
use Rattle.connection_messages.specs.declared.call.Call.{Call as Came}
use Rattle.connection_messages.specs.declared.entry.Entry.{Entry}
use Rattle.connection_messages.specs.declared.entry.Entry.TheVariants.{Call, Cancel, Reply, Stray, Invalid}
use Rattle.connection_messages.specs.declared.unit.Unit.{Unit}
use Rattle.connection_messages.specs.declared.unit.Unit.TheVariants.{Unreadable, Single, Batch}
use Rattle.connection_history.specs.declared.order.Order.{Order}
use Rattle.connection_history.specs.declared.refused.Refused.{Refused}
use Rattle.connection_history.specs.declared.refused.Refused.TheVariants.{NotOpen, Empty}
use Rattle.connection_history.specs.Stream.{entries_in, calls_in, is_cancelled}
use Rattle.connection_history.specs.History.{answered, History, stream, units_of, or_else, answer_to, is_open}
use Rattle.connection_history.specs.Items.{answers_at}
use Rattle.connection_history.specs.Refusals.{first_of, is_left, may_be_left, IsLawful}
use Rattle.connection_history.proofs.Histories.{open_unanswered}
use Rattle.connection_history.proofs.Tests.{same, same_test, apart, different, two, or_else-none}
use Rattle.open_calls.specs.declared.their_call.TheirCall.{TheirCall}
use Rattle.open_calls.specs.Numbered.{at}
use Rattle.owed_answers.specs.Owed.{OwedUnit}
use Rattle.connection_steps.specs.States.{given_text, call_slots, invalid_slot, slots_along, unit_slots, is_batch, owed_of, id_slots, theirs_along, theirs_in, theirs_of}
use Rattle.connection_steps.specs.Steps.{leaving, staying, answers_of, given_to, owed_given}
use Rattle.connection_steps.proofs.OwedSlots.{Slots, all_given, unit_with}
use Rattle.connection_steps.proofs.OwedRows.{with_slots, all_units, state_with, owed-slots}
use Rattle.connection_steps.proofs.OwedSame.{SameFrom, entries-same, units-same}
use Rattle.connection_steps.proofs.OwedChanges.{IsLater, IsChange, changed, change}
use Rattle.connection_steps.proofs.OwedSteps.{Moves, moved-owed, moved-answers}
use Rattle.connection_messages.specs.declared.cancels.Cancels.{Cancels}

-- the answer of a request stands in this slot; a notification has none
abbrev slots_given : Option Id → ℕ → Option Answer → Slots → Slots
slots_given None i a ss = ss
slots_given (Some id) i a ss = set ss i (Some (given_text id a))

-- the slots of the unit at a place, once this call is answered
abbrev given_as : Option Id → TheirCall → Option Answer → ℕ → Slots → Slots
given_as None c a place ss = ss
given_as (Some id) c a place ss = cond (c.place == place) (set ss c.slot (Some (given_text id a))) ss

abbrev given_at : Option TheirCall → Option Answer → ℕ → Slots → Slots
given_at None a place ss = ss
given_at (Some c) a place ss = given_as c.id c a place ss

-- ---- what is given stays given

given-set : (ss : Slots) (i : ℕ) (t : List ℕ) → all_given ss ≡ true → all_given (set ss i (Some t)) ≡ true
given-set [] i t given = refl
given-set (None ∷ ss) i t given = absurd (cc)
given-set (Some s ∷ ss) zero t given = given
given-set (Some s ∷ ss) (suc i) t given = given-set ss i t given

later-set : (ss : Slots) (i : ℕ) (t : List ℕ) → IsLater ss (set ss i (Some t))
later-set [] i t = refl
later-set (s ∷ ss) zero t = (tt, λ given. given-set (s ∷ ss) zero t given)
later-set (s ∷ ss) (suc i) t = (tt, λ given. given-set (s ∷ ss) (suc i) t given)

later-same : (ss : Slots) → IsLater ss ss
later-same [] = refl
later-same (s ∷ ss) = (tt, λ given. given)

later-if : (b : Bool) (ss now : Slots) → IsLater ss now → IsLater ss (cond b now ss)
later-if true ss now later = later
later-if false ss now later = later-same ss

later-given : (id : Option Id) (c : TheirCall) (a : Option Answer) → IsChange (given_as id c a)
later-given None c a place ss = later-same ss
later-given (Some id) c a place ss = later-if (c.place == place) ss (set ss c.slot (Some (given_text id a))) (later-set ss c.slot (given_text id a))

given-change : (o : Option TheirCall) (a : Option Answer) → IsChange (given_at o a)
given-change None a place ss = later-same ss
given-change (Some c) a place ss = later-given c.id c a place ss

-- ---- the units that are owed, after an answer

abbrev pair : ℕ → OwedUnit → ℕ × OwedUnit
pair place w = (place, w)

slot_if : (b : Bool) (place : ℕ) (w : OwedUnit) (ss : Slots) → pair place (unit_with w.is_batch (cond b ss w.slots)) ≡ pair place (cond b (unit_with w.is_batch ss) w)
slot_if true place w ss = refl
slot_if false place w ss = refl

request-list : (id : Id) (c : TheirCall) (a : Option Answer) (es : List (ℕ × OwedUnit)) → map (change (given_as (Some id) c a)) es ≡ given_to (Some id) c a es
request-list id c a [] = refl
request-list id c a (e ∷ es) = λ i. slot_if (c.place == e.0) e.0 e.1 (set e.1.slots c.slot (Some (given_text id a))) i ∷ request-list id c a es i

call-list : (id : Option Id) (c : TheirCall) (a : Option Answer) (es : List (ℕ × OwedUnit)) → map (change (given_as id c a)) es ≡ given_to id c a es
call-list None c a es = map-id es
call-list (Some id) c a es = request-list id c a es

given-list : (o : Option TheirCall) (a : Option Answer) (es : List (ℕ × OwedUnit)) → map (change (given_at o a)) es ≡ owed_given o a es
given-list None a es = map-id es
given-list (Some c) a es = call-list c.id c a es

-- ---- the slot of a call that is open

-- Where the answer to call n stands among the slots of a unit at a place, from this one on, whose calls end there.
record StandsIn (place first n end : ℕ) (a : Option Answer) (c : TheirCall) (was now : Slots) : Type 0 where
  index : ℕ
  same_place : c.place ≡ place
  same_slot : c.slot ≡ first + index
  within : n < end
  given : now ≡ slots_given c.id index a was

-- the slots after the answer, where this is the call that was found among theirs
abbrev IsGiven : ℕ → ℕ → ℕ → ℕ → Option Answer → Option TheirCall → Slots → Slots → Type 0
IsGiven place first n end a None was now = now ≡ was
IsGiven place first n end a (Some c) was now = StandsIn place first n end a c was now

stands-from : (place first next n end last : ℕ) (a : Option Answer) (c : TheirCall) (was now : Slots) → first ≡ next → end ≡ last → StandsIn place first n end a c was now → StandsIn place next n last a c was now
stands-from place first next n end last a c was now same_first same_end it =
    record { index = it.index; same_place = it.same_place; same_slot = omega arith; within = omega arith; given = it.given }

given-from : (place first next n end last : ℕ) (a : Option Answer) (o : Option TheirCall) (was now : Slots) → first ≡ next → end ≡ last → IsGiven place first n end a o was now → IsGiven place next n last a o was now
given-from place first next n end last a None was now same_first same_end it = it
given-from place first next n end last a (Some c) was now same_first same_end it = stands-from place first next n end last a c was now same_first same_end it

slots_given-on : (id : Option Id) (i : ℕ) (a : Option Answer) (s : Option (List ℕ)) (ss : Slots) → s ∷ slots_given id i a ss ≡ slots_given id (suc i) a (s ∷ ss)
slots_given-on None i a s ss = refl
slots_given-on (Some id) i a s ss = refl

-- one more slot stands in front
stands-on : (place first n end : ℕ) (a : Option Answer) (c : TheirCall) (s t : Option (List ℕ)) (was now : Slots) → t ≡ s → StandsIn place (first + 1) n end a c was now
    → StandsIn place first n end a c (s ∷ was) (t ∷ now)
stands-on place first n end a c s t was now same_text it =
    record {
      index = suc it.index;
      same_place = it.same_place;
      same_slot = omega arith;
      within = it.within;
      given = (λ i. same_text i ∷ it.given i) ∙ slots_given-on c.id it.index a s was;
    }

given-on : (place first n end : ℕ) (a : Option Answer) (o : Option TheirCall) (s t : Option (List ℕ)) (was now : Slots) → t ≡ s → IsGiven place (first + 1) n end a o was now
    → IsGiven place first n end a o (s ∷ was) (t ∷ now)
given-on place first n end a None s t was now same_text it = λ i. same_text i ∷ it i
given-on place first n end a (Some c) s t was now same_text it = stands-on place first n end a c s t was now same_text it

passed_entry : (b : Bool) (n m : ℕ) (c : TheirCall) (rest : List (ℕ × TheirCall)) → (n == m) ≡ false → at n (cond b ((m, c) ∷ []) [] ++ rest) ≡ at n rest
passed_entry true n m c rest other = ap (λ t. cond t (Some c) (at n rest)) other
passed_entry false n m c rest other = refl

found_entry : (b : Bool) (n m : ℕ) (c : TheirCall) (rest : List (ℕ × TheirCall)) → b ≡ true → (n == m) ≡ true → at n (cond b ((m, c) ∷ []) [] ++ rest) ≡ Some c
found_entry true n m c rest is here = ap (λ t. cond t (Some c) (at n rest)) here
found_entry false n m c rest is here = absurd (cc)

at_if : (b : Bool) (x : TheirCall) (o p q : Option TheirCall) → o ≡ or_else p q → cond b (Some x) o ≡ or_else (cond b (Some x) p) q
at_if true x o p q is = refl
at_if false x o p q is = is

at-append : (n : ℕ) (es more : List (ℕ × TheirCall)) → at n (es ++ more) ≡ or_else (at n es) (at n more)
at-append n [] more = refl
at-append n (e ∷ es) more = at_if (n == e.0) e.1 (at n (es ++ more)) (at n es) (at n more) (at-append n es more)

module _ (past : History) (n : ℕ) (a : Option Answer) where
  abbrev now : History
  now = answered n a ∷ past

  other-answer : (k : ℕ) → n ≢ k → answer_to k now ≡ answer_to k past
  other-answer k other = ap (λ b. or_else (answer_to k past) (cond b (Some a) None)) (different n k other) ∙ or_else-none (answer_to k past)

  -- calls after this one
  same-after : (m : ℕ) → n < m → SameFrom m now past
  same-after m below k from = other-answer k (λ is. omega arith)

  its-answer : (k : ℕ) → n ≡ k → answer_to n past ≡ None → answer_to k now ≡ Some a
  its-answer k is none =
      ap (λ b. or_else (answer_to k past) (cond b (Some a) None)) (same_test n k is) ∙ ap (λ o. or_else o (Some a)) (ap (λ j. answer_to j past) (sym is) ∙ none)

  module _ (opened : is_open n past ≡ true) (none : answer_to n past ≡ None) where
    its-slot : (m : ℕ) (id : Option Id) (was later : Slots) → n ≡ m → later ≡ was → call_slots now m id ++ later ≡ slots_given id 0 a (call_slots past m id ++ was)
    its-slot m None was later is same_rest = same_rest
    its-slot m (Some id) was later is same_rest = λ i. option_map (given_text id) (its-answer m is none i) ∷ same_rest i

    other-slot : (place first m end : ℕ) (id : Option Id) (o : Option TheirCall) (was later : Slots) → n ≢ m → IsGiven place (first + id_slots id) n end a o was later
        → IsGiven place first n end a o (call_slots past m id ++ was) (call_slots now m id ++ later)
    other-slot place first m end None o was later other given = given-from place (first + 0) first n end end a o was later (omega arith) refl given
    other-slot place first m end (Some id) o was later other given =
        given-on place first n end a o (option_map (given_text id) (answer_to m past)) (option_map (given_text id) (answer_to m now)) was later
        (ap (option_map (given_text id)) (other-answer m other)) given

    abbrev found : ℕ → ℕ → ℕ → List Entry → Option TheirCall
    found place m first es = at n (theirs_along past place m first es)

    abbrev their_call : ℕ → ℕ → ℕ → Came → TheirCall
    their_call place m first c = record { id = c.id; is_cancelled = is_cancelled m (stream past); place = place; slot = first }

    -- the next call is this one, or another
    call-given : (place m first : ℕ) (c : Came) (es : List Entry) → (((n == m) ≡ true) ⊎ ((n == m) ≡ false))
        → IsGiven place (first + id_slots c.id) n (m + 1 + length (calls_in es)) a (found place (m + 1) (first + id_slots c.id) es) (slots_along past (m + 1) es) (slots_along now (m + 1) es)
        → IsGiven place first n (m + length (calls_in (Call c ∷ es))) a (found place m first (Call c ∷ es)) (slots_along past m (Call c ∷ es)) (slots_along now m (Call c ∷ es))
    call-given place m first c es (inl here) others =
        let is : n ≡ m = same n m here in
        let rest = theirs_along past place (m + 1) (first + id_slots c.id) es in
        let open_here : is_open m past ≡ true = ap (λ k. is_open k past) (sym is) ∙ opened in
        subst (λ o. IsGiven place first n (m + length (calls_in (Call c ∷ es))) a o (slots_along past m (Call c ∷ es)) (slots_along now m (Call c ∷ es)))
        (sym (found_entry (is_open m past) n m (their_call place m first c) rest open_here here))
        (record {
          index = 0;
          same_place = refl;
          same_slot = omega arith;
          within = omega arith;
          given = its-slot m c.id (slots_along past (m + 1) es) (slots_along now (m + 1) es) is
              (entries-same now past (m + 1) es (same-after (m + 1) (omega arith)));
        })
    call-given place m first c es (inr other) others =
        let rest = theirs_along past place (m + 1) (first + id_slots c.id) es in
        subst (λ o. IsGiven place first n (m + length (calls_in (Call c ∷ es))) a o (slots_along past m (Call c ∷ es)) (slots_along now m (Call c ∷ es)))
        (sym (passed_entry (is_open m past) n m (their_call place m first c) rest other))
        (given-from place first first n (m + 1 + length (calls_in es)) (m + length (calls_in (Call c ∷ es))) a (at n rest) _ _ refl (omega arith)
        (other-slot place first m (m + 1 + length (calls_in es)) c.id (at n rest) (slots_along past (m + 1) es) (slots_along now (m + 1) es) (apart n m other) others))

    entries-given : (place m first : ℕ) (es : List Entry) → IsGiven place first n (m + length (calls_in es)) a (found place m first es) (slots_along past m es) (slots_along now m es)
    entries-given place m first [] = refl
    entries-given place m first (Call c ∷ es) = call-given place m first c es (two (n == m)) (entries-given place (m + 1) (first + id_slots c.id) es)
    entries-given place m first (Cancel id ∷ es) =
        given-from place (first + 0) first n (m + 0 + length (calls_in es)) (m + length (calls_in es)) a (found place (m + 0) (first + 0) es) _ _ (omega arith) (omega arith)
        (entries-given place (m + 0) (first + 0) es)
    entries-given place m first (Reply k r ∷ es) =
        given-from place (first + 0) first n (m + 0 + length (calls_in es)) (m + length (calls_in es)) a (found place (m + 0) (first + 0) es) _ _ (omega arith) (omega arith)
        (entries-given place (m + 0) (first + 0) es)
    entries-given place m first (Stray ∷ es) =
        given-from place (first + 0) first n (m + 0 + length (calls_in es)) (m + length (calls_in es)) a (found place (m + 0) (first + 0) es) _ _ (omega arith) (omega arith)
        (entries-given place (m + 0) (first + 0) es)
    entries-given place m first (Invalid ∷ es) =
        given-from place first first n (m + 0 + length (calls_in es)) (m + length (calls_in es)) a (found place (m + 0) (first + 1) es) _ _ refl (omega arith)
        (given-on place first n (m + 0 + length (calls_in es)) a (found place (m + 0) (first + 1) es) invalid_slot invalid_slot _ _ refl (entries-given place (m + 0) (first + 1) es))

    unit-given : (place m : ℕ) (u : Unit) → IsGiven place 0 n (m + length (calls_in (entries_in u))) a (found place m 0 (entries_in u)) (unit_slots past m u) (unit_slots now m u)
    unit-given place m Unreadable = refl
    unit-given place m (Single e) = entries-given place m 0 (e ∷ [])
    unit-given place m (Batch es) = entries-given place m 0 es

    -- ---- the unit of a call that is open

    abbrev IsFrom : ℕ → Option TheirCall → Type 0
    IsFrom place None = ⊤
    IsFrom place (Some c) = place ≤ c.place

    -- units from this place on after the answer, where this is the call that was found among theirs
    abbrev AreGiven : ℕ → Option TheirCall → List OwedUnit → List OwedUnit → Type 0
    AreGiven place o was later = (later ≡ changed (given_at o a) place was) × IsFrom place o

    as-before : (id : Option Id) (c : TheirCall) (place : ℕ) (ss : Slots) → c.place ≢ place → given_as id c a place ss ≡ ss
    as-before None c place ss other = refl
    as-before (Some id) c place ss other = ap (λ b. cond b (set ss c.slot (Some (given_text id a))) ss) (different c.place place other)

    at-before : (o : Option TheirCall) (place : ℕ) (ss : Slots) → IsFrom (place + 1) o → given_at o a place ss ≡ ss
    at-before None place ss from = refl
    at-before (Some c) place ss from = as-before c.id c place ss (λ is. let later : place + 1 ≤ c.place = from in omega arith)

    all-before : (c : TheirCall) (place : ℕ) (ws : List OwedUnit) → c.place < place → changed (given_at (Some c) a) place ws ≡ ws
    all-before c place [] before = refl
    all-before c place (w ∷ ws) before =
        λ i. unit_with w.is_batch (as-before c.id c place w.slots (λ is. omega arith) i) ∷ all-before c (place + 1) ws (omega arith) i

    as-here : (id : Option Id) (c : TheirCall) (place i : ℕ) (ss : Slots) → c.place ≡ place → c.slot ≡ 0 + i → slots_given id i a ss ≡ given_as id c a place ss
    as-here None c place i ss is slot = refl
    as-here (Some id) c place i ss is slot =
        let same_slot : i ≡ c.slot = omega arith in
        ap (λ k. set ss k (Some (given_text id a))) same_slot
        ∙ sym (ap (λ b. cond b (set ss c.slot (Some (given_text id a))) ss) (same_test c.place place is))

    from-next : (place : ℕ) (o : Option TheirCall) → IsFrom (place + 1) o → IsFrom place o
    from-next place None from = tt
    from-next place (Some c) from = let later : place + 1 ≤ c.place = from in omega arith

    stands-unit : (place end : ℕ) (batch : Bool) (c : TheirCall) (was later : Slots) (ws vs : List OwedUnit) → StandsIn place 0 n end a c was later
        → (n < end → vs ≡ ws) → AreGiven place (Some c) (unit_with batch was ∷ ws) (unit_with batch later ∷ vs)
    stands-unit place end batch c was later ws vs here rest = (
      λ i. unit_with batch ((here.given ∙ as-here c.id c place here.index was here.same_place here.same_slot) i)
          ∷ (rest here.within ∙ sym (all-before c (place + 1) ws (omega arith))) i,
      omega arith,
    )

    given-unit : (place end : ℕ) (batch : Bool) (o p : Option TheirCall) (was later : Slots) (ws vs : List OwedUnit) → IsGiven place 0 n end a o was later
        → (n < end → vs ≡ ws) → AreGiven (place + 1) p ws vs → AreGiven place (or_else o p) (unit_with batch was ∷ ws) (unit_with batch later ∷ vs)
    given-unit place end batch None p was later ws vs here rest others =
        (λ i. unit_with batch ((here ∙ sym (at-before p place was others.1)) i) ∷ others.0 i, from-next place p others.1)
    given-unit place end batch (Some c) p was later ws vs here rest others = stands-unit place end batch c was later ws vs here rest

    units-given : (place m : ℕ) (us : List Unit) → AreGiven place (at n (theirs_in past place m us)) (with_slots past m us) (with_slots now m us)
    units-given place m [] = (refl, tt)
    units-given place m (u ∷ us) =
        let end = m + length (calls_in (entries_in u)) in
        subst (λ o. AreGiven place o (with_slots past m (u ∷ us)) (with_slots now m (u ∷ us)))
        (sym (at-append n (theirs_along past place m 0 (entries_in u)) (theirs_in past (place + 1) end us)))
        (given-unit place end (is_batch u) (found place m 0 (entries_in u)) (at n (theirs_in past (place + 1) end us)) (unit_slots past m u) (unit_slots now m u)
        (with_slots past end us) (with_slots now end us) (unit-given place m u) (λ below. units-same now past end us (same-after end below)) (units-given (place + 1) end us))

-- ---- the answer of an open call

tested : (b o : Bool) (tests : List (Bool × Refused)) → first_of ((b || not o, NotOpen) ∷ tests) ≡ None → (b ≡ false) × (o ≡ true)
tested true o tests h = absurd (cc)
tested false true tests h = (refl, refl)
tested false false tests h = absurd (cc)

unanswered : (past : History) (n : ℕ) → (n == 0) ≡ false → is_open n past ≡ true → answer_to n past ≡ None
unanswered past zero some opened = absurd (apart zero 0 some refl)
unanswered past (suc n) some opened = open_unanswered n past opened

abbrev call_found : History → ℕ → Option TheirCall
call_found past n = at n (theirs_of past).calls

answered-moves : (cancels : Option Cancels) (past : History) (n : ℕ) (a : Option Answer) → IsLawful cancels (answered n a ∷ past) → Moves past (answered n a) (given_at (call_found past n) a) []
answered-moves cancels past n a lawful =
    let allowed = tested (n == 0) (is_open n past) ((is_left a && not (may_be_left cancels n past), Empty) ∷ []) lawful.0 in
    ap (with_slots (answered n a ∷ past) 1) (append-nil (units_of past))
    ∙ (units-given past n a allowed.1 (unanswered past n allowed.0 allowed.1) 0 1 (units_of past)).0
    ∙ sym (append-nil (changed (given_at (call_found past n) a) 0 (all_units past)))

answered-list : (order : Order) (past : History) (n : ℕ) (a : Option Answer)
    → map (change (given_at (call_found past n) a)) (owed_of order past).owed ++ [] ≡ owed_given (call_found past n) a (owed_of order past).owed
answered-list order past n a =
    append-nil (map (change (given_at (call_found past n) a)) (owed_of order past).owed) ∙ given-list (call_found past n) a (owed_of order past).owed

-- it stands in its slot, and the answers that can go out do
pub answered-owed : (cancels : Option Cancels) (order : Order) (past : History) (n : ℕ) (a : Option Answer) → IsLawful cancels (answered n a ∷ past)
    → owed_of order (answered n a ∷ past) ≡ state_with (length (units_of past)) (staying order (owed_given (call_found past n) a (owed_of order past).owed))
answered-owed cancels order past n a lawful =
    owed-slots order (answered n a ∷ past)
    ∙ (λ i. state_with (length (append-nil (units_of past) i))
    ((moved-owed order past (answered n a) (given_at (call_found past n) a) (given-change (call_found past n) a) [] (answered-moves cancels past n a lawful)
    ∙ ap (staying order) (answered-list order past n a)) i))

pub answered-answers : (cancels : Option Cancels) (order : Order) (past : History) (n : ℕ) (a : Option Answer) → IsLawful cancels (answered n a ∷ past)
    → answers_at order past (answered n a) ≡ answers_of (leaving order (owed_given (call_found past n) a (owed_of order past).owed))
answered-answers cancels order past n a lawful =
    moved-answers order past (answered n a) (given_at (call_found past n) a) (given-change (call_found past n) a) [] (answered-moves cancels past n a lawful)
    ∙ ap (λ es. answers_of (leaving order es)) (answered-list order past n a)
