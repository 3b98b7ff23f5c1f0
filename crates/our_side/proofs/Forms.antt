-- A connection answers units that are no batches by single messages, and batches by arrays, each once.
use Rattle.std.proofs.Common.{◌≡◌, ◌⊎◌, inl, inr, ◌==◌, ◌&&◌, ◌||◌, not, ℕ, zero, suc, ◌+◌, ◌-◌, ◌≤◌, Bool, true, false, if◌then◌else◌, cond, List, [], ◌∷◌, ◌++◌, length, map, get_or, Option, Some, None, option_map, refl, sym, ap, ◌∙◌, arith}
use Rattle.std.proofs.lemmas.List.{map-append}
use Rattle.std.specs.Prelude.{⊤, ◌≢◌, slice_get, option_to_list}
use Rattle.connection_history.specs.declared.refused.Refused.TheVariants.{NotOpen, Empty}
use Rattle.message_ids.specs.declared.id.Id.{Id}
use Rattle.connection_messages.specs.declared.answer.Answer.{Answer}
use Rattle.connection_messages.specs.declared.cancels.Cancels.{Cancels}
use Rattle.connection_messages.specs.declared.cancels.Cancels.TheVariants.{Lsp, Mcp}
use Rattle.connection_messages.specs.declared.entry.Entry.{Entry}
use Rattle.connection_messages.specs.declared.entry.Entry.TheVariants.{Call, Cancel, Reply, Stray, Invalid}
use Rattle.connection_messages.specs.declared.unit.Unit.{Unit}
use Rattle.connection_messages.specs.declared.unit.Unit.TheVariants.{Unreadable, Single, Batch}
use Rattle.connection.specs.BackToBack.{answer, said_at, given_to, answer_in, answers_in, in_one, answer_of, answers_along, messages_of}
use Rattle.connection_history.specs.Answers.{Texts, both, texts_of, call_texts, entry_texts, texts_along, due_from, due_of, dues_along, text}
use Rattle.connection_history.specs.declared.order.Order.{Order}
use Rattle.connection_history.specs.Stream.{entries_in, entries_along, call_in, calls_in, request_id, after_call, cancels as are_named, is_cancelled}
use Rattle.connection_history.specs.History.{Happening, came, called, called_all, noticed, withdrew, answered, ended, History, or_else, units_of, units_at, stream, is_open, answer_at, answer_to}
use Rattle.connection_history.specs.Items.{items_of}
use Rattle.connection_history.specs.Refusals.{first_of, has_cancels, may_be_left, IsLawful}
use Rattle.connection_history.specs.Written.{answers_of}
use Rattle.our_side.specs.Answered.{AreAnsweredWhole, any_cancel, has_ids, OfCall, OfUnit, OfUnits, OfSingleCalls, id_due, ids_due, passing, alone_at, came_alone, came_together, said_alone, said_together, total}
use Rattle.our_side.specs.Asked.{as_number}
use Rattle.our_side.proofs.Placing.{AreFew, all_counted}

-- a unit's answer is written once
abbrev pub WrittenOnce : Order → History → Type 0
WrittenOnce order history = (place : ℕ) → (o : Option (List ℕ)) × (answers_of place (items_of order history) ≡ option_to_list o)

-- ---- single messages

-- what holds of calls that came alone, held of those before
module _ (P : Id → Answer → Type 0) where
  call_before : (h : Happening) (past : History) (n : ℕ) (e : Entry) → OfCall P (h ∷ past) n e → OfCall P past n e
  call_before h past n (Call c) holds = λ id a is given. holds id a is (ap (λ o. or_else o (answer_at n h)) given)
  call_before h past n (Cancel id) holds = tt
  call_before h past n (Reply k r) holds = tt
  call_before h past n Stray holds = tt
  call_before h past n Invalid holds = tt

  unit_before : (h : Happening) (past : History) (n : ℕ) (u : Unit) → OfUnit P (h ∷ past) n u → OfUnit P past n u
  unit_before h past n Unreadable holds = tt
  unit_before h past n (Single e) holds = call_before h past n e holds
  unit_before h past n (Batch es) holds = tt

  units_before : (h : Happening) (past : History) (n : ℕ) (us more : List Unit) → OfUnits P (h ∷ past) n (us ++ more) → OfUnits P past n us
  units_before h past n [] more holds = tt
  units_before h past n (u ∷ us) more holds = (unit_before h past n u holds.0, units_before h past (n + length (calls_in (entries_in u))) us more holds.1)

  pub calls_before : (h : Happening) (past : History) → OfSingleCalls P (h ∷ past) → OfSingleCalls P past
  calls_before h past holds = units_before h past 1 (units_of past) (units_at h) holds

  -- and where it is so of any
  module _ (any : (id : Id) (a : Answer) → P id a) where
    call_any : (history : History) (n : ℕ) (e : Entry) → OfCall P history n e
    call_any history n (Call c) = λ id a is given. any id a
    call_any history n (Cancel id) = tt
    call_any history n (Reply k r) = tt
    call_any history n Stray = tt
    call_any history n Invalid = tt

    unit_any : (history : History) (n : ℕ) (u : Unit) → OfUnit P history n u
    unit_any history n Unreadable = tt
    unit_any history n (Single e) = call_any history n e
    unit_any history n (Batch es) = tt

    units_any : (history : History) (n : ℕ) (us : List Unit) → OfUnits P history n us
    units_any history n [] = tt
    units_any history n (u ∷ us) = (unit_any history n u, units_any history (n + length (calls_in (entries_in u))) us)

    pub calls_all : (history : History) → OfSingleCalls P history
    calls_all history = units_any history 1 (units_of history)

at_most : (b c : Bool) → (b ≡ true → c ≡ true) → as_number b ≤ as_number c
at_most false c is = omega arith
at_most true c is = let one : as_number c ≡ 1 = ap as_number (is refl) in omega (arith, one)

module _ (test : Id × Answer → Bool) (may : Id → Bool) where
  -- the answer of a call alone may pass, where it passes
  abbrev May : Id → Answer → Type 0
  May id a = test (id, a) ≡ true → may id ≡ true

  given_few : (o : Option Id) (given : Option (Option Answer)) → ((id : Id) (a : Answer) → o ≡ Some id → given ≡ Some (Some a) → May id a)
      → total (said_alone test) (map (λ a. answer a.0 a.1) (given_to o given)) ≤ passing may (option_to_list o)
  given_few None given passes = omega arith
  given_few (Some id) None passes = omega arith
  given_few (Some id) (Some None) passes = omega arith
  given_few (Some id) (Some (Some a)) passes = let few = at_most (test (id, a)) (may id) (passes id a refl refl) in omega (arith, few)

  entry_few : (history : History) (n : ℕ) (e : Entry) → OfCall May history n e → total (said_alone test) (map (λ a. answer a.0 a.1) (answer_in history n e)) ≤ alone_at test may e
  entry_few history n (Call c) passes = given_few c.id (answer_to n history) passes
  entry_few history n (Cancel id) passes = omega arith
  entry_few history n (Reply k r) passes = omega arith
  entry_few history n Stray passes = omega arith
  entry_few history n Invalid passes = omega arith

  array_few : (xs : List (Id × Answer)) → total (said_alone test) (in_one xs) ≤ 0
  array_few [] = omega arith
  array_few (x ∷ xs) = omega arith

  unit_few : (history : History) (n : ℕ) (u : Unit) → OfUnit May history n u → total (said_alone test) (answer_of history n u) ≤ came_alone test may u
  unit_few history n Unreadable passes = omega arith
  unit_few history n (Single e) passes = entry_few history n e passes
  unit_few history n (Batch es) passes = array_few (answers_in history n es)

  along_few : (history : History) (n : ℕ) (us : List Unit) (place : ℕ) → OfUnits May history n us → total (said_alone test) (get_or (answers_along history n us) place []) ≤ get_or (map (came_alone test may) us) place 0
  along_few history n [] place passes = omega arith
  along_few history n (u ∷ us) zero passes = unit_few history n u passes.0
  along_few history n (u ∷ us) (suc place) passes = along_few history (n + length (calls_in (entries_in u))) us place passes.1

  alone_few : (history : History) → OfSingleCalls May history → AreFew (said_alone test) (came_alone test may) history
  alone_few [] passes = tt
  alone_few (h ∷ past) passes = (λ place is_out. along_few (h ∷ past) 1 (units_of (h ∷ past)) place passes, alone_few past (calls_before May h past passes))

  none_alone : (past : History) (h : Happening) → total (said_alone test) (said_at past h) ≡ 0
  none_alone past (came o u) = refl
  none_alone past (called n o) = refl
  none_alone past (called_all n os) = refl
  none_alone past (noticed o) = refl
  none_alone past (withdrew by k) = refl
  none_alone past (answered n a) = refl
  none_alone past (ended close) = refl

  pub alone_once : (order : Order) (history : History) → OfSingleCalls May history → WrittenOnce order history → total (said_alone test) (messages_of order history) ≤ total (came_alone test may) (units_of history)
  alone_once order history passes once = all_counted (said_alone test) (came_alone test may) order none_alone history (alone_few history passes) once

-- ---- arrays

or_few : (a b c d : Bool) → as_number a ≤ as_number c → as_number b ≤ as_number d → as_number (a || b) ≤ as_number (c || d)
or_few a b true d first second = most_one (a || b)
  where
    most_one : (e : Bool) → as_number e ≤ 1
    most_one true = omega arith
    most_one false = omega arith
or_few true b false d first second = absurd (omega (arith, first))
or_few false b false d first second = second

has_append : (xs ys : List Id) → has_ids (xs ++ ys) ≡ has_ids xs || has_ids ys
has_append [] ys = refl
has_append (x ∷ xs) ys = refl

abbrev ids_in : List (Id × Answer) → List Id
ids_in xs = map (λ a. a.0) xs

given_has : (o : Option Id) (given : Option (Option Answer)) → as_number (has_ids (ids_in (given_to o given))) ≤ as_number (has_ids (option_to_list o))
given_has None given = omega arith
given_has (Some id) None = omega arith
given_has (Some id) (Some None) = omega arith
given_has (Some id) (Some (Some a)) = omega arith

-- what has an answer is due one
entry_has : (history : History) (n : ℕ) (e : Entry) → as_number (has_ids (ids_in (answer_in history n e))) ≤ as_number (has_ids (id_due e))
entry_has history n (Call c) = given_has c.id (answer_to n history)
entry_has history n (Cancel id) = omega arith
entry_has history n (Reply k r) = omega arith
entry_has history n Stray = omega arith
entry_has history n Invalid = omega arith

entries_have : (history : History) (n : ℕ) (es : List Entry) → as_number (has_ids (ids_in (answers_in history n es))) ≤ as_number (has_ids (ids_due es))
entries_have history n [] = omega arith
entries_have history n (e ∷ es) =
    let here = ids_in (answer_in history n e) in
    let there = ids_in (answers_in history (n + length (call_in e)) es) in
    let both_few = or_few (has_ids here) (has_ids there) (has_ids (id_due e)) (has_ids (ids_due es)) (entry_has history n e) (entries_have history (n + length (call_in e)) es) in
    let said = ap (λ ids. as_number (has_ids ids)) (map-append (λ a. a.0) (answer_in history n e) (answers_in history (n + length (call_in e)) es)) ∙ ap as_number (has_append here there) in
    let due = ap as_number (has_append (id_due e) (ids_due es)) in
    omega (arith, both_few, said, due)

one_array : (xs : List (Id × Answer)) → total (said_together has_ids) (in_one xs) ≤ as_number (has_ids (ids_in xs))
one_array [] = omega arith
one_array (x ∷ xs) = omega arith

no_array : (test : List Id → Bool) (xs : List (Id × Answer)) → total (said_together test) (map (λ a. answer a.0 a.1) xs) ≡ 0
no_array test [] = refl
no_array test (x ∷ xs) = let rest = no_array test xs in omega (arith, rest)

unit_array : (history : History) (n : ℕ) (u : Unit) → total (said_together has_ids) (answer_of history n u) ≤ came_together has_ids u
unit_array history n Unreadable = omega arith
unit_array history n (Single e) = let none = no_array has_ids (answer_in history n e) in omega (arith, none)
unit_array history n (Batch es) = let one = one_array (answers_in history n es) in let few = entries_have history n es in omega (arith, one, few)

along_array : (history : History) (n : ℕ) (us : List Unit) (place : ℕ) → total (said_together has_ids) (get_or (answers_along history n us) place []) ≤ get_or (map (came_together has_ids) us) place 0
along_array history n [] place = omega arith
along_array history n (u ∷ us) zero = unit_array history n u
along_array history n (u ∷ us) (suc place) = along_array history (n + length (calls_in (entries_in u))) us place

arrays_few : (history : History) → AreFew (said_together has_ids) (came_together has_ids) history
arrays_few [] = tt
arrays_few (h ∷ past) = (λ place is_out. along_array (h ∷ past) 1 (units_of (h ∷ past)) place, arrays_few past)

none_together : (test : List Id → Bool) (past : History) (h : Happening) → total (said_together test) (said_at past h) ≡ 0
none_together test past (came o u) = refl
none_together test past (called n o) = refl
none_together test past (called_all n os) = refl
none_together test past (noticed o) = refl
none_together test past (withdrew by k) = refl
none_together test past (answered n a) = refl
none_together test past (ended close) = refl

pub arrays_once : (order : Order) (history : History) → WrittenOnce order history → total (said_together has_ids) (messages_of order history) ≤ total (came_together has_ids) (units_of history)
arrays_once order history once = all_counted (said_together has_ids) (came_together has_ids) order (none_together has_ids) history (arrays_few history) once

-- ---- without MCP's cancels no request is closed without an answer

left_passed : (closed left : Bool) → first_of ((closed, NotOpen) ∷ (true && not left, Empty) ∷ []) ≡ None → left ≡ true
left_passed true left h = absurd (cc)
left_passed false true h = refl
left_passed false false h = absurd (cc)

left_by : (cancels : Option Cancels) (b : Bool) → (has_cancels Mcp cancels && b) ≡ true → cancels ≡ Some Mcp
left_by None b h = absurd (cc)
left_by (Some Lsp) b h = absurd (cc)
left_by (Some Mcp) b h = refl

chosen_none : (b : Bool) (a : Answer) → cond b (Some (Some a)) None ≡ Some None → ⊥
chosen_none true a h = cc
chosen_none false a h = cc

module _ (cancels : Option Cancels) (other : cancels ≢ Some Mcp) where
  left_at : (n : ℕ) (past : History) (h : Happening) → IsLawful cancels (h ∷ past) → answer_at n h ≡ Some None → ⊥
  left_at n past (came o u) lawful is = cc
  left_at n past (called m o) lawful is = cc
  left_at n past (called_all m os) lawful is = cc
  left_at n past (noticed o) lawful is = cc
  left_at n past (withdrew by k) lawful is = cc
  left_at n past (answered m None) lawful is = other (left_by cancels _ (left_passed ((m == 0) || not (is_open m past)) (may_be_left cancels m past) lawful.0))
  left_at n past (answered m (Some a)) lawful is = chosen_none (m == n) a is
  left_at n past (ended close) lawful is = cc

  left_from : (n : ℕ) (past : History) (h : Happening) (o : Option (Option Answer)) → (o ≡ Some None → ⊥) → IsLawful cancels (h ∷ past) → or_else o (answer_at n h) ≡ Some None → ⊥
  left_from n past h None earlier lawful is = left_at n past h lawful is
  left_from n past h (Some a) earlier lawful is = earlier is

  never_left : (history : History) (n : ℕ) → IsLawful cancels history → answer_to n history ≡ Some None → ⊥
  never_left [] n lawful is = cc
  never_left (h ∷ past) n lawful is = left_from n past h (answer_to n past) (never_left past n lawful.1) lawful is

-- ---- nor where no cancel came

any_targets : (id : Option Id) (es : List Entry) → are_named id es ≡ true → any_cancel es ≡ true
any_targets id [] is = is
any_targets id (Call c ∷ es) is = any_targets id es is
any_targets id (Cancel target ∷ es) is = refl
any_targets id (Reply k r ∷ es) is = any_targets id es is
any_targets id (Stray ∷ es) is = any_targets id es is
any_targets id (Invalid ∷ es) is = any_targets id es is

any_after : (n : ℕ) (es : List Entry) → any_cancel (after_call n es) ≡ true → any_cancel es ≡ true
any_after n [] is = is
any_after n (Call c ∷ es) is = from (n == 1) (any_after (n - 1) es) is
  where
    from : (b : Bool) → (any_cancel (after_call (n - 1) es) ≡ true → any_cancel es ≡ true) → any_cancel (if b then es else after_call (n - 1) es) ≡ true → any_cancel es ≡ true
    from true later any = any
    from false later any = later any
any_after n (Cancel id ∷ es) is = refl
any_after n (Reply k r ∷ es) is = any_after n es is
any_after n (Stray ∷ es) is = any_after n es is
any_after n (Invalid ∷ es) is = any_after n es is

right_true : (b c : Bool) → (b && c) ≡ true → c ≡ true
right_true true c is = is
right_true false c is = absurd (let no : false ≡ true = is in cc)

not_left : (cancels : Option Cancels) (m : ℕ) (past : History) → any_cancel (stream past) ≡ false → may_be_left cancels m past ≡ true → ⊥
not_left cancels m past quiet may =
    let any = any_after m (stream past) (any_targets (request_id m (stream past)) (after_call m (stream past)) (right_true (has_cancels Mcp cancels) (is_cancelled m (stream past)) may)) in
    (let no : true ≡ false = sym any ∙ quiet in cc)

any_front : (xs ys : List Entry) → any_cancel (xs ++ ys) ≡ false → (any_cancel xs ≡ false) × (any_cancel ys ≡ false)
any_front [] ys none = (refl, none)
any_front (Call c ∷ xs) ys none = any_front xs ys none
any_front (Cancel id ∷ xs) ys none = absurd (let no : true ≡ false = none in cc)
any_front (Reply k r ∷ xs) ys none = any_front xs ys none
any_front (Stray ∷ xs) ys none = any_front xs ys none
any_front (Invalid ∷ xs) ys none = any_front xs ys none

any_both : (xs ys : List Entry) → any_cancel xs ≡ false → any_cancel ys ≡ false → any_cancel (xs ++ ys) ≡ false
any_both [] ys first second = second
any_both (Call c ∷ xs) ys first second = any_both xs ys first second
any_both (Cancel id ∷ xs) ys first second = first
any_both (Reply k r ∷ xs) ys first second = any_both xs ys first second
any_both (Stray ∷ xs) ys first second = any_both xs ys first second
any_both (Invalid ∷ xs) ys first second = any_both xs ys first second

quiet_front : (us more : List Unit) → any_cancel (entries_along (us ++ more)) ≡ false → any_cancel (entries_along us) ≡ false
quiet_front [] more quiet = refl
quiet_front (u ∷ us) more quiet =
    let parts = any_front (entries_in u) (entries_along (us ++ more)) quiet in
    any_both (entries_in u) (entries_along us) parts.0 (quiet_front us more parts.1)

quiet_past : (h : Happening) (past : History) → any_cancel (stream (h ∷ past)) ≡ false → any_cancel (stream past) ≡ false
quiet_past h past quiet = quiet_front (units_of past) (units_at h) quiet

module _ (cancels : Option Cancels) where
  quiet_at : (n : ℕ) (past : History) (h : Happening) → any_cancel (stream past) ≡ false → IsLawful cancels (h ∷ past) → answer_at n h ≡ Some None → ⊥
  quiet_at n past (came o u) quiet lawful is = cc
  quiet_at n past (called m o) quiet lawful is = cc
  quiet_at n past (called_all m os) quiet lawful is = cc
  quiet_at n past (noticed o) quiet lawful is = cc
  quiet_at n past (withdrew by k) quiet lawful is = cc
  quiet_at n past (answered m None) quiet lawful is = not_left cancels m past quiet (left_passed ((m == 0) || not (is_open m past)) (may_be_left cancels m past) lawful.0)
  quiet_at n past (answered m (Some a)) quiet lawful is = chosen_none (m == n) a is
  quiet_at n past (ended close) quiet lawful is = cc

  quiet_from : (n : ℕ) (past : History) (h : Happening) (o : Option (Option Answer)) → (o ≡ Some None → ⊥) → any_cancel (stream past) ≡ false → IsLawful cancels (h ∷ past) → or_else o (answer_at n h) ≡ Some None → ⊥
  quiet_from n past h None earlier quiet lawful is = quiet_at n past h quiet lawful is
  quiet_from n past h (Some a) earlier quiet lawful is = earlier is

  quiet_left : (history : History) (n : ℕ) → any_cancel (stream history) ≡ false → IsLawful cancels history → answer_to n history ≡ Some None → ⊥
  quiet_left [] n quiet lawful is = cc
  quiet_left (h ∷ past) n quiet lawful is =
      let before = quiet_past h past quiet in
      quiet_from n past h (answer_to n past) (quiet_left past n before lawful.1) before lawful is

-- ---- arrays with all ids

first_whole : (cancels : Option Cancels) (u : Unit) (us : List Unit) → AreAnsweredWhole cancels (u ∷ us) → AreAnsweredWhole cancels (u ∷ []) × AreAnsweredWhole cancels us
first_whole cancels Unreadable us whole = (tt, whole)
first_whole cancels (Single e) us whole = (tt, whole)
first_whole cancels (Batch es) us whole = ((whole.0, tt), whole.1)

pub both_whole : (cancels : Option Cancels) (u : Unit) (us : List Unit) → AreAnsweredWhole cancels (u ∷ []) → AreAnsweredWhole cancels us → AreAnsweredWhole cancels (u ∷ us)
both_whole cancels Unreadable us first rest = rest
both_whole cancels (Single e) us first rest = rest
both_whole cancels (Batch es) us first rest = (first.0, rest)

whole_front : (cancels : Option Cancels) (us more : List Unit) → AreAnsweredWhole cancels (us ++ more) → AreAnsweredWhole cancels us
whole_front cancels [] more whole = tt
whole_front cancels (u ∷ us) more whole =
    let parts = first_whole cancels u (us ++ more) whole in
    both_whole cancels u us parts.0 (whole_front cancels us more parts.1)

-- A batch that is owed a text is answered under all of its ids.
module _ (history : History) where
  given_ids : (id : Id) (given : Option (Option Answer)) → (given ≡ Some None → ⊥) → (ts : List (List ℕ)) → option_map (texts_of id) given ≡ Some ts → map (λ a. a.0) (given_to (Some id) given) ≡ id ∷ []
  given_ids id None never ts is = absurd (cc)
  given_ids id (Some None) never ts is = absurd (never refl)
  given_ids id (Some (Some a)) never ts is = refl

  both_some : (these others : Texts) (ts : List (List ℕ)) → both these others ≡ Some ts → ((us : List (List ℕ)) × (these ≡ Some us)) × ((vs : List (List ℕ)) × (others ≡ Some vs))
  both_some None others ts is = absurd (cc)
  both_some (Some us) None ts is = absurd (cc)
  both_some (Some us) (Some vs) ts is = ((us, refl), (vs, refl))

  module _ (kept : (n : ℕ) → answer_to n history ≡ Some None → ⊥) where
    call_ids : (n : ℕ) (o : Option Id) (ts : List (List ℕ)) → call_texts history n o ≡ Some ts → map (λ a. a.0) (given_to o (answer_to n history)) ≡ option_to_list o
    call_ids n None ts is = refl
    call_ids n (Some id) ts is = given_ids id (answer_to n history) (kept n) ts is

    entry_ids : (n : ℕ) (e : Entry) (ts : List (List ℕ)) → entry_texts history n e ≡ Some ts → map (λ a. a.0) (answer_in history n e) ≡ id_due e
    entry_ids n (Call c) ts is = call_ids n c.id ts is
    entry_ids n (Cancel id) ts is = refl
    entry_ids n (Reply k r) ts is = refl
    entry_ids n Stray ts is = refl
    entry_ids n Invalid ts is = refl

    all_ids : (n : ℕ) (es : List Entry) (ts : List (List ℕ)) → texts_along history n es ≡ Some ts → map (λ a. a.0) (answers_in history n es) ≡ ids_due es
    all_ids n [] ts is = refl
    all_ids n (e ∷ es) ts is =
        let parts = both_some (entry_texts history n e) (texts_along history (n + length (call_in e)) es) ts is in
        map-append (λ a. a.0) (answer_in history n e) (answers_in history (n + length (call_in e)) es)
        ∙ (λ i. entry_ids n e parts.0.0 parts.0.1 i ++ all_ids (n + length (call_in e)) es parts.1.0 parts.1.1 i)

  module _ (test : List Id → Bool) where
    array_ids : (xs : List (Id × Answer)) (ids : List Id) → map (λ a. a.0) xs ≡ ids → total (said_together test) (in_one xs) ≤ as_number (test ids)
    array_ids [] ids is = omega arith
    array_ids (x ∷ xs) ids is = let same : as_number (test (map (λ a. a.0) (x ∷ xs))) ≡ as_number (test ids) = ap (λ all. as_number (test all)) is in omega (arith, same)

    due_some : (u : Unit) (texts : Texts) (t : List ℕ) → due_from u texts ≡ text t → (ts : List (List ℕ)) × (texts ≡ Some ts)
    due_some u None t is = absurd (cc)
    due_some u (Some ts) t is = (ts, refl)

    -- no call of a batch was closed without an answer
    abbrev KeptIn : Unit → Type 0
    KeptIn Unreadable = ⊤
    KeptIn (Single e) = ⊤
    KeptIn (Batch es) = (n : ℕ) → answer_to n history ≡ Some None → ⊥

    abbrev AllKept : List Unit → Type 0
    AllKept [] = ⊤
    AllKept (u ∷ us) = KeptIn u × AllKept us

    unit_together : (n : ℕ) (u : Unit) (t : List ℕ) → KeptIn u → due_of history n u ≡ text t → total (said_together test) (answer_of history n u) ≤ came_together test u
    unit_together n Unreadable t kept is = omega arith
    unit_together n (Single e) t kept is = let none = no_array test (answer_in history n e) in omega (arith, none)
    unit_together n (Batch es) t kept is =
        let due = due_some (Batch es) (texts_along history n es) t is in
        array_ids (answers_in history n es) (ids_due es) (all_ids kept n es due.0 due.1)

    along_together : (n : ℕ) (us : List Unit) (place : ℕ) (t : List ℕ) → AllKept us → slice_get (dues_along history n us) place ≡ Some (text t)
        → total (said_together test) (get_or (answers_along history n us) place []) ≤ get_or (map (came_together test) us) place 0
    along_together n [] place t kept is = omega arith
    along_together n (u ∷ us) zero t kept is = unit_together n u t kept.0 (let same : due_of history n u ≡ text t = cc in same)
    along_together n (u ∷ us) (suc place) t kept is = along_together (n + length (calls_in (entries_in u))) us place t kept.1 is

    whole_in : (cancels : Option Cancels) → IsLawful cancels history → (u : Unit) → AreAnsweredWhole cancels (u ∷ []) → KeptIn u
    whole_in cancels lawful Unreadable whole = tt
    whole_in cancels lawful (Single e) whole = tt
    whole_in cancels lawful (Batch es) whole = λ k. never_left cancels whole.0 history k lawful

    whole_kept : (cancels : Option Cancels) → IsLawful cancels history → (us : List Unit) → AreAnsweredWhole cancels us → AllKept us
    whole_kept cancels lawful [] whole = tt
    whole_kept cancels lawful (u ∷ us) whole = let parts = first_whole cancels u us whole in (whole_in cancels lawful u parts.0, whole_kept cancels lawful us parts.1)

    quiet_in : (cancels : Option Cancels) → IsLawful cancels history → any_cancel (stream history) ≡ false → (u : Unit) → KeptIn u
    quiet_in cancels lawful quiet Unreadable = tt
    quiet_in cancels lawful quiet (Single e) = tt
    quiet_in cancels lawful quiet (Batch es) = λ k. quiet_left cancels history k quiet lawful

    quiet_kept : (cancels : Option Cancels) → IsLawful cancels history → any_cancel (stream history) ≡ false → (us : List Unit) → AllKept us
    quiet_kept cancels lawful quiet [] = tt
    quiet_kept cancels lawful quiet (u ∷ us) = (quiet_in cancels lawful quiet u, quiet_kept cancels lawful quiet us)

-- no answer can be taken out of an array, or none was
abbrev IsKept : Option Cancels → History → Type 0
IsKept cancels history = AreAnsweredWhole cancels (units_of history) ⊎ (any_cancel (stream history) ≡ false)

kept_past : (cancels : Option Cancels) (h : Happening) (past : History) → IsKept cancels (h ∷ past) → IsKept cancels past
kept_past cancels h past (inl whole) = inl (whole_front cancels (units_of past) (units_at h) whole)
kept_past cancels h past (inr quiet) = inr (quiet_past h past quiet)

module _ (test : List Id → Bool) where
  all_kept : (cancels : Option Cancels) (history : History) → IsLawful cancels history → IsKept cancels history → AllKept history test (units_of history)
  all_kept cancels history lawful (inl whole) = whole_kept history test cancels lawful (units_of history) whole
  all_kept cancels history lawful (inr quiet) = quiet_kept history test cancels lawful quiet (units_of history)

  together_few : (cancels : Option Cancels) (history : History) → IsLawful cancels history → IsKept cancels history → AreFew (said_together test) (came_together test) history
  together_few cancels [] lawful kept = tt
  together_few cancels (h ∷ past) lawful kept = (
    λ place is_out. along_together (h ∷ past) test 1 (units_of (h ∷ past)) place is_out.0 (all_kept cancels (h ∷ past) lawful kept) is_out.1,
    together_few cancels past lawful.1 (kept_past cancels h past kept),
  )

  pub together_once : (cancels : Option Cancels) (order : Order) (history : History) → IsLawful cancels history → IsKept cancels history → WrittenOnce order history
      → total (said_together test) (messages_of order history) ≤ total (came_together test) (units_of history)
  together_once cancels order history lawful kept once = all_counted (said_together test) (came_together test) order (none_together test) history (together_few cancels history lawful kept) once
