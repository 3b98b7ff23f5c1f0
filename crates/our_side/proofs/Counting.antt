-- A connection answers no id more often than it was asked.
use Rattle.std.proofs.Common.{◌≡◌, ℕ, zero, suc, ◌+◌, ◌≤◌, false, List, [], ◌∷◌, ◌++◌, length, map, get_or, Option, Some, None, refl, sym, ap, ◌∙◌, arith, append_assoc}
use Rattle.std.specs.Prelude.{option_to_list}
use Rattle.message_ids.specs.Ids.{has_id}
use Rattle.message_ids.specs.declared.id.Id.{Id}
use Rattle.message_ids.specs.declared.id.Id.TheVariants.{Null}
use Rattle.connection_messages.specs.declared.answer.Answer.{Answer}
use Rattle.connection_messages.specs.declared.call.Call.{Call as Came}
use Rattle.connection_messages.specs.declared.entry.Entry.{Entry}
use Rattle.connection_messages.specs.declared.entry.Entry.TheVariants.{Call, Cancel, Reply, Stray, Invalid}
use Rattle.connection_messages.specs.declared.unit.Unit.{Unit}
use Rattle.connection_messages.specs.declared.unit.Unit.TheVariants.{Unreadable, Single, Batch}
use Rattle.connection.specs.BackToBack.{Message, call, calls, notice, withdrawal, answer, answers, said_at, given_to, answer_in, answers_in, in_one, answer_of, answers_along, messages_of}
use Rattle.connection_history.specs.declared.order.Order.{Order}
use Rattle.connection_history.specs.Stream.{entries_in, entries_along, call_in, calls_in}
use Rattle.connection_history.specs.History.{Happening, came, called, called_all, noticed, withdrew, answered, ended, History, units_of, answer_to, stream}
use Rattle.connection_history.specs.Items.{items_of}
use Rattle.connection_history.specs.Written.{answers_of}
use Rattle.our_side.specs.Answered.{answers_with, answered_with, asked_with, total}
use Rattle.our_side.specs.Asked.{as_number}
use Rattle.our_side.proofs.Placing.{AreFew, all_counted}

-- ---- the answers of a unit

with-append : (id : Id) (xs ys : List (Id × Answer)) → answers_with id (xs ++ ys) ≡ answers_with id xs + answers_with id ys
with-append id [] ys = (let same : answers_with id ys ≡ 0 + answers_with id ys = omega arith in same)
with-append id (x ∷ xs) ys = let rest = with-append id xs ys in omega (arith, rest)

asked-append : (id : Id) (xs ys : List Came) → asked_with id (xs ++ ys) ≡ asked_with id xs + asked_with id ys
asked-append id [] ys = (let same : asked_with id ys ≡ 0 + asked_with id ys = omega arith in same)
asked-append id (x ∷ xs) ys = let rest = asked-append id xs ys in omega (arith, rest)

calls-append : (es more : List Entry) → calls_in (es ++ more) ≡ calls_in es ++ calls_in more
calls-append [] more = refl
calls-append (e ∷ es) more = ap (λ cs. call_in e ++ cs) (calls-append es more) ∙ sym (append_assoc (call_in e) (calls_in es) (calls_in more))

module _ (id : Id) (named : has_id id (Some Null) ≡ false) where
  given_few : (o : Option Id) (given : Option (Option Answer)) → answers_with id (given_to o given) ≤ as_number (has_id id o)
  given_few None given = omega arith
  given_few (Some other) None = omega arith
  given_few (Some other) (Some None) = omega arith
  given_few (Some other) (Some (Some a)) = omega arith

  null_none : as_number (has_id id (Some Null)) ≡ 0
  null_none = ap as_number named

  entry_few : (history : History) (n : ℕ) (e : Entry) → answers_with id (answer_in history n e) ≤ asked_with id (call_in e)
  entry_few history n (Call c) = let few = given_few c.id (answer_to n history) in omega (arith, few)
  entry_few history n (Cancel other) = omega arith
  entry_few history n (Reply k r) = omega arith
  entry_few history n Stray = omega arith
  entry_few history n Invalid = let none = null_none in omega (arith, none)

  entries_few : (history : History) (n : ℕ) (es : List Entry) → answers_with id (answers_in history n es) ≤ asked_with id (calls_in es)
  entries_few history n [] = omega arith
  entries_few history n (e ∷ es) =
      let one = entry_few history n e in
      let rest = entries_few history (n + length (call_in e)) es in
      let sum = with-append id (answer_in history n e) (answers_in history (n + length (call_in e)) es) in
      let all = asked-append id (call_in e) (calls_in es) in
      omega (arith, one, rest, sum, all)

  -- what a message answers, and a unit asks
  abbrev times : Message → ℕ
  times m = answered_with id (m ∷ [])

  abbrev weight : Unit → ℕ
  weight u = asked_with id (calls_in (entries_in u))

  all_times : (ms : List Message) → total times ms ≡ answered_with id ms
  all_times [] = refl
  all_times (call key o ∷ ms) = let rest = all_times ms in omega (arith, rest)
  all_times (calls key os ∷ ms) = let rest = all_times ms in omega (arith, rest)
  all_times (notice o ∷ ms) = let rest = all_times ms in omega (arith, rest)
  all_times (withdrawal by key ∷ ms) = let rest = all_times ms in omega (arith, rest)
  all_times (answer other a ∷ ms) = let rest = all_times ms in omega (arith, rest)
  all_times (answers all ∷ ms) = let rest = all_times ms in omega (arith, rest)

  each_same : (xs : List (Id × Answer)) → total times (map (λ a. answer a.0 a.1) xs) ≡ answers_with id xs
  each_same [] = refl
  each_same (x ∷ xs) = let rest = each_same xs in omega (arith, rest)

  one_same : (xs : List (Id × Answer)) → total times (in_one xs) ≡ answers_with id xs
  one_same [] = refl
  one_same (x ∷ xs) = (let same : answers_with id (x ∷ xs) + 0 + 0 ≡ answers_with id (x ∷ xs) = omega arith in same)

  unit_few : (history : History) (n : ℕ) (u : Unit) → total times (answer_of history n u) ≤ weight u
  unit_few history n Unreadable = let none = null_none in omega (arith, none)
  unit_few history n (Single e) =
      let same = each_same (answer_in history n e) in
      let few = entry_few history n e in
      let all = asked-append id (call_in e) [] in
      omega (arith, same, few, all)
  unit_few history n (Batch es) = let same = one_same (answers_in history n es) in let few = entries_few history n es in omega (arith, same, few)

  along_few : (history : History) (n : ℕ) (us : List Unit) (place : ℕ) → total times (get_or (answers_along history n us) place []) ≤ get_or (map weight us) place 0
  along_few history n [] place = omega arith
  along_few history n (u ∷ us) zero = unit_few history n u
  along_few history n (u ∷ us) (suc place) = along_few history (n + length (calls_in (entries_in u))) us place

  are_few : (history : History) → AreFew times weight history
  are_few [] = tt
  are_few (h ∷ past) = (λ place is_out. along_few (h ∷ past) 1 (units_of (h ∷ past)) place, are_few past)

  said_none : (past : History) (h : Happening) → total times (said_at past h) ≡ 0
  said_none past (came o u) = refl
  said_none past (called n o) = refl
  said_none past (called_all n os) = refl
  said_none past (noticed o) = refl
  said_none past (withdrew by k) = refl
  said_none past (answered n a) = refl
  said_none past (ended close) = refl

  weights_are : (us : List Unit) → total weight us ≡ asked_with id (calls_in (entries_along us))
  weights_are [] = refl
  weights_are (u ∷ us) =
      ap (λ n. weight u + n) (weights_are us) ∙ sym (asked-append id (calls_in (entries_in u)) (calls_in (entries_along us))) ∙ ap (asked_with id) (sym (calls-append (entries_in u) (entries_along us)))

  pub few : (order : Order) (history : History) → ((place : ℕ) → (o : Option (List ℕ)) × (answers_of place (items_of order history) ≡ option_to_list o)) → answered_with id (messages_of order history) ≤ asked_with id (calls_in (stream history))
  few order history once =
      let most = all_counted times weight order said_none history (are_few history) once in
      let said = all_times (messages_of order history) in
      let asked = weights_are (units_of history) in
      omega (arith, most, said, asked)
