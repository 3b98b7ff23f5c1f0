-- The answers that a side has said are those that its host gave.
use Rattle.std.proofs.Common.{◌≡◌, ◌⊎◌, inl, inr, ℕ, zero, suc, ◌+◌, ◌==◌, List, [], ◌∷◌, ◌++◌, length, map, Bool, true, false, cond, Option, Some, None, refl, sym, ap, subst, ◌∙◌, append_assoc, append-nil, arith, length-append}
use Rattle.std.specs.Prelude.{slice_get, flat_map, get_or, option_and_then}
use Rattle.message_ids.specs.declared.id.Id.{Id}
use Rattle.message_ids.specs.declared.id.Id.TheVariants.{Null, Text, Signed, Unsigned}
use Rattle.connection_messages.specs.ReadBack.{own_id, reply_as_read, answer_as_read, answers_as_read, calls_as_read}
use Rattle.connection_messages.specs.Reading.{reply_entry}
use Rattle.connection_messages.specs.declared.answer.Answer.{Answer}
use Rattle.connection_messages.specs.declared.call.Call.{Call as Came}
use Rattle.connection_messages.specs.declared.entry.Entry.{Entry}
use Rattle.connection_messages.specs.declared.entry.Entry.TheVariants.{Call, Cancel, Reply, Stray, Invalid}
use Rattle.connection_messages.specs.declared.outgoing.Outgoing.{Outgoing}
use Rattle.connection_messages.specs.declared.reply.Reply.{Reply as Replied}
use Rattle.connection_messages.specs.declared.unit.Unit.{Unit}
use Rattle.connection_messages.specs.declared.unit.Unit.TheVariants.{Unreadable, Single, Batch}
use Rattle.connection_history.specs.declared.order.Order.{Order}
use Rattle.connection_history.specs.Items.{answers_at}
use Rattle.connection_history.specs.Stream.{entries_in, entries_along, call_in, calls_in, call_numbered, request_id, first_reply}
use Rattle.connection_history.specs.Written.{places_in}
use Rattle.connection_history.specs.History.{Happening, came, called, called_all, noticed, withdrew, answered, ended, History, or_else, units_of, stream, answer_to}
use Rattle.connection.specs.BackToBack.{Message, call, calls, notice, withdrawal, answer, answers, as_read, said_at, given_to, answer_in, answers_in, in_one, answer_of, answers_along, answer_at, messages_at, messages_of}
use Rattle.call_laws.specs.Calls as home
use Rattle.call_laws.specs.Calls.{answers_said, IsAnswered}
use Rattle.call_laws.proofs.Lists.{AllOf, all-append, all-front, all-back, all-weaker, flat-append}
use Rattle.call_laws.proofs.Histories.{slice_get-beyond, calls_in-append, call_numbered-more, answer_to-kept}
use Rattle.call_laws.proofs.Tests.{same}

-- what is said under an id of ours is an answer of the host's
abbrev pub IsGiven : History → Id × Answer → Type 0
IsGiven history x = (own_id x.0 ≡ None) ⊎ IsAnswered x.0 history x.1

abbrev pub AllGiven : History → List Message → Type 0
AllGiven history ms = AllOf (IsGiven history) (answers_said ms)

known_request : (n : ℕ) (es : List Entry) (id : Id) (o : Option Came) → call_numbered n es ≡ o → option_and_then (λ (c : Came). c.id) o ≡ Some id → (c : Came) × (call_numbered n es ≡ Some c) × (c.id ≡ Some id)
known_request n es id None is h = absurd (cc)
known_request n es id (Some c) is h = (c, is, h)

-- a request that came keeps its id
pub request-kept : (n : ℕ) (past : History) (h : Happening) (id : Id) → request_id n (stream past) ≡ Some id → request_id n (stream (h ∷ past)) ≡ Some id
request-kept n past h id is =
    let c = known_request n (stream past) id (call_numbered n (stream past)) refl is in
    ap (option_and_then (λ (c : Came). c.id)) (call_numbered-more n past h c.0 c.1) ∙ c.2

pub answered-kept : (id : Id) (past : History) (h : Happening) (given : Answer) → IsAnswered id past given → IsAnswered id (h ∷ past) given
answered-kept id past h given it = record {
  number = it.number;
  request = request-kept it.number past h id it.request;
  response = answer_to-kept it.number past h (Some given) it.response;
}

given-kept : (past : History) (h : Happening) (x : Id × Answer) → IsGiven past x → IsGiven (h ∷ past) x
given-kept past h x (inl other) = inl other
given-kept past h x (inr it) = inr (answered-kept x.0 past h x.1 it)

-- ---- the answers of a unit

here : (es fs : List Entry) (c : Came) → call_numbered (length (calls_in es) + 1) (es ++ Call c ∷ fs) ≡ Some c
here es fs c =
    let next : length (calls_in es) + 1 ≡ suc (length (calls_in es) + 0) = omega arith in
    ap (λ k. call_numbered k (es ++ Call c ∷ fs)) next ∙ ap (λ cs. slice_get cs (length (calls_in es) + 0)) (calls_in-append es (Call c ∷ fs)) ∙ slice_get-beyond (calls_in es) (c ∷ calls_in fs) 0

module _ (history : History) where
  given_one : (n : ℕ) (id : Option Id) (a : Option (Option Answer)) → request_id n (stream history) ≡ id → answer_to n history ≡ a → AllOf (IsGiven history) (given_to id a)
  given_one n None a request response = tt
  given_one n (Some id) None request response = tt
  given_one n (Some id) (Some None) request response = tt
  given_one n (Some id) (Some (Some a)) request response = (inr (record { number = n; request = request; response = response }), tt)

  entry_given : (n : ℕ) (e : Entry) (front back : List Entry) → stream history ≡ front ++ e ∷ back → n ≡ length (calls_in front) + 1 → AllOf (IsGiven history) (answer_in history n e)
  entry_given n (Call c) front back split is =
      let at : call_numbered n (stream history) ≡ Some c = (λ i. call_numbered (is i) (split i)) ∙ here front back c in
      given_one n c.id (answer_to n history) (ap (option_and_then (λ (c : Came). c.id)) at) refl
  entry_given n (Cancel id) front back split is = tt
  entry_given n (Reply k r) front back split is = tt
  entry_given n Stray front back split is = tt
  entry_given n Invalid front back split is = (inl refl, tt)

  next_is : (n : ℕ) (e : Entry) (front : List Entry) → n ≡ length (calls_in front) + 1 → n + length (call_in e) ≡ length (calls_in (front ++ e ∷ [])) + 1
  next_is n e front is =
      let sum : length (calls_in (front ++ e ∷ [])) ≡ length (calls_in front) + length (call_in e) =
      ap length (calls_in-append front (e ∷ [])) ∙ length-append (calls_in front) (calls_in (e ∷ [])) ∙ ap (λ cs. length (calls_in front) + length cs) (append-nil (call_in e)) in
      omega (arith, is, sum)

  entries_given : (n : ℕ) (es front back : List Entry) → stream history ≡ front ++ (es ++ back) → n ≡ length (calls_in front) + 1 → AllOf (IsGiven history) (answers_in history n es)
  entries_given n [] front back split is = tt
  entries_given n (e ∷ es) front back split is =
      all-append (IsGiven history) (answer_in history n e) (answers_in history (n + length (call_in e)) es) (entry_given n e front (es ++ back) split is)
      (entries_given (n + length (call_in e)) es (front ++ e ∷ []) back (split ∙ sym (append_assoc front (e ∷ []) (es ++ back))) (next_is n e front is))

  pub each_said : (xs : List (Id × Answer)) → answers_said (map (λ a. answer a.0 a.1) xs) ≡ xs
  each_said [] = refl
  each_said (x ∷ xs) = ap (λ l. x ∷ l) (each_said xs)

  pub one_said : (xs : List (Id × Answer)) → answers_said (in_one xs) ≡ xs
  one_said [] = refl
  one_said (x ∷ xs) = append-nil (x ∷ xs)

  unit_given : (n : ℕ) (u : Unit) (front back : List Entry) → stream history ≡ front ++ (entries_in u ++ back) → n ≡ length (calls_in front) + 1 → AllGiven history (answer_of history n u)
  unit_given n Unreadable front back split is = (inl refl, tt)
  unit_given n (Single e) front back split is = subst (AllOf (IsGiven history)) (sym (each_said (answer_in history n e))) (entry_given n e front back split is)
  unit_given n (Batch es) front back split is = subst (AllOf (IsGiven history)) (sym (one_said (answers_in history n es))) (entries_given n es front back split is)

  units_given : (n : ℕ) (us : List Unit) (front : List Entry) (place : ℕ) → stream history ≡ front ++ entries_along us → n ≡ length (calls_in front) + 1 → AllGiven history (get_or (answers_along history n us) place [])
  units_given n [] front place split is = tt
  units_given n (u ∷ us) front zero split is = unit_given n u front (entries_along us) split is
  units_given n (u ∷ us) front (suc place) split is =
      let sum : length (calls_in (front ++ entries_in u)) ≡ length (calls_in front) + length (calls_in (entries_in u)) =
      ap length (calls_in-append front (entries_in u)) ∙ length-append (calls_in front) (calls_in (entries_in u)) in
      units_given (n + length (calls_in (entries_in u))) us (front ++ entries_in u) place (split ∙ sym (append_assoc front (entries_in u) (entries_along us))) (omega (arith, is, sum))

  places_given : (places : List ℕ) → AllGiven history (flat_map (answer_at history) places)
  places_given [] = tt
  places_given (place ∷ places) =
      subst (AllOf (IsGiven history)) (sym (flat-append home.answers_in (answer_at history place) (flat_map (answer_at history) places)))
      (all-append (IsGiven history) (answers_said (answer_at history place)) (answers_said (flat_map (answer_at history) places)) (units_given 1 (units_of history) [] place refl refl) (places_given places))

said_gives : (past : History) (h : Happening) → answers_said (said_at past h) ≡ []
said_gives past (came o u) = refl
said_gives past (called n o) = refl
said_gives past (called_all n os) = refl
said_gives past (noticed o) = refl
said_gives past (withdrew by k) = refl
said_gives past (answered n a) = refl
said_gives past (ended close) = refl

-- all answers that were said
pub all_given : (order : Order) (history : History) → AllGiven history (messages_of order history)
all_given order [] = tt
all_given order (h ∷ past) =
    let places = places_in (answers_at order past h) in
    let now : answers_said (messages_at order past h) ≡ answers_said (flat_map (answer_at (h ∷ past)) places) =
    flat-append home.answers_in (said_at past h) (flat_map (answer_at (h ∷ past)) places) ∙ (λ i. said_gives past h i ++ answers_said (flat_map (answer_at (h ∷ past)) places)) in
    subst (AllOf (IsGiven (h ∷ past))) (sym (flat-append home.answers_in (messages_of order past) (messages_at order past h)))
    (all-append (IsGiven (h ∷ past)) (answers_said (messages_of order past)) (answers_said (messages_at order past h))
    (all-weaker (IsGiven past) (IsGiven (h ∷ past)) (given-kept past h) (answers_said (messages_of order past)) (all_given order past))
    (subst (AllOf (IsGiven (h ∷ past))) (sym now) (places_given (h ∷ past) places)))

-- ---- as they are read

own_is : (id : Id) (k : ℕ) → own_id id ≡ Some k → id ≡ Unsigned k
own_is Null k h = absurd (cc)
own_is (Text t) k h = absurd (cc)
own_is (Signed z) k h = absurd (cc)
own_is (Unsigned n) k h = from (n == 0) h
  where
    from : (b : Bool) → cond b None (Some n) ≡ Some k → Unsigned n ≡ Unsigned k
    from true h = absurd (cc)
    from false h = let same_number : n ≡ k = cc in ap Unsigned same_number

-- A response in these entries is the host's answer.
pub record Answers (k : ℕ) (history : History) (reply : Replied) : Type 0 where
  pub given : Answer
  pub answered : IsAnswered (Unsigned k) history given
  pub is : reply ≡ reply_as_read given

module _ (history : History) (k : ℕ) (reply : Replied) where
  from_one : (id : Id) (a : Answer) → IsGiven history (id, a) → first_reply k (answer_as_read id a ∷ []) ≡ Some reply → Answers k history reply
  from_one id a given found = by (own_id id) refl given found
    where
      at : (b : Bool) (j : ℕ) → own_id id ≡ Some j → (j == k) ≡ b → IsGiven history (id, a) → cond b (Some (reply_as_read a)) None ≡ Some reply → Answers k history reply
      at true j own is (inl none) found = absurd (cc)
      at true j own is (inr it) found =
          let named : id ≡ Unsigned k = own_is id j own ∙ ap Unsigned (same j k is) in
          record { given = a; answered = subst (λ i. IsAnswered i history a) named it; is = (let same_reply : reply_as_read a ≡ reply = cc in sym same_reply) }
      at false j own is given found = absurd (cc)

      by : (o : Option ℕ) → own_id id ≡ o → IsGiven history (id, a) → first_reply k (reply_entry o (reply_as_read a) ∷ []) ≡ Some reply → Answers k history reply
      by None own given found = absurd (cc)
      by (Some j) own given found = at (j == k) j own refl given found

  first_of_two : (o p : Option Replied) → or_else o p ≡ Some reply → (o ≡ Some reply) ⊎ (p ≡ Some reply)
  first_of_two None p h = inr h
  first_of_two (Some r) p h = inl h

chosen : (b : Bool) (r : Replied) (all o later : Option Replied) → all ≡ or_else o later → cond b (Some r) all ≡ or_else (cond b (Some r) o) later
chosen true r all o later h = refl
chosen false r all o later h = h

-- the first reply of entries, or else of more
pub first_reply-append : (k : ℕ) (es fs : List Entry) → first_reply k (es ++ fs) ≡ or_else (first_reply k es) (first_reply k fs)
first_reply-append k [] fs = refl
first_reply-append k (Call c ∷ es) fs = first_reply-append k es fs
first_reply-append k (Cancel id ∷ es) fs = first_reply-append k es fs
first_reply-append k (Reply j r ∷ es) fs = chosen (j == k) r (first_reply k (es ++ fs)) (first_reply k es) (first_reply k fs) (first_reply-append k es fs)
first_reply-append k (Stray ∷ es) fs = first_reply-append k es fs
first_reply-append k (Invalid ∷ es) fs = first_reply-append k es fs

no_replies : (k key : ℕ) (os : List Outgoing) → first_reply k (calls_as_read key os) ≡ None
no_replies k key [] = refl
no_replies k key (o ∷ os) = no_replies k (key + 1) os

module _ (history : History) (k : ℕ) (reply : Replied) where
  from_all : (xs : List (Id × Answer)) → AllOf (IsGiven history) xs → first_reply k (answers_as_read xs) ≡ Some reply → Answers k history reply
  from_all [] given found = absurd (cc)
  from_all (x ∷ xs) given found =
      by (from_all xs given.1) (first_of_two history k reply (first_reply k (answer_as_read x.0 x.1 ∷ [])) (first_reply k (answers_as_read xs)) (sym (first_reply-append k (answer_as_read x.0 x.1 ∷ []) (answers_as_read xs)) ∙ found))
    where
      by : (first_reply k (answers_as_read xs) ≡ Some reply → Answers k history reply) → (first_reply k (answer_as_read x.0 x.1 ∷ []) ≡ Some reply) ⊎ (first_reply k (answers_as_read xs) ≡ Some reply) → Answers k history reply
      by rest (inl now) = from_one history k reply x.0 x.1 given.0 now
      by rest (inr later) = rest later

  from_message : (m : Message) → AllOf (IsGiven history) (home.answers_in m) → first_reply k (entries_in (as_read m)) ≡ Some reply → Answers k history reply
  from_message (call key o) given found = absurd (cc)
  from_message (calls key os) given found = absurd (let none = no_replies k key os in cc)
  from_message (notice o) given found = absurd (cc)
  from_message (withdrawal by key) given found = absurd (cc)
  from_message (answer id a) given found = from_one history k reply id a given.0 found
  from_message (answers all) given found = from_all all given found

  -- a response that came is the host's answer
  pub from_messages : (ms : List Message) → AllGiven history ms → first_reply k (entries_along (map as_read ms)) ≡ Some reply → Answers k history reply
  from_messages [] given found = absurd (cc)
  from_messages (m ∷ ms) given found =
      by (all-front (IsGiven history) (home.answers_in m) (answers_said ms) given) (from_messages ms (all-back (IsGiven history) (home.answers_in m) (answers_said ms) given))
      (first_of_two history k reply (first_reply k (entries_in (as_read m))) (first_reply k (entries_along (map as_read ms))) (sym (first_reply-append k (entries_in (as_read m)) (entries_along (map as_read ms))) ∙ found))
    where
      by : AllOf (IsGiven history) (home.answers_in m) → (first_reply k (entries_along (map as_read ms)) ≡ Some reply → Answers k history reply)
          → (first_reply k (entries_in (as_read m)) ≡ Some reply) ⊎ (first_reply k (entries_along (map as_read ms)) ≡ Some reply) → Answers k history reply
      by first rest (inl now) = from_message m first now
      by first rest (inr later) = rest later
