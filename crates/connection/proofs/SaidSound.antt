-- Each message that is said can be read.
use Rattle.std.proofs.Common.{◌≡◌, ℕ, zero, suc, ◌+◌, ◌<◌, ◌≤◌, ◌^◌, ◌==◌, ◌&&◌, not, nat_lt, Bool, true, false, cond, List, [], ◌∷◌, ◌++◌, map, get_or, length, Option, Some, None, refl, ap, subst, arith}
use Rattle.std.proofs.lemmas.Bool.Decides.{nat_tests}
use Rattle.std.proofs.lemmas.List.{length-append, length-map}
use Rattle.std.proofs.lemmas.Option.{slice_get_within}
use Rattle.std.specs.Prelude.{⊤, flat_map}
use Rattle.std.specs.Option.{option_map_or, is_none}
use Rattle.message_ids.specs.declared.id.Id.{Id}
use Rattle.connection_messages.specs.ReadBack.{IsSayable, AreSayable, IsId, IsAnswer, AreAnswers}
use Rattle.connection_messages.specs.declared.answer.Answer.{Answer}
use Rattle.connection_messages.specs.declared.call.Call.{Call as Came}
use Rattle.connection_messages.specs.declared.cancels.Cancels.{Cancels}
use Rattle.connection_messages.specs.declared.cancels.Cancels.TheVariants.{Lsp, Mcp}
use Rattle.connection_messages.specs.declared.entry.Entry.{Entry}
use Rattle.connection_messages.specs.declared.entry.Entry.TheVariants.{Call, Cancel, Reply, Stray, Invalid}
use Rattle.connection_messages.specs.declared.outgoing.Outgoing.{Outgoing}
use Rattle.connection_messages.specs.declared.unit.Unit.{Unit}
use Rattle.connection_messages.specs.declared.unit.Unit.TheVariants.{Unreadable, Single, Batch}
use Rattle.connection_history.specs.declared.order.Order.{Order}
use Rattle.connection_history.specs.declared.refused.Refused.TheVariants.{NotOpen, NotWaiting, Over, Empty, Full}
use Rattle.connection_history.specs.Stream.{entries_in, call_in, calls_in}
use Rattle.connection_history.specs.History.{Happening, came, called, called_all, noticed, withdrew, answered, ended, History, or_else, units_of, units_at, is_open, is_over, callers, callers_at, key_count, caller_of, reply_to, is_given_up, is_waiting, is_withdrawn, answer_at, answer_to}
use Rattle.connection_history.specs.Items.{answers_at}
use Rattle.connection_history.specs.Refusals.{first_of, most_keys, same_cancels, has_cancels, call_refusal, refusal, IsLawful}
use Rattle.connection_history.specs.Written.{places_in}
use Rattle.connection.specs.BackToBack as back
use Rattle.connection.specs.BackToBack.{Message, call, calls, notice, withdrawal, answer, answers, said_at, given_to, answer_in, answers_in, in_one, answer_of, answers_along, messages_at, messages_of}
use Rattle.connection.specs.Connections.{IsGiven, IsTyped, AreTyped}

-- What the laws of texts ask for, where the reader has these cancels.
abbrev pub IsSound : Option Cancels → Message → Type 0
IsSound cancels (call key o) = (key < 2 ^ 64) × IsSayable o
IsSound cancels (calls key []) = ⊥
IsSound cancels (calls key (o ∷ os)) = (key + length (o ∷ os) ≤ 2 ^ 64) × AreSayable (o ∷ os)
IsSound cancels (notice o) = IsSayable o
IsSound cancels (withdrawal by key) = (key < 2 ^ 64) × (cancels ≡ Some by)
IsSound cancels (answer id a) = IsId id × IsAnswer a
IsSound cancels (answers []) = ⊥
IsSound cancels (answers (a ∷ more)) = AreAnswers (a ∷ more)

abbrev pub AreSound : Option Cancels → List Message → Type 0
AreSound cancels [] = ⊤
AreSound cancels (m ∷ ms) = IsSound cancels m × AreSound cancels ms

sound-append : (cancels : Option Cancels) (ms more : List Message) → AreSound cancels ms → AreSound cancels more → AreSound cancels (ms ++ more)
sound-append cancels [] more first second = second
sound-append cancels (m ∷ ms) more first second = (first.0, sound-append cancels ms more first.1 second)

-- ---- what wasn't refused

has_room : (b c d e : Bool) → first_of ((b, NotOpen) ∷ (c, Over) ∷ (d, Empty) ∷ (e, Full) ∷ []) ≡ None → (d ≡ false) × (e ≡ false)
has_room true c d e h = absurd (cc)
has_room false true d e h = absurd (cc)
has_room false false true e h = absurd (cc)
has_room false false false true h = absurd (cc)
has_room false false false false h = (refl, refl)

called_room : (past : History) (n count : ℕ) → call_refusal past n count ≡ None → ((count == 0) ≡ false) × (key_count past + count ≤ most_keys)
called_room past n count h =
    let parts = has_room (not (is_open n past)) (is_over past) (count == 0) (nat_lt most_keys (key_count past + count)) h in
    let room : nat_lt most_keys (key_count past + count) ≡ false = parts.1 in
    (parts.0, grind (arith, nat_tests))

kept_true : (b : Bool) → first_of ((not b, NotWaiting) ∷ []) ≡ None → b ≡ true
kept_true true h = refl
kept_true false h = absurd (cc)

both_true : (a b c : Bool) → (a && b && c) ≡ true → (a ≡ true) × (b ≡ true)
both_true true true c h = (refl, refl)
both_true true false c h = absurd (cc)
both_true false b c h = absurd (cc)

same_is : (by of : Cancels) → same_cancels by of ≡ true → of ≡ by
same_is Lsp Lsp h = refl
same_is Lsp Mcp h = absurd (cc)
same_is Mcp Lsp h = absurd (cc)
same_is Mcp Mcp h = refl

has_is : (by : Cancels) (cancels : Option Cancels) → has_cancels by cancels ≡ true → cancels ≡ Some by
has_is by None h = absurd (cc)
has_is by (Some of) h = ap (λ c. Some c) (same_is by of h)

-- ---- keys are small

waits_made : (caller : Option ℕ) (opened : ℕ → Bool) (b c d : Bool) → (option_map_or opened caller false && b && c && d) ≡ true → (n : ℕ) × (caller ≡ Some n)
waits_made None opened b c d h = absurd (cc)
waits_made (Some n) opened b c d h = (n, refl)

made_within : (key : ℕ) (history : History) (n : ℕ) → caller_of key history ≡ Some n → key ≤ key_count history
made_within zero history n is = omega arith
made_within (suc k) history n is = let within = slice_get_within (callers history) k n is in omega (arith, within)

waits_within : (key : ℕ) (history : History) → is_waiting key history ≡ true → key ≤ key_count history
waits_within key history waits =
    let made = waits_made (caller_of key history) (λ n. is_open n history) (is_none (reply_to key history)) (not (is_over history)) (not (is_given_up key history)) waits in
    made_within key history made.0 made.1

callers_few : (cancels : Option Cancels) (past : History) (h : Happening) → refusal cancels past h ≡ None → key_count past ≤ most_keys → key_count past + length (callers_at h) ≤ most_keys
callers_few cancels past (came o u) allowed few = omega (arith, few)
callers_few cancels past (called n o) allowed few = (called_room past n 1 allowed).1
callers_few cancels past (called_all n os) allowed few =
    let room = (called_room past n (length os) allowed).1 in
    omega (arith, room, length-map os (λ (o : Outgoing). n))
callers_few cancels past (noticed o) allowed few = omega (arith, few)
callers_few cancels past (withdrew by k) allowed few = omega (arith, few)
callers_few cancels past (answered n a) allowed few = omega (arith, few)
callers_few cancels past (ended close) allowed few = omega (arith, few)

keys_few : (cancels : Option Cancels) (history : History) → IsLawful cancels history → key_count history ≤ most_keys
keys_few cancels [] lawful = omega arith
keys_few cancels (h ∷ past) lawful =
    let more = callers_few cancels past h lawful.0 (keys_few cancels past lawful.1) in
    omega (arith, more, length-append (callers past) (callers_at h))

-- ---- what the host says

batch_sound : (cancels : Option Cancels) (key : ℕ) (os : List Outgoing) → (length os == 0) ≡ false → key + length os ≤ 2 ^ 64 → AreSayable os → IsSound cancels (calls key os)
batch_sound cancels key [] some few are = absurd (cc)
batch_sound cancels key (o ∷ os) some few are = (few, are)

said_sound : (cancels : Option Cancels) (past : History) (h : Happening) → IsLawful cancels (h ∷ past) → IsTyped h → AreSound cancels (said_at past h)
said_sound cancels past (came o u) lawful can = tt
said_sound cancels past (called n o) lawful can =
    let room = (called_room past n 1 lawful.0).1 in
    let small : key_count past + 1 < 2 ^ 64 = omega (arith, room) in
    ((small, can), tt)
said_sound cancels past (called_all n os) lawful can =
    let room = called_room past n (length os) lawful.0 in
    let few : key_count past + 1 + length os ≤ 2 ^ 64 = omega (arith, room.1) in
    (batch_sound cancels (key_count past + 1) os room.0 few can, tt)
said_sound cancels past (noticed o) lawful can = (can, tt)
said_sound cancels past (withdrew by k) lawful can =
    let may = both_true (has_cancels by cancels) (is_waiting k past) (not (is_withdrawn k past)) (kept_true (has_cancels by cancels && is_waiting k past && not (is_withdrawn k past)) lawful.0) in
    let within = waits_within k past may.1 in
    let few = keys_few cancels past lawful.1 in
    let small : k < 2 ^ 64 = omega (arith, within, few) in
    ((small, has_is by cancels may.0), tt)
said_sound cancels past (answered n a) lawful can = tt
said_sound cancels past (ended close) lawful can = tt

-- ---- answers

-- no id, or such as ids are
abbrev pub HasId : Option Id → Type 0
HasId None = ⊤
HasId (Some id) = IsId id

abbrev pub HaveIds : List Came → Type 0
HaveIds [] = ⊤
HaveIds (c ∷ cs) = HasId c.id × HaveIds cs

abbrev pub UnitsHaveIds : List Unit → Type 0
UnitsHaveIds [] = ⊤
UnitsHaveIds (u ∷ us) = HaveIds (calls_in (entries_in u)) × UnitsHaveIds us

units-first : (us more : List Unit) → UnitsHaveIds (us ++ more) → UnitsHaveIds us
units-first [] more have = tt
units-first (u ∷ us) more have = (have.0, units-first us more have.1)

given_at : (n : ℕ) (h : Happening) (a : Option Answer) → IsTyped h → answer_at n h ≡ Some a → IsGiven a
given_at n (came o u) a can is = absurd (cc)
given_at n (called m o) a can is = absurd (cc)
given_at n (called_all m os) a can is = absurd (cc)
given_at n (noticed o) a can is = absurd (cc)
given_at n (withdrew by k) a can is = absurd (cc)
given_at n (answered m b) a can is = go (m == n) is
  where
    go : (t : Bool) → cond t (Some b) None ≡ Some a → IsGiven a
    go true same = let it : b ≡ a = cc in subst IsGiven it can
    go false same = absurd (cc)
given_at n (ended close) a can is = absurd (cc)

given_by : (n : ℕ) (h : Happening) (earlier : Option (Option Answer)) (a : Option Answer) → ((b : Option Answer) → earlier ≡ Some b → IsGiven b) → IsTyped h
    → or_else earlier (answer_at n h) ≡ Some a → IsGiven a
given_by n h None a before can is = given_at n h a can is
given_by n h (Some b) a before can is = before a is

given_is : (n : ℕ) (history : History) (a : Option Answer) → AreTyped history → answer_to n history ≡ Some a → IsGiven a
given_is n [] a can is = absurd (cc)
given_is n (h ∷ past) a can is = given_by n h (answer_to n past) a (λ b before. given_is n past b can.1 before) can.0 is

answers-append : (xs ys : List (Id × Answer)) → AreAnswers xs → AreAnswers ys → AreAnswers (xs ++ ys)
answers-append [] ys first second = second
answers-append (x ∷ xs) ys first second = (first.0, first.1, answers-append xs ys first.2 second)

given_are : (id : Option Id) (given : Option (Option Answer)) → HasId id → ((a : Option Answer) → given ≡ Some a → IsGiven a) → AreAnswers (given_to id given)
given_are None given has is = tt
given_are (Some id) None has is = tt
given_are (Some id) (Some None) has is = tt
given_are (Some id) (Some (Some a)) has is = (has, is (Some a) refl, tt)

ids-append : (es more : List Entry) → HaveIds (calls_in (es ++ more)) → HaveIds (calls_in es) × HaveIds (calls_in more)
ids-append [] more have = (tt, have)
ids-append (Call c ∷ es) more have = let rest = ids-append es more have.1 in ((have.0, rest.0), rest.1)
ids-append (Cancel id ∷ es) more have = ids-append es more have
ids-append (Reply k r ∷ es) more have = ids-append es more have
ids-append (Stray ∷ es) more have = ids-append es more have
ids-append (Invalid ∷ es) more have = ids-append es more have

module _ (cancels : Option Cancels) (history : History) (can : AreTyped history) where
  entry_are : (n : ℕ) (e : Entry) → HaveIds (calls_in (e ∷ [])) → AreAnswers (answer_in history n e)
  entry_are n (Call c) have = given_are c.id (answer_to n history) have.0 (λ a is. given_is n history a can is)
  entry_are n (Cancel id) have = tt
  entry_are n (Reply k r) have = tt
  entry_are n Stray have = tt
  entry_are n Invalid have = (tt, tt, tt)

  all_are : (n : ℕ) (es : List Entry) → HaveIds (calls_in es) → AreAnswers (answers_in history n es)
  all_are n [] have = tt
  all_are n (e ∷ es) have =
      let parts = ids-append (e ∷ []) es have in
      answers-append (answer_in history n e) (answers_in history (n + length (call_in e)) es) (entry_are n e parts.0) (all_are (n + length (call_in e)) es parts.1)

  each_sound : (xs : List (Id × Answer)) → AreAnswers xs → AreSound cancels (map (λ a. answer a.0 a.1) xs)
  each_sound [] are = tt
  each_sound (x ∷ xs) are = ((are.0, are.1), each_sound xs are.2)

  one_sound : (xs : List (Id × Answer)) → AreAnswers xs → AreSound cancels (in_one xs)
  one_sound [] are = tt
  one_sound (x ∷ xs) are = (are, tt)

  unit_sound : (n : ℕ) (u : Unit) → HaveIds (calls_in (entries_in u)) → AreSound cancels (answer_of history n u)
  unit_sound n Unreadable have = ((tt, tt), tt)
  unit_sound n (Single e) have = each_sound (answer_in history n e) (entry_are n e have)
  unit_sound n (Batch es) have = one_sound (answers_in history n es) (all_are n es have)

along_sound : (cancels : Option Cancels) (history : History) → AreTyped history → (n : ℕ) (us : List Unit) (place : ℕ) → UnitsHaveIds us
    → AreSound cancels (get_or (answers_along history n us) place [])
along_sound cancels history can n [] place have = tt
along_sound cancels history can n (u ∷ us) zero have = unit_sound cancels history can n u have.0
along_sound cancels history can n (u ∷ us) (suc place) have = along_sound cancels history can (n + length (calls_in (entries_in u))) us place have.1

answer_sound : (cancels : Option Cancels) (history : History) (place : ℕ) → AreTyped history → UnitsHaveIds (units_of history) → AreSound cancels (back.answer_at history place)
answer_sound cancels history place can have = along_sound cancels history can 1 (units_of history) place have

places_sound : (cancels : Option Cancels) (history : History) (places : List ℕ) → AreTyped history → UnitsHaveIds (units_of history) → AreSound cancels (flat_map (back.answer_at history) places)
places_sound cancels history [] can have = tt
places_sound cancels history (place ∷ places) can have =
    sound-append cancels (back.answer_at history place) (flat_map (back.answer_at history) places) (answer_sound cancels history place can have) (places_sound cancels history places can have)

-- all that is said can be read, where the ids that came are such as ids are
pub messages_sound : (cancels : Option Cancels) (order : Order) (history : History) → IsLawful cancels history → AreTyped history → UnitsHaveIds (units_of history) → AreSound cancels (messages_of order history)
messages_sound cancels order [] lawful can have = tt
messages_sound cancels order (h ∷ past) lawful can have =
    sound-append cancels (messages_of order past) (messages_at order past h) (messages_sound cancels order past lawful.1 can.1 (units-first (units_of past) (units_at h) have))
    (sound-append cancels (said_at past h) (flat_map (back.answer_at (h ∷ past)) (places_in (answers_at order past h))) (said_sound cancels past h lawful can.0)
    (places_sound cancels (h ∷ past) (places_in (answers_at order past h)) can have))
