-- What one side asks is what came to the other.
use Rattle.std.proofs.Common.{◌≡◌, ◌⊎◌, inl, inr, ℕ, zero, suc, ◌+◌, ◌-◌, ◌<◌, ◌≤◌, List, [], ◌∷◌, ◌++◌, length, map, filter, Bool, true, false, cond, Option, Some, None, refl, sym, ap, subst, ◌∙◌, append-nil, arith, length-append}
use Rattle.std.specs.Prelude.{⊤, slice_get, flat_map, get_or, is_some, option_and_then}
use Rattle.message_ids.specs.declared.id.Id.{Id}
use Rattle.message_ids.specs.declared.id.Id.TheVariants.{Unsigned}
use Rattle.connection_messages.specs.ReadBack.{call_as_read, calls_as_read, own_id, reply_as_read, answers_as_read}
use Rattle.connection_messages.specs.Reading.{reply_entry}
use Rattle.connection_messages.specs.declared.answer.Answer.{Answer}
use Rattle.connection_messages.specs.declared.call.Call.{Call as Came}
use Rattle.connection_messages.specs.declared.entry.Entry.{Entry}
use Rattle.connection_messages.specs.declared.outgoing.Outgoing.{Outgoing}
use Rattle.connection_messages.specs.declared.reply.Reply.{Reply as Replied}
use Rattle.connection_messages.specs.declared.unit.Unit.{Unit}
use Rattle.connection_messages.specs.declared.unit.Unit.TheVariants.{Unreadable, Single, Batch}
use Rattle.connection_history.specs.declared.order.Order.{Order}
use Rattle.connection_history.specs.Items.{answers_at}
use Rattle.connection_history.specs.Stream.{entries_in, entries_along, calls_in, call_numbered, request_id}
use Rattle.connection_history.specs.Told.{numbered}
use Rattle.connection_history.specs.Written.{places_in}
use Rattle.connection_history.specs.History.{Happening, came, called, called_all, noticed, withdrew, answered, ended, History, units_of, stream, callers, callers_at, key_count, caller_of}
use Rattle.connection.specs.BackToBack.{Message, call, calls, notice, withdrawal, answer, answers, as_read, said_at, in_one, answer_in, answers_in, answer_of, answers_along, answer_at, messages_at, messages_of}
use Rattle.call_laws.specs.Calls.{requests_at, requests_of}
use Rattle.call_laws.specs.Talks.{IsHeard, HasHeardAll}
use Rattle.call_laws.proofs.Lists.{AllOf, all-append, flat-append, flat-empty, filter-append}
use Rattle.call_laws.proofs.Histories.{calls_in-append, slice_get-kept}

abbrev pub is_request : Came → Bool
is_request c = is_some c.id

-- the requests among entries
abbrev pub asked_in : List Entry → List Came
asked_in es = filter is_request (calls_in es)

asked-append : (es fs : List Entry) → asked_in (es ++ fs) ≡ asked_in es ++ asked_in fs
asked-append es fs = ap (filter is_request) (calls_in-append es fs) ∙ filter-append is_request (calls_in es) (calls_in fs)

-- ---- what a message asks

abbrev asks : Message → List Came
asks (call key o) = call_as_read key o ∷ []
asks (calls key os) = calls_in (calls_as_read key os)
asks (notice o) = []
asks (withdrawal by key) = []
asks (answer id a) = []
asks (answers all) = []

calls_asked : (key : ℕ) (os : List Outgoing) → asked_in (calls_as_read key os) ≡ calls_in (calls_as_read key os)
calls_asked key [] = refl
calls_asked key (o ∷ os) = ap (λ l. call_as_read key o ∷ l) (calls_asked (key + 1) os)

reply_asks : (o : Option ℕ) (r : Replied) (es : List Entry) → calls_in (reply_entry o r ∷ es) ≡ calls_in es
reply_asks None r es = refl
reply_asks (Some k) r es = refl

answers_ask : (all : List (Id × Answer)) → calls_in (answers_as_read all) ≡ []
answers_ask [] = refl
answers_ask (a ∷ all) = reply_asks (own_id a.0) (reply_as_read a.1) (answers_as_read all) ∙ answers_ask all

message_asks : (m : Message) → asked_in (entries_in (as_read m)) ≡ asks m
message_asks (call key o) = refl
message_asks (calls key os) = calls_asked key os
message_asks (notice o) = refl
message_asks (withdrawal by key) = refl
message_asks (answer id a) = ap (filter is_request) (reply_asks (own_id id) (reply_as_read a) [])
message_asks (answers all) = ap (filter is_request) (answers_ask all)

messages_ask : (ms : List Message) → asked_in (entries_along (map as_read ms)) ≡ flat_map asks ms
messages_ask [] = refl
messages_ask (m ∷ ms) = asked-append (entries_in (as_read m)) (entries_along (map as_read ms)) ∙ (λ i. message_asks m i ++ messages_ask ms i)

-- ---- an answer asks nothing

abbrev Silent : Message → Type 0
Silent m = asks m ≡ []

each_silent : (xs : List (Id × Answer)) → AllOf Silent (map (λ a. answer a.0 a.1) xs)
each_silent [] = tt
each_silent (x ∷ xs) = (refl, each_silent xs)

one_silent : (xs : List (Id × Answer)) → AllOf Silent (in_one xs)
one_silent [] = tt
one_silent (x ∷ xs) = (refl, tt)

unit_silent : (history : History) (n : ℕ) (u : Unit) → AllOf Silent (answer_of history n u)
unit_silent history n Unreadable = (refl, tt)
unit_silent history n (Single e) = each_silent (answer_in history n e)
unit_silent history n (Batch es) = one_silent (answers_in history n es)

along_silent : (history : History) (n : ℕ) (us : List Unit) (place : ℕ) → AllOf Silent (get_or (answers_along history n us) place [])
along_silent history n [] place = tt
along_silent history n (u ∷ us) zero = unit_silent history n u
along_silent history n (u ∷ us) (suc place) = along_silent history (n + length (calls_in (entries_in u))) us place

places_silent : (history : History) (places : List ℕ) → AllOf Silent (flat_map (answer_at history) places)
places_silent history [] = tt
places_silent history (place ∷ places) = all-append Silent (answer_at history place) (flat_map (answer_at history) places) (along_silent history 1 (units_of history) place) (places_silent history places)

said_asks : (past : History) (h : Happening) → flat_map asks (said_at past h) ≡ requests_at past h
said_asks past (came o u) = refl
said_asks past (called n o) = refl
said_asks past (called_all n os) = append-nil (calls_in (calls_as_read (key_count past + 1) os))
said_asks past (noticed o) = refl
said_asks past (withdrew by k) = refl
said_asks past (answered n a) = refl
said_asks past (ended close) = refl

-- all that is said asks just what was made
pub all_asked : (order : Order) (history : History) → flat_map asks (messages_of order history) ≡ requests_of history
all_asked order [] = refl
all_asked order (h ∷ past) =
    let places = places_in (answers_at order past h) in
    flat-append asks (messages_of order past) (messages_at order past h)
    ∙ (λ i. all_asked order past i
    ++ (flat-append asks (said_at past h) (flat_map (answer_at (h ∷ past)) places)
    ∙ (λ j. said_asks past h j ++ flat-empty asks (flat_map (answer_at (h ∷ past)) places) (places_silent (h ∷ past) places) j)
    ∙ append-nil (requests_at past h)) i)

-- ---- what came is what was asked

-- the first requests, and the rest
pub asked_front : (order : Order) (ours theirs : History) → IsHeard (messages_of order ours) theirs → (rest : List Came) × (requests_of ours ≡ asked_in (stream theirs) ++ rest)
asked_front order ours theirs heard = (
  flat_map asks heard.rest,
  sym (all_asked order ours) ∙ ap (flat_map asks) heard.whole ∙ flat-append asks heard.front heard.rest
      ∙ ap (λ l. l ++ flat_map asks heard.rest) (sym (messages_ask heard.front) ∙ ap (λ us. asked_in (entries_along us)) (sym heard.heard)),
)

pub asked_all : (order : Order) (ours theirs : History) → HasHeardAll (messages_of order ours) theirs → requests_of ours ≡ asked_in (stream theirs)
asked_all order ours theirs heard =
    sym (all_asked order ours) ∙ sym (messages_ask (messages_of order ours)) ∙ ap (λ us. asked_in (entries_along us)) (sym heard)

-- what is told of requests are those that came
without_numbers : (n : ℕ) (cs : List Came) → map (λ (p : ℕ × Came). p.1) (numbered n cs) ≡ cs
without_numbers n [] = refl
without_numbers n (c ∷ cs) = ap (λ l. c ∷ l) (without_numbers (n + 1) cs)

pub told_asked : (told : List (ℕ × Came)) (es : List Entry) → told ≡ numbered 1 (calls_in es) → filter is_request (map (λ (p : ℕ × Came). p.1) told) ≡ asked_in es
told_asked told es is = ap (λ l. filter is_request (map (λ (p : ℕ × Came). p.1) l)) is ∙ ap (filter is_request) (without_numbers 1 (calls_in es))

-- ---- the ids are keys that count up

abbrev pub Count : ℕ → List Came → Type 0
Count k [] = ⊤
Count k (c ∷ cs) = (c.id ≡ Some (Unsigned k)) × Count (suc k) cs

count-append : (k : ℕ) (xs ys : List Came) → Count k xs → Count (k + length xs) ys → Count k (xs ++ ys)
count-append k [] ys first second = subst (λ n. Count n ys) (let same : k + 0 ≡ k = omega arith in same) second
count-append k (x ∷ xs) ys first second = (first.0, count-append (suc k) xs ys first.1 (subst (λ n. Count n ys) (let same : k + length (x ∷ xs) ≡ suc k + length xs = omega arith in same) second))

count-front : (k : ℕ) (xs ys : List Came) → Count k (xs ++ ys) → Count k xs
count-front k [] ys all = tt
count-front k (x ∷ xs) ys all = (all.0, count-front (suc k) xs ys all.1)

batch_count : (k j : ℕ) (os : List Outgoing) → k ≡ j → Count j (calls_in (calls_as_read k os))
batch_count k j [] is = tt
batch_count k j (o ∷ os) is = (ap (λ n. Some (Unsigned n)) is, batch_count (k + 1) (suc j) os (omega (arith, is)))

batch_length : (k : ℕ) (os : List Outgoing) (n : ℕ) → length (calls_in (calls_as_read k os)) ≡ length (map (λ (o : Outgoing). n) os)
batch_length k [] n = refl
batch_length k (o ∷ os) n = ap suc (batch_length (k + 1) os n)

made_length : (past : History) (h : Happening) → length (requests_at past h) ≡ length (callers_at h)
made_length past (came o u) = refl
made_length past (called n o) = refl
made_length past (called_all n os) = batch_length (key_count past + 1) os n
made_length past (noticed o) = refl
made_length past (withdrew by k) = refl
made_length past (answered n a) = refl
made_length past (ended close) = refl

pub as_many : (history : History) → length (requests_of history) ≡ key_count history
as_many [] = refl
as_many (h ∷ past) =
    let sum = length-append (requests_of past) (requests_at past h) in
    let keys = length-append (callers past) (callers_at h) in
    let before = as_many past in
    let now = made_length past h in
    omega (arith, sum, keys, before, now)

made_count : (past : History) (h : Happening) (k : ℕ) → key_count past + 1 ≡ k → Count k (requests_at past h)
made_count past (came o u) k is = tt
made_count past (called n o) k is = (ap (λ m. Some (Unsigned m)) is, tt)
made_count past (called_all n os) k is = batch_count (key_count past + 1) k os is
made_count past (noticed o) k is = tt
made_count past (withdrew by j) k is = tt
made_count past (answered n a) k is = tt
made_count past (ended close) k is = tt

pub all_count : (history : History) → Count 1 (requests_of history)
all_count [] = tt
all_count (h ∷ past) =
    count-append 1 (requests_of past) (requests_at past h) (all_count past)
    (made_count past h (1 + length (requests_of past)) (let many = as_many past in omega (arith, many)))

-- ---- an id stands once

-- calls whose requests have these ids, from the first number up to the last; a notification has none
abbrev pub Walk : ℕ → ℕ → List Came → Type 0
Walk k e [] = k ≡ e
Walk k e (c ∷ cs) = ((c.id ≡ None) × Walk k e cs) ⊎ ((c.id ≡ Some (Unsigned k)) × Walk (suc k) e cs)

pub walk_from : (cs : List Came) (k e : ℕ) → k + length (filter is_request cs) ≡ e → Count k (filter is_request cs) → Walk k e cs
walk_from [] k e is counts = omega (arith, is)
walk_from (c ∷ cs) k e is counts = from c.id refl (walk_from cs k e) (walk_from cs (suc k) e)
  where
    from : (o : Option Id) → c.id ≡ o → (k + length (filter is_request cs) ≡ e → Count k (filter is_request cs) → Walk k e cs) → (suc k + length (filter is_request cs) ≡ e → Count (suc k) (filter is_request cs) → Walk (suc k) e cs)
        → Walk k e (c ∷ cs)
    from None none same_on more =
        inl (
          none,
          same_on (ap (λ o. k + length (cond (is_some o) (c ∷ filter is_request cs) (filter is_request cs))) (sym none) ∙ is)
              (subst (λ o. Count k (cond (is_some o) (c ∷ filter is_request cs) (filter is_request cs))) none counts),
        )
    from (Some id) some same_on more =
        let here : Count k (c ∷ filter is_request cs) = subst (λ o. Count k (cond (is_some o) (c ∷ filter is_request cs) (filter is_request cs))) some counts in
        let many : k + length (c ∷ filter is_request cs) ≡ e = ap (λ o. k + length (cond (is_some o) (c ∷ filter is_request cs) (filter is_request cs))) (sym some) ∙ is in
        inr (here.0, more (omega (arith, many)) here.1)

abbrev pub id_at : List Came → ℕ → Option Id
id_at cs i = option_and_then (λ (c : Came). c.id) (slice_get cs i)

walk_up : (cs : List Came) (k e : ℕ) → Walk k e cs → k ≤ e
walk_up [] k e walk = omega (arith, walk)
walk_up (c ∷ cs) k e (inl on) = walk_up cs k e on.1
walk_up (c ∷ cs) k e (inr on) = let rest = walk_up cs (suc k) e on.1 in omega (arith, rest)

pub within : (cs : List Came) (k e i j : ℕ) → Walk k e cs → id_at cs i ≡ Some (Unsigned j) → (k ≤ j) × (j < e)
within [] k e i j walk at = absurd (cc)
within (c ∷ cs) k e zero j (inl on) at = absurd (let none = on.0 in cc)
within (c ∷ cs) k e zero j (inr on) at =
    let is = on.0 in
    let same : k ≡ j = cc in
    let up = walk_up cs (suc k) e on.1 in
    (omega (arith, same), omega (arith, same, up))
within (c ∷ cs) k e (suc i) j (inl on) at = within cs k e i j on.1 at
within (c ∷ cs) k e (suc i) j (inr on) at = let rest = within cs (suc k) e i j on.1 at in (omega (arith, rest), rest.1)

pub once : (cs : List Came) (k e i h j : ℕ) → Walk k e cs → id_at cs i ≡ Some (Unsigned j) → id_at cs h ≡ Some (Unsigned j) → i ≡ h
once [] k e i h j walk at there = absurd (cc)
once (c ∷ cs) k e zero zero j walk at there = refl
once (c ∷ cs) k e zero (suc h) j (inl on) at there = absurd (let none = on.0 in cc)
once (c ∷ cs) k e zero (suc h) j (inr on) at there =
    absurd (let is = on.0 in let same : k ≡ j = cc in let later = within cs (suc k) e h j on.1 there in omega (arith, same, later))
once (c ∷ cs) k e (suc i) zero j (inl on) at there = absurd (let none = on.0 in cc)
once (c ∷ cs) k e (suc i) zero j (inr on) at there =
    absurd (let is = on.0 in let same : k ≡ j = cc in let later = within cs (suc k) e i j on.1 at in omega (arith, same, later))
once (c ∷ cs) k e (suc i) (suc h) j (inl on) at there = ap suc (once cs k e i h j on.1 at there)
once (c ∷ cs) k e (suc i) (suc h) j (inr on) at there = ap suc (once cs (suc k) e i h j on.1 at there)

-- the calls that came to the other side, as its requests count up
pub asked_walk : (order : Order) (ours theirs : History) → IsHeard (messages_of order ours) theirs → Walk 1 (1 + length (asked_in (stream theirs))) (calls_in (stream theirs))
asked_walk order ours theirs heard =
    let front = asked_front order ours theirs heard in
    walk_from (calls_in (stream theirs)) 1 (1 + length (asked_in (stream theirs))) refl (count-front 1 (asked_in (stream theirs)) front.0 (subst (Count 1) front.1 (all_count ours)))

pub known_at : {X : Type 0} (xs : List X) (i : ℕ) → i < length xs → (x : X) × (slice_get xs i ≡ Some x)
known_at [] i h = absurd (omega arith)
known_at (x ∷ xs) zero h = (x, refl)
known_at (x ∷ xs) (suc i) h = known_at xs i (omega arith)

caller_known : (k : ℕ) (history : History) → 1 ≤ k → k ≤ key_count history → (n : ℕ) × (caller_of k history ≡ Some n)
caller_known zero history some h = absurd (omega arith)
caller_known (suc k) history some h = known_at (callers history) k (omega arith)

-- a request that came was made before
pub request_made : (order : Order) (ours theirs : History) (k number : ℕ) → IsHeard (messages_of order ours) theirs → request_id number (stream theirs) ≡ Some (Unsigned k) → (n : ℕ) × (caller_of k ours ≡ Some n)
request_made order ours theirs k zero heard is = absurd (cc)
request_made order ours theirs k (suc number) heard is =
    let front = asked_front order ours theirs heard in
    let bounds = within (calls_in (stream theirs)) 1 (1 + length (asked_in (stream theirs))) number k (asked_walk order ours theirs heard) is in
    let many = as_many ours in
    let all : length (requests_of ours) ≡ length (asked_in (stream theirs)) + length front.0 = ap length front.1 ∙ length-append (asked_in (stream theirs)) front.0 in
    caller_known k ours bounds.0 (omega (arith, bounds, many, all))

-- and came once
pub request_once : (order : Order) (ours theirs : History) (k number other : ℕ) → IsHeard (messages_of order ours) theirs → request_id number (stream theirs) ≡ Some (Unsigned k) → request_id other (stream theirs) ≡ Some (Unsigned k)
    → number ≡ other
request_once order ours theirs k zero other heard is there = absurd (cc)
request_once order ours theirs k (suc number) zero heard is there = absurd (cc)
request_once order ours theirs k (suc number) (suc other) heard is there =
    ap suc (once (calls_in (stream theirs)) 1 (1 + length (asked_in (stream theirs))) number other k (asked_walk order ours theirs heard) is there)

-- just as it was made
in_filter : (cs : List Came) (i : ℕ) (c : Came) (id : Id) → slice_get cs i ≡ Some c → c.id ≡ Some id → (j : ℕ) × (slice_get (filter is_request cs) j ≡ Some c)
in_filter [] i c id at named = absurd (cc)
in_filter (d ∷ cs) zero c id at named =
    let same : d ≡ c = cc in
    let passes : is_request d ≡ true = ap is_request same ∙ ap is_some named in
    (0, ap (λ b. slice_get (cond b (d ∷ filter is_request cs) (filter is_request cs)) 0) passes ∙ ap Some same)
in_filter (d ∷ cs) (suc i) c id at named = from (is_request d) refl (in_filter cs i c id at named)
  where
    from : (b : Bool) → is_request d ≡ b → (j : ℕ) × (slice_get (filter is_request cs) j ≡ Some c) → (j : ℕ) × (slice_get (cond (is_request d) (d ∷ filter is_request cs) (filter is_request cs)) j ≡ Some c)
    from true is it = (suc it.0, ap (λ b. slice_get (cond b (d ∷ filter is_request cs) (filter is_request cs)) (suc it.0)) is ∙ it.1)
    from false is it = (it.0, ap (λ b. slice_get (cond b (d ∷ filter is_request cs) (filter is_request cs)) it.0) is ∙ it.1)

pub count_at : (k i : ℕ) (cs : List Came) (c : Came) → Count k cs → slice_get cs i ≡ Some c → c.id ≡ Some (Unsigned (k + i))
count_at k i [] c counts at = absurd (cc)
count_at k zero (d ∷ cs) c counts at = let same : d ≡ c = cc in ap (λ (e : Came). e.id) (sym same) ∙ counts.0 ∙ ap (λ n. Some (Unsigned n)) (let here : k ≡ k + 0 = omega arith in here)
count_at k (suc i) (d ∷ cs) c counts at = count_at (suc k) i cs c counts.1 at ∙ ap (λ n. Some (Unsigned n)) (let here : suc k + i ≡ k + suc i = omega arith in here)

named_call : (o : Option Came) (id : Id) → option_and_then (λ (c : Came). c.id) o ≡ Some id → (c : Came) × (o ≡ Some c) × (c.id ≡ Some id)
named_call None id h = absurd (cc)
named_call (Some c) id h = (c, refl, h)

pub request_as_made : (order : Order) (ours theirs : History) (k number : ℕ) → IsHeard (messages_of order ours) theirs → request_id number (stream theirs) ≡ Some (Unsigned k)
    → call_numbered number (stream theirs) ≡ slice_get (requests_of ours) (k - 1)
request_as_made order ours theirs k zero heard is = absurd (cc)
request_as_made order ours theirs k (suc number) heard is =
    let front = asked_front order ours theirs heard in
    let c = named_call (call_numbered (suc number) (stream theirs)) (Unsigned k) is in
    let there = in_filter (calls_in (stream theirs)) number c.0 (Unsigned k) c.1 c.2 in
    let made : slice_get (requests_of ours) there.0 ≡ Some c.0 = ap (λ cs. slice_get cs there.0) front.1 ∙ slice_get-kept (asked_in (stream theirs)) front.0 there.0 c.0 there.1 in
    let named = count_at 1 there.0 (requests_of ours) c.0 (all_count ours) made in
    let key : Unsigned (1 + there.0) ≡ Unsigned k = (let is_key = c.2 in cc) in
    let number_is : 1 + there.0 ≡ k = cc in
    c.1 ∙ sym made ∙ ap (slice_get (requests_of ours)) (let place : there.0 ≡ k - 1 = omega (arith, number_is) in place)
