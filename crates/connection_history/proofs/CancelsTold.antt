-- The cancels that are told: of each request one at most.
use Rattle.std.proofs.Common.{◌≡◌, ℕ, zero, suc, ◌+◌, ◌<◌, ◌≤◌, ◌==◌, List, [], ◌∷◌, ◌++◌, map, Bool, true, false, cond, ◌&&◌, ◌||◌, not, Option, Some, None, refl, sym, ap, subst, ◌∙◌, append_assoc, append-nil, arith}
use Rattle.std.specs.Prelude.{option_and_then}
use Rattle.message_ids.specs.Ids.{has_id}
use Rattle.message_ids.specs.declared.id.Id.{Id}
use Rattle.connection_messages.specs.declared.call.Call.{Call as Came}
use Rattle.std.specs.Prelude.{is_some}
use Rattle.std.specs.Option.{is_none}
use Rattle.connection_messages.specs.declared.answer.Answer.{Answer}
use Rattle.connection_messages.specs.declared.entry.Entry.{Entry}
use Rattle.connection_messages.specs.declared.entry.Entry.TheVariants.{Call, Cancel, Reply, Stray, Invalid}
use Rattle.connection_messages.specs.declared.reply.Reply.{Reply as Replied}
use Rattle.connection_messages.specs.declared.unit.Unit.{Unit}
use Rattle.connection_messages.specs.declared.unit.Unit.TheVariants.{Batch}
use Rattle.connection_history.specs.declared.event.Event.{Event}
use Rattle.connection_history.specs.declared.event.Event.TheVariants as event
use Rattle.connection_history.specs.Stream.{entries_in, call_numbered, request_id, cancels, is_cancelled}
use Rattle.connection_history.specs.Events.{call_count, is_reached, reached, events_of_entry, events_along, events_at, events_of, broken_in, broken_at}
use Rattle.connection_history.specs.History.{Happening, came, called, called_all, noticed, withdrew, answered, ended, History, stream, answer_to, is_open, is_waiting, waiting, Origin}
use Rattle.connection_history.specs.Told.{cancels_told}
use Rattle.connection_history.proofs.Histories.{stream-came, stream-entry, stream-more, answer_to-came}
use Rattle.connection_history.proofs.Numbers.{one_if, occurs, occurs-passing}
use Rattle.connection_history.proofs.Streams.{call_numbered-within, is_cancelled-push}
use Rattle.connection_history.proofs.Tests.{and-left, and-right, not-true}
use Rattle.connection_history.proofs.Along.{so_far}
use Rattle.connection_history.specs.declared.broken.Broken.{Broken}

-- whether the request n is cancelled by what has come
abbrev pub is_hit : ℕ → History → Bool
is_hit n history = is_cancelled n (stream history)

-- ---- lists of events

-- how often a cancel is told in events, and then in more
pub cancels_told-append : (n : ℕ) (told more : List Event) → cancels_told n (told ++ more) ≡ cancels_told n told + cancels_told n more
cancels_told-append n [] more = omega arith
cancels_told-append n (event.Call m c ∷ told) more = cancels_told-append n told more
cancels_told-append n (event.Cancelled m ∷ told) more = omega (arith, cancels_told-append n told more)
cancels_told-append n (event.Replied k r ∷ told) more = cancels_told-append n told more
cancels_told-append n (event.Unanswered k ∷ told) more = cancels_told-append n told more
cancels_told-append n (event.Over close ∷ told) more = cancels_told-append n told more
cancels_told-append n (event.Broken b ∷ told) more = cancels_told-append n told more

cancels_told-defects : (n : ℕ) (bs : List Broken) (told : List Event) → cancels_told n (map event.Broken bs ++ told) ≡ cancels_told n told
cancels_told-defects n [] told = refl
cancels_told-defects n (b ∷ bs) told = cancels_told-defects n bs told

-- what is broken tells no cancel
pub cancels_told-broken : (n : ℕ) (from : Option Origin) (u : Unit) (told : List Event) → cancels_told n (broken_at from u ++ told) ≡ cancels_told n told
cancels_told-broken n from u told = cancels_told-defects n (broken_in from u) told

cancels_told-numbers : (n : ℕ) (ns : List ℕ) → cancels_told n (map event.Cancelled ns) ≡ occurs n ns
cancels_told-numbers n [] = refl
cancels_told-numbers n (m ∷ ns) = ap (λ k. one_if (m == n) + k) (cancels_told-numbers n ns)

-- the end tells no cancel
pub cancels_told-unanswered : (n : ℕ) (ks : List ℕ) (told : List Event) → cancels_told n (map event.Unanswered ks ++ told) ≡ cancels_told n told
cancels_told-unanswered n [] told = refl
cancels_told-unanswered n (k ∷ ks) told = cancels_told-unanswered n ks told

-- nor does a reply
pub cancels_told-reply : (n : ℕ) (b : Bool) (j : ℕ) (r : Replied) → cancels_told n (cond b (event.Replied j r ∷ []) []) ≡ 0
cancels_told-reply n true j r = refl
cancels_told-reply n false j r = refl

-- ---- one cancel

has_id-call : (id : Id) (o : Option Came) → has_id id (option_and_then (λ (c : Came). c.id) o) ≡ true → (c : Came) × (o ≡ Some c)
has_id-call id None h = absurd (cc)
has_id-call id (Some c) h = (c, refl)

-- what has an id is a call that has come
pub identified : (id : Id) (n : ℕ) (history : History) → has_id id (request_id n (stream history)) ≡ true → (c : Came) × (call_numbered n (stream history) ≡ Some c)
identified id n history h = has_id-call id (call_numbered n (stream history)) h

reached-id : (id : Id) (history : History) (n : ℕ) → is_reached id history n ≡ true → has_id id (request_id n (stream history)) ≡ true
reached-id id history n h =
    and-left (has_id id (request_id n (stream history))) (is_open n history) (and-left (has_id id (request_id n (stream history)) && is_open n history) (not (is_hit n history)) h)

reached-first : (id : Id) (history : History) (n : ℕ) → is_reached id history n ≡ true → is_hit n history ≡ false
reached-first id history n h = not-true (is_hit n history) (and-right (has_id id (request_id n (stream history)) && is_open n history) (not (is_hit n history)) h)

-- a cancel is told once to each request that it reaches
pub told_of_cancel : (n : ℕ) (id : Id) (history : History) → cancels_told n (map event.Cancelled (reached id history)) ≡ one_if (is_reached id history n)
told_of_cancel n id history =
    cancels_told-numbers n (reached id history)
    ∙ occurs-passing (is_reached id history) n (call_count history) (λ h.
    let c = identified id n history (reached-id id history n h) in call_numbered-within n (stream history) c.0 c.1)

-- whether an entry cancels the request n
abbrev pub hits : ℕ → History → Entry → Bool
hits n history e = cancels (request_id n (stream history)) (e ∷ [])

-- one entry more
pub hit-entry : (n : ℕ) (past : History) (front : List Entry) (e : Entry) → is_hit n (so_far past (front ++ e ∷ [])) ≡ (is_hit n (so_far past front) || hits n (so_far past front) e)
hit-entry n past front e = ap (is_cancelled n) (stream-entry past front e) ∙ is_cancelled-push n (stream (so_far past front)) e

-- ---- at most once

-- what was told so often, and no more often than the request is cancelled
kept_once : (told : ℕ) (b c : Bool) → told ≤ one_if b → told + 0 ≤ one_if (b || c)
kept_once told true c h = omega arith
kept_once told false true h = omega arith
kept_once told false false h = omega arith

-- A cancel that reaches the request is its first.
reached_once : (told : ℕ) (b id opened : Bool) → told ≤ one_if b → told + one_if (id && opened && not b) ≤ one_if (b || (id || false))
reached_once told true true true h = omega arith
reached_once told true true false h = omega arith
reached_once told true false opened h = omega arith
reached_once told false true true h = omega arith
reached_once told false true false h = omega arith
reached_once told false false opened h = omega arith

entry_once : (n told : ℕ) (past : History) (front : List Entry) (e : Entry) → told ≤ one_if (is_hit n (so_far past front))
    → told + cancels_told n (events_of_entry (so_far past front) e) ≤ one_if (is_hit n (so_far past front) || hits n (so_far past front) e)
entry_once n told past front (Call c) h = kept_once told (is_hit n (so_far past front)) false h
entry_once n told past front (Cancel id) h =
    subst (λ m. told + m ≤ one_if (is_hit n (so_far past front) || hits n (so_far past front) (Cancel id))) (sym (told_of_cancel n id (so_far past front)))
    (reached_once told (is_hit n (so_far past front)) (has_id id (request_id n (stream (so_far past front)))) (is_open n (so_far past front)) h)
entry_once n told past front (Reply j r) h =
    subst (λ m. told + m ≤ one_if (is_hit n (so_far past front) || false)) (sym (cancels_told-reply n (is_waiting j (so_far past front)) j r)) (kept_once told (is_hit n (so_far past front)) false h)
entry_once n told past front Stray h = kept_once told (is_hit n (so_far past front)) false h
entry_once n told past front Invalid h = kept_once told (is_hit n (so_far past front)) false h

-- entries tell a cancel no more often than the request is cancelled
pub entries_once : (n told : ℕ) (past : History) (front es : List Entry) → told ≤ one_if (is_hit n (so_far past front))
    → told + cancels_told n (events_along past front es) ≤ one_if (is_hit n (so_far past (front ++ es)))
entries_once n told past front [] h = subst (λ l. told + 0 ≤ one_if (is_hit n (so_far past l))) (sym (append-nil front)) (omega arith)
entries_once n told past front (e ∷ es) h =
    let here = cancels_told n (events_of_entry (so_far past front) e) in
    let rest = cancels_told n (events_along past (front ++ e ∷ []) es) in
    let now : told + here ≤ one_if (is_hit n (so_far past (front ++ e ∷ []))) = subst (λ b. told + here ≤ one_if b) (sym (hit-entry n past front e)) (entry_once n told past front e h) in
    let all : told + here + rest ≤ one_if (is_hit n (so_far past ((front ++ e ∷ []) ++ es))) = entries_once n (told + here) past (front ++ e ∷ []) es now in
    let whole : told + here + rest ≤ one_if (is_hit n (so_far past (front ++ e ∷ es))) =
    subst (λ l. told + here + rest ≤ one_if (is_hit n (so_far past l))) (append_assoc front (e ∷ []) es) all in
    omega (arith, cancels_told-append n (events_of_entry (so_far past front) e) (events_along past (front ++ e ∷ []) es))

-- an array that has brought nothing yet
pub hit-none : (n : ℕ) (past : History) → is_hit n (so_far past []) ≡ is_hit n past
hit-none n past = ap (is_cancelled n) (stream-came past None (Batch []) ∙ append-nil (stream past))

-- a unit is the array of its entries
pub hit-unit : (n : ℕ) (past : History) (from : Option Origin) (u : Unit) → is_hit n (so_far past (entries_in u)) ≡ is_hit n (came from u ∷ past)
hit-unit n past from u = ap (is_cancelled n) (stream-came past None (Batch (entries_in u)) ∙ sym (stream-came past from u))

-- nothing came
idle : (n : ℕ) (past : History) (h : Happening) → stream (h ∷ past) ≡ stream past → is_hit n (h ∷ past) ≡ is_hit n past
idle n past h e = ap (is_cancelled n) e

stays_once : (n told : ℕ) (past : History) (h : Happening) → is_hit n (h ∷ past) ≡ is_hit n past → told ≤ one_if (is_hit n past) → told + 0 ≤ one_if (is_hit n (h ∷ past))
stays_once n told past h e before = subst (λ b. told + 0 ≤ one_if b) (sym e) (omega arith)

-- nothing comes
pub same_stream : (past : History) (h : Happening) → stream (h ∷ past) ≡ stream past ++ [] → stream (h ∷ past) ≡ stream past
same_stream past h e = e ∙ append-nil (stream past)

happening_once : (n told : ℕ) (past : History) (h : Happening) → told ≤ one_if (is_hit n past) → told + cancels_told n (events_at past h) ≤ one_if (is_hit n (h ∷ past))
happening_once n told past (came from u) before =
    subst (λ m. told + m ≤ one_if (is_hit n (came from u ∷ past))) (sym (cancels_told-broken n from u (events_along past [] (entries_in u))))
    (subst (λ b. told + cancels_told n (events_along past [] (entries_in u)) ≤ one_if b) (hit-unit n past from u)
    (entries_once n told past [] (entries_in u) (subst (λ b. told ≤ one_if b) (sym (hit-none n past)) before)))
happening_once n told past (called m o) before = stays_once n told past (called m o) (idle n past (called m o) (same_stream past (called m o) (stream-more past (called m o)))) before
happening_once n told past (called_all m os) before = stays_once n told past (called_all m os) (idle n past (called_all m os) (same_stream past (called_all m os) (stream-more past (called_all m os)))) before
happening_once n told past (noticed o) before = stays_once n told past (noticed o) (idle n past (noticed o) (same_stream past (noticed o) (stream-more past (noticed o)))) before
happening_once n told past (withdrew by k) before = stays_once n told past (withdrew by k) (idle n past (withdrew by k) (same_stream past (withdrew by k) (stream-more past (withdrew by k)))) before
happening_once n told past (answered m a) before = stays_once n told past (answered m a) (idle n past (answered m a) (same_stream past (answered m a) (stream-more past (answered m a)))) before
happening_once n told past (ended close) before =
    subst (λ m. told + m ≤ one_if (is_hit n (ended close ∷ past))) (sym (cancels_told-unanswered n (waiting past) (event.Over close ∷ [])))
    (stays_once n told past (ended close) (idle n past (ended close) (same_stream past (ended close) (stream-more past (ended close)))) before)

-- a cancel is told no more often than the request is cancelled
told_if_hit : (history : History) (n : ℕ) → cancels_told n (events_of history) ≤ one_if (is_hit n history)
told_if_hit [] n = omega arith
told_if_hit (h ∷ past) n =
    let now = happening_once n (cancels_told n (events_of past)) past h (told_if_hit past n) in
    omega (arith, cancels_told-append n (events_of past) (events_at past h))

-- once at most
pub at_most_one : (k : ℕ) (b : Bool) → k ≤ one_if b → k ≤ 1
at_most_one k true h = h
at_most_one k false h = omega arith

some_if : (k : ℕ) (b : Bool) → k ≤ one_if b → 0 < k → b ≡ true
some_if k true h some = refl
some_if k false h some = absurd (omega arith)

-- a cancel is told once at most
pub told_once : (history : History) (n : ℕ) → cancels_told n (events_of history) ≤ 1
told_once history n = at_most_one _ (is_hit n history) (told_if_hit history n)

-- what is told to be cancelled is
pub told_cancelled : (history : History) (n : ℕ) → 0 < cancels_told n (events_of history) → is_cancelled n (stream history) ≡ true
told_cancelled history n some = some_if _ (is_hit n history) (told_if_hit history n) some

-- ---- a request that is answered

none_passes : (known id : Bool) (a : Option Answer) (o : Option (Option Answer)) (rest : Bool) → o ≡ Some a → (id && (known && is_none o) && rest) ≡ false
none_passes known id a None rest is = absurd (cc)
none_passes true true a (Some b) rest is = refl
none_passes false true a (Some b) rest is = refl
none_passes known false a (Some b) rest is = refl

not_reached : (id : Id) (n : ℕ) (history : History) (a : Option Answer) → answer_to n history ≡ Some a → is_reached id history n ≡ false
not_reached id zero history a is = refl
not_reached id (suc n) history a is =
    none_passes (is_some (call_numbered (suc n) (stream history))) (has_id id (request_id (suc n) (stream history))) a (answer_to (suc n) history) (not (is_hit (suc n) history)) is

answered_entry : (n : ℕ) (history : History) (a : Option Answer) (e : Entry) → answer_to n history ≡ Some a → cancels_told n (events_of_entry history e) ≡ 0
answered_entry n history a (Call c) is = refl
answered_entry n history a (Cancel id) is = told_of_cancel n id history ∙ ap one_if (not_reached id n history a is)
answered_entry n history a (Reply j r) is = cancels_told-reply n (is_waiting j history) j r
answered_entry n history a Stray is = refl
answered_entry n history a Invalid is = refl

answered_along : (n : ℕ) (past : History) (a : Option Answer) (front es : List Entry) → answer_to n past ≡ Some a → cancels_told n (events_along past front es) ≡ 0
answered_along n past a front [] is = refl
answered_along n past a front (e ∷ es) is =
    omega (
      arith,
      cancels_told-append n (events_of_entry (so_far past front) e) (events_along past (front ++ e ∷ []) es),
      answered_entry n (so_far past front) a e (answer_to-came n past None (Batch front) ∙ is),
      answered_along n past a (front ++ e ∷ []) es is,
    )

-- nothing of it is told
pub answered_told : (past : History) (h : Happening) (n : ℕ) (a : Option Answer) → answer_to n past ≡ Some a → cancels_told n (events_at past h) ≡ 0
answered_told past (came from u) n a is = cancels_told-broken n from u (events_along past [] (entries_in u)) ∙ answered_along n past a [] (entries_in u) is
answered_told past (called m o) n a is = refl
answered_told past (called_all m os) n a is = refl
answered_told past (noticed o) n a is = refl
answered_told past (withdrew by k) n a is = refl
answered_told past (answered m b) n a is = refl
answered_told past (ended close) n a is = cancels_told-unanswered n (waiting past) (event.Over close ∷ [])
