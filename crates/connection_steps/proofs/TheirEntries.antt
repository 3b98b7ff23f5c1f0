-- The calls that are open after one more entry came, and after a unit.
use Rattle.std.proofs.Common.{◌≡◌, ℕ, zero, suc, ◌+◌, ◌<◌, ◌≤◌, List, [], ◌∷◌, ◌++◌, length, None, Bool, true, false, cond, ◌&&◌, ◌||◌, not, refl, sym, ap, ◌∙◌, append_assoc, append-nil, arith, Option}
use Rattle.std.proofs.lemmas.List.{map-append}
use Rattle.std.specs.Prelude.{is_some}
use Rattle.std.specs.Option.{is_none}
use Rattle.message_ids.specs.Ids.{has_id}
use Rattle.message_ids.specs.declared.id.Id.{Id}
use Rattle.connection_messages.specs.declared.call.Call.{Call as Came}
use Rattle.connection_messages.specs.declared.entry.Entry.{Entry}
use Rattle.connection_messages.specs.declared.entry.Entry.TheVariants.{Call, Cancel, Reply, Stray, Invalid}
use Rattle.connection_messages.specs.declared.unit.Unit.{Unit}
use Rattle.connection_messages.specs.declared.unit.Unit.TheVariants.{Batch}
use Rattle.connection_history.specs.Stream.{entries_in, call_in, calls_in, call_numbered, request_id, after_call, cancels, is_cancelled}
use Rattle.connection_history.specs.Events.{call_count}
use Rattle.connection_history.specs.History.{came, History, units_of, stream, is_open, answer_to, Origin}
use Rattle.connection_history.specs.Refusals.{IsLawful}
use Rattle.connection_history.proofs.Along.{so_far}
use Rattle.connection_history.proofs.Histories.{stream-came, stream-entry, call_count-entry, answer_to-came}
use Rattle.connection_history.proofs.Lawful.{unknown_unanswered}
use Rattle.connection_history.proofs.OpenCalls.{open-new}
use Rattle.connection_history.proofs.Streams.{length-calls_in-append, call_numbered-front, request_id-unknown, cancels-none, is_cancelled-push}
use Rattle.connection_history.proofs.Tests.{or-false}
use Rattle.open_calls.specs.declared.their_call.TheirCall.{TheirCall}
use Rattle.open_calls.specs.Theirs.{new_call, cancelled}
use Rattle.connection_steps.specs.States.{theirs_of}
use Rattle.connection_steps.specs.Steps.{cancelled_if, cancelled_all, theirs_after, theirs_after_all}
use Rattle.connection_steps.proofs.TheirAfter.{seen-agree, theirs-from, theirs-same}
use Rattle.connection_steps.proofs.TheirSites.{site, sites_along, sites_of, slots_in, seen_as, seen, all_seen, all_seen-append, theirs-seen, sites-entry, sites-unit, slots-entry, AreSites, all-are}
use Rattle.connection_messages.specs.declared.cancels.Cancels.{Cancels}

-- ---- an array that has brought nothing, and one that brings a unit's entries

opens-alike : (g h : History) → stream g ≡ stream h → ((k : ℕ) → answer_to k g ≡ answer_to k h) → (k : ℕ) → is_open k g ≡ is_open k h
opens-alike g h streams answers zero = refl
opens-alike g h streams answers (suc k) = λ i. is_some (call_numbered (suc k) (streams i)) && is_none (answers (suc k) i)

sites-came : (past : History) (from : Option Origin) (u : Unit)
    → sites_of (came from u ∷ past) ≡ sites_of past ++ sites_along (length (units_of past)) (call_count past + 1) 0 (entries_in u)
sites-came past from u =
    let place : 0 + length (units_of past) ≡ length (units_of past) = omega arith in
    let number : 1 + call_count past ≡ call_count past + 1 = omega arith in
    sites-unit 0 1 (units_of past) u ∙ (λ i. sites_of past ++ sites_along (place i) (number i) 0 (entries_in u))

-- an array that has brought nothing yet
pub theirs-none : (past : History) → theirs_of (so_far past []) ≡ theirs_of past
theirs-none past =
    let streams : stream (so_far past []) ≡ stream past = stream-came past None (Batch []) ∙ append-nil (stream past) in
    theirs-same (so_far past []) past (sites-came past None (Batch []) ∙ append-nil (sites_of past)) streams
    (opens-alike (so_far past []) past streams (λ k. answer_to-came k past None (Batch [])))

-- a unit is the array of its entries
pub theirs-unit : (past : History) (from : Option Origin) (u : Unit) → theirs_of (came from u ∷ past) ≡ theirs_of (so_far past (entries_in u))
theirs-unit past from u =
    let streams : stream (came from u ∷ past) ≡ stream (so_far past (entries_in u)) = stream-came past from u ∙ sym (stream-came past None (Batch (entries_in u))) in
    theirs-same (came from u ∷ past) (so_far past (entries_in u)) (sites-came past from u ∙ sym (sites-came past None (Batch (entries_in u)))) streams
    (opens-alike (came from u ∷ past) (so_far past (entries_in u)) streams (λ k. refl))

-- ---- one more entry

sites-more : (past : History) (front : List Entry) (e : Entry)
    → sites_of (so_far past (front ++ e ∷ [])) ≡ sites_of (so_far past front) ++ site (length (units_of past)) (call_count (so_far past front) + 1) (slots_in front) e
sites-more past front e =
    let place = length (units_of past) in
    let n = call_count past + 1 in
    let number : n + length (calls_in front) ≡ call_count (so_far past front) + 1 =
    omega (arith, ap (λ es. length (calls_in es)) (stream-came past None (Batch front)), length-calls_in-append (stream past) front) in
    let slot : 0 + slots_in front ≡ slots_in front = omega arith in
    sites-came past None (Batch (front ++ e ∷ []))
    ∙ ap (λ l. sites_of past ++ l) (sites-entry place n 0 front e ∙ (λ i. sites_along place n 0 front ++ site place (number i) (slot i) e))
    ∙ sym (append_assoc (sites_of past) (sites_along place n 0 front) (site place (call_count (so_far past front) + 1) (slots_in front) e))
    ∙ ap (λ l. l ++ site place (call_count (so_far past front) + 1) (slots_in front) e) (sym (sites-came past None (Batch front)))

-- a call that has come stays open, or isn't open
open-more : (k : ℕ) (past : History) (front : List Entry) (e : Entry) → k ≤ call_count (so_far past front)
    → is_open k (so_far past (front ++ e ∷ [])) ≡ is_open k (so_far past front)
open-more zero past front e within = refl
open-more (suc k) past front e within =
    let known = ap (call_numbered (suc k)) (stream-entry past front e) ∙ call_numbered-front (suc k) (stream (so_far past front)) (e ∷ []) within in
    ap (λ o. is_some o && is_none (answer_to (suc k) (so_far past front))) known

-- the entry cancels it, or leaves it as it is
hit-more : (k : ℕ) (past : History) (front : List Entry) (e : Entry)
    → is_cancelled k (stream (so_far past (front ++ e ∷ []))) ≡ (is_cancelled k (stream (so_far past front)) || cancels (request_id k (stream (so_far past front))) (e ∷ []))
hit-more k past front e = ap (is_cancelled k) (stream-entry past front e) ∙ is_cancelled-push k (stream (so_far past front)) e

-- ---- an entry that cancels nothing

seen-more : (past : History) (front : List Entry) (e : Entry) → ((id : _) → cancels id (e ∷ []) ≡ false)
    → all_seen (so_far past (front ++ e ∷ [])) (sites_of (so_far past front)) ≡ (theirs_of (so_far past front)).calls
seen-more past front e none =
    let h = so_far past front in
    seen-agree (so_far past (front ++ e ∷ [])) h (stream h) (sites_of h) (all-are h)
    (λ k some within. open-more k past front e within)
    (λ k some within. hit-more k past front e ∙ ap (λ b. is_cancelled k (stream h) || b) (none (request_id k (stream h))) ∙ or-false (is_cancelled k (stream h)))
    ∙ sym (theirs-seen h 0 1 (units_of h))

other : (past : History) (front : List Entry) (e : Entry) → ((id : _) → cancels id (e ∷ []) ≡ false)
    → site (length (units_of past)) (call_count (so_far past front) + 1) (slots_in front) e ≡ [] → call_in e ≡ [] → theirs_of (so_far past (front ++ e ∷ [])) ≡ theirs_of (so_far past front)
other past front e none no_site no_call =
    let g = so_far past (front ++ e ∷ []) in
    let h = so_far past front in
    theirs-from g (call_count h) (theirs_of h).calls (omega (arith, call_count-entry past front e, ap length no_call))
    (ap (all_seen g) (sites-more past front e ∙ ap (λ l. sites_of h ++ l) no_site ∙ append-nil (sites_of h)) ∙ seen-more past front e none)

-- ---- a call

opened-new : (s : ℕ × TheirCall) (opened hit : Bool) → opened ≡ true → hit ≡ s.1.is_cancelled → seen_as opened hit s ++ [] ≡ s ∷ []
opened-new s opened hit is kept = λ i. seen_as (is i) (kept i) s ++ []

called_here : (place slot n : ℕ) (past : History) (front : List Entry) (c : Came) → call_count (so_far past front) < n
    → n ≤ call_count (so_far past (front ++ Call c ∷ [])) → answer_to n past ≡ None
    → all_seen (so_far past (front ++ Call c ∷ [])) ((n, new_call c.id place slot) ∷ []) ≡ (n, new_call c.id place slot) ∷ []
called_here place slot n past front c new within none =
    let h = so_far past front in
    opened-new (n, new_call c.id place slot) (is_open n (so_far past (front ++ Call c ∷ []))) (is_cancelled n (stream (so_far past (front ++ Call c ∷ []))))
    (open-new n past None (Batch (front ++ Call c ∷ [])) (omega arith) within none)
    (hit-more n past front (Call c) ∙ or-false (is_cancelled n (stream h))
    ∙ ap (λ id. cancels id (after_call n (stream h))) (request_id-unknown n (stream h) new) ∙ cancels-none (after_call n (stream h)))

came_call : (cancels : Option Cancels) (past : History) (front : List Entry) (c : Came) → IsLawful cancels past
    → theirs_of (so_far past (front ++ Call c ∷ [])) ≡ theirs_after (length (units_of past)) (slots_in front) (Call c) (theirs_of (so_far past front))
came_call cancels past front c lawful =
    let g = so_far past (front ++ Call c ∷ []) in
    let h = so_far past front in
    let n = call_count h + 1 in
    let new : List (ℕ × TheirCall) = (n, new_call c.id (length (units_of past)) (slots_in front)) ∷ [] in
    let before : call_count past < n = omega (arith, ap (λ es. length (calls_in es)) (stream-came past None (Batch front)), length-calls_in-append (stream past) front) in
    let now : call_count g ≡ n = call_count-entry past front (Call c) in
    theirs-from g n ((theirs_of h).calls ++ new) now
    (ap (all_seen g) (sites-more past front (Call c)) ∙ all_seen-append g (sites_of h) new
    ∙ (λ i. seen-more past front (Call c) (λ id. refl) i
    ++ called_here (length (units_of past)) (slots_in front) n past front c (omega arith) (omega (arith, now)) (unknown_unanswered cancels n past lawful before) i))

-- ---- a cancel

marked : (t : TheirCall) (id hit : Bool) → record t { is_cancelled = hit || (id || false) } ≡ cond (id && not hit) (cancelled (record t { is_cancelled = hit })) (record t { is_cancelled = hit })
marked t true true = refl
marked t true false = refl
marked t false true = refl
marked t false false = refl

cancelled_one : (id : Id) (s : ℕ × TheirCall) (opened hit : Bool) → seen_as opened (hit || (has_id id s.1.id || false)) s ≡ cancelled_all id (seen_as opened hit s)
cancelled_one id s true hit = ap (λ t. (s.0, t) ∷ []) (marked s.1 (has_id id s.1.id) hit)
cancelled_one id s false hit = refl

cancelled_seen : (id : Id) (past : History) (front : List Entry) (ss : List (ℕ × TheirCall)) → AreSites (stream (so_far past front)) ss
    → all_seen (so_far past (front ++ Cancel id ∷ [])) ss ≡ cancelled_all id (all_seen (so_far past front) ss)
cancelled_seen id past front [] are = refl
cancelled_seen id past front (s ∷ ss) are =
    let h = so_far past front in
    let hits = hit-more s.0 past front (Cancel id) ∙ ap (λ o. is_cancelled s.0 (stream h) || (has_id id o || false)) are.0.same_id in
    (λ i. seen_as (open-more s.0 past front (Cancel id) are.0.within i) (hits i) s ++ cancelled_seen id past front ss are.1 i)
    ∙ ap (λ l. l ++ cancelled_all id (all_seen h ss)) (cancelled_one id s (is_open s.0 h) (is_cancelled s.0 (stream h)))
    ∙ sym (map-append (λ (e : ℕ × TheirCall). (e.0, cancelled_if id e.1)) (seen h s) (all_seen h ss))

came_cancel : (past : History) (front : List Entry) (id : Id) (place slot : ℕ)
    → theirs_of (so_far past (front ++ Cancel id ∷ [])) ≡ theirs_after place slot (Cancel id) (theirs_of (so_far past front))
came_cancel past front id place slot =
    let g = so_far past (front ++ Cancel id ∷ []) in
    let h = so_far past front in
    theirs-from g (call_count h) (cancelled_all id (theirs_of h).calls) (omega (arith, call_count-entry past front (Cancel id)))
    (ap (all_seen g) (sites-more past front (Cancel id) ∙ append-nil (sites_of h)) ∙ cancelled_seen id past front (sites_of h) (all-are h)
    ∙ ap (cancelled_all id) (sym (theirs-seen h 0 1 (units_of h))))

-- ---- entries

-- what one more entry changes
pub theirs-entry : (cancels : Option Cancels) (past : History) (front : List Entry) (e : Entry) → IsLawful cancels past
    → theirs_of (so_far past (front ++ e ∷ [])) ≡ theirs_after (length (units_of past)) (slots_in front) e (theirs_of (so_far past front))
theirs-entry cancels past front (Call c) lawful = came_call cancels past front c lawful
theirs-entry cancels past front (Cancel id) lawful = came_cancel past front id (length (units_of past)) (slots_in front)
theirs-entry cancels past front (Reply k r) lawful = other past front (Reply k r) (λ id. refl) refl refl
theirs-entry cancels past front Stray lawful = other past front Stray (λ id. refl) refl refl
theirs-entry cancels past front Invalid lawful = other past front Invalid (λ id. refl) refl refl

-- what more entries change
pub theirs-entries : (cancels : Option Cancels) (past : History) (front es : List Entry) → IsLawful cancels past
    → theirs_of (so_far past (front ++ es)) ≡ theirs_after_all (length (units_of past)) (slots_in front) es (theirs_of (so_far past front))
theirs-entries cancels past front [] lawful = ap (λ l. theirs_of (so_far past l)) (append-nil front)
theirs-entries cancels past front (e ∷ es) lawful =
    let place = length (units_of past) in
    ap (λ l. theirs_of (so_far past l)) (sym (append_assoc front (e ∷ []) es))
    ∙ theirs-entries cancels past (front ++ e ∷ []) es lawful
    ∙ (λ i. theirs_after_all place (slots-entry front e i) es (theirs-entry cancels past front e lawful i))

-- what a unit changes
pub theirs-came : (cancels : Option Cancels) (past : History) (from : Option Origin) (u : Unit) → IsLawful cancels past
    → theirs_of (came from u ∷ past) ≡ theirs_after_all (length (units_of past)) 0 (entries_in u) (theirs_of past)
theirs-came cancels past from u lawful =
    theirs-unit past from u ∙ theirs-entries cancels past [] (entries_in u) lawful
    ∙ ap (theirs_after_all (length (units_of past)) 0 (entries_in u)) (theirs-none past)
