-- The cancels that are told of open requests.
use Rattle.std.proofs.Common.{◌≡◌, ℕ, zero, suc, ◌+◌, ◌<◌, List, [], ◌∷◌, ◌++◌, Bool, true, false, ◌&&◌, ◌||◌, not, None, refl, sym, ap, ◌∙◌, append_assoc, append-nil, arith}
use Rattle.message_ids.specs.Ids.{has_id}
use Rattle.message_ids.specs.declared.id.Id.{Id}
use Rattle.connection_messages.specs.declared.entry.Entry.{Entry}
use Rattle.connection_messages.specs.declared.entry.Entry.TheVariants.{Call, Cancel, Reply, Stray, Invalid}
use Rattle.connection_messages.specs.declared.unit.Unit.TheVariants.{Batch}
use Rattle.connection_history.specs.declared.event.Event.TheVariants as event
use Rattle.connection_history.specs.Stream.{entries_in, request_id, is_cancelled}
use Rattle.connection_history.specs.Events.{is_reached, events_of_entry, events_along, events_at, events_of}
use Rattle.connection_history.specs.History.{Happening, came, called, called_all, noticed, withdrew, answered, ended, History, stream, answer_at, answer_to, is_open, is_waiting, waiting}
use Rattle.connection_history.specs.Told.{cancels_told}
use Rattle.connection_history.proofs.Histories.{stream-more, answer_to-came, open_unanswered, open-from}
use Rattle.connection_history.proofs.Numbers.{one_if}
use Rattle.connection_history.proofs.Tests.{or_else-none_left}
use Rattle.connection_history.proofs.Along.{so_far}
use Rattle.connection_history.proofs.CancelsTold.{is_hit, cancels_told-append, cancels_told-broken, cancels_told-unanswered, cancels_told-reply, identified, told_of_cancel, hits, hit-entry, hit-none, hit-unit, same_stream}

-- ---- each open request

adds_none : (told : ℕ) (b : Bool) → told ≡ one_if b → told + 0 ≡ one_if (b || false)
adds_none told true h = omega arith
adds_none told false h = omega arith

adds_reached : (told : ℕ) (b id : Bool) → told ≡ one_if b → told + one_if (id && true && not b) ≡ one_if (b || (id || false))
adds_reached told true true h = omega arith
adds_reached told true false h = omega arith
adds_reached told false true h = omega arith
adds_reached told false false h = omega arith

-- where the request has an id it is open, since it isn't answered
reached_if : (id : Id) (history : History) (n : ℕ) (b : Bool) → has_id id (request_id n (stream history)) ≡ b → answer_to n history ≡ None
    → is_reached id history n ≡ (has_id id (request_id n (stream history)) && true && not (is_hit n history))
reached_if id history n true is none =
    let c = identified id n history is in
    ap (λ o. has_id id (request_id n (stream history)) && o && not (is_hit n history)) (open-from n history c.0 c.1 none)
reached_if id history n false is none = ap (λ b. b && is_open n history && not (is_hit n history)) is ∙ sym (ap (λ b. b && true && not (is_hit n history)) is)

entry_open : (n told : ℕ) (past : History) (front : List Entry) (e : Entry) → answer_to n (so_far past front) ≡ None → told ≡ one_if (is_hit n (so_far past front))
    → told + cancels_told n (events_of_entry (so_far past front) e) ≡ one_if (is_hit n (so_far past front) || hits n (so_far past front) e)
entry_open n told past front (Call c) none h = adds_none told (is_hit n (so_far past front)) h
entry_open n told past front (Cancel id) none h =
    ap (λ m. told + m) (told_of_cancel n id (so_far past front) ∙ ap one_if (reached_if id (so_far past front) n (has_id id (request_id n (stream (so_far past front)))) refl none))
    ∙ adds_reached told (is_hit n (so_far past front)) (has_id id (request_id n (stream (so_far past front)))) h
entry_open n told past front (Reply j r) none h = ap (λ m. told + m) (cancels_told-reply n (is_waiting j (so_far past front)) j r) ∙ adds_none told (is_hit n (so_far past front)) h
entry_open n told past front Stray none h = adds_none told (is_hit n (so_far past front)) h
entry_open n told past front Invalid none h = adds_none told (is_hit n (so_far past front)) h

entries_open : (n told : ℕ) (past : History) (front es : List Entry) → answer_to n past ≡ None → told ≡ one_if (is_hit n (so_far past front))
    → told + cancels_told n (events_along past front es) ≡ one_if (is_hit n (so_far past (front ++ es)))
entries_open n told past front [] none h = let zero_more : told + 0 ≡ told = omega arith in zero_more ∙ h ∙ ap (λ l. one_if (is_hit n (so_far past l))) (sym (append-nil front))
entries_open n told past front (e ∷ es) none h =
    let here = cancels_told n (events_of_entry (so_far past front) e) in
    let rest = cancels_told n (events_along past (front ++ e ∷ []) es) in
    let now : told + here ≡ one_if (is_hit n (so_far past (front ++ e ∷ []))) =
    entry_open n told past front e (answer_to-came n past None (Batch front) ∙ none) h ∙ ap one_if (sym (hit-entry n past front e)) in
    let sums : told + (here + rest) ≡ told + here + rest = omega arith in
    ap (λ m. told + m) (cancels_told-append n (events_of_entry (so_far past front) e) (events_along past (front ++ e ∷ []) es))
    ∙ sums ∙ entries_open n (told + here) past (front ++ e ∷ []) es none now
    ∙ ap (λ l. one_if (is_hit n (so_far past l))) (append_assoc front (e ∷ []) es)

stays_told : (n told : ℕ) (past : History) (h : Happening) → stream (h ∷ past) ≡ stream past ++ [] → told ≡ one_if (is_hit n past) → told + 0 ≡ one_if (is_hit n (h ∷ past))
stays_told n told past h e before = let same : told + 0 ≡ told = omega arith in same ∙ before ∙ ap (λ es. one_if (is_cancelled n es)) (sym (same_stream past h e))

happening_open : (n told : ℕ) (past : History) (h : Happening) → answer_to n past ≡ None → told ≡ one_if (is_hit n past) → told + cancels_told n (events_at past h) ≡ one_if (is_hit n (h ∷ past))
happening_open n told past (came from u) none before =
    ap (λ m. told + m) (cancels_told-broken n from u (events_along past [] (entries_in u)))
    ∙ entries_open n told past [] (entries_in u) none (before ∙ ap one_if (sym (hit-none n past))) ∙ ap one_if (hit-unit n past from u)
happening_open n told past (called m o) none before = stays_told n told past (called m o) (stream-more past (called m o)) before
happening_open n told past (called_all m os) none before = stays_told n told past (called_all m os) (stream-more past (called_all m os)) before
happening_open n told past (noticed o) none before = stays_told n told past (noticed o) (stream-more past (noticed o)) before
happening_open n told past (withdrew by k) none before = stays_told n told past (withdrew by k) (stream-more past (withdrew by k)) before
happening_open n told past (answered m a) none before = stays_told n told past (answered m a) (stream-more past (answered m a)) before
happening_open n told past (ended close) none before =
    ap (λ m. told + m) (cancels_told-unanswered n (waiting past) (event.Over close ∷ [])) ∙ stays_told n told past (ended close) (stream-more past (ended close)) before

told_unanswered : (history : History) (n : ℕ) → answer_to n history ≡ None → cancels_told n (events_of history) ≡ one_if (is_hit n history)
told_unanswered [] n none = refl
told_unanswered (h ∷ past) n none =
    cancels_told-append n (events_of past) (events_at past h)
    ∙ happening_open n (cancels_told n (events_of past)) past h (or_else-none_left (answer_to n past) (answer_at n h) none) (told_unanswered past n (or_else-none_left (answer_to n past) (answer_at n h) none))

-- an open request is told to be cancelled exactly where it is
pub open_told : (history : History) (n : ℕ) → 0 < n → is_open n history ≡ true → cancels_told n (events_of history) ≡ one_if (is_cancelled n (stream history))
open_told history zero some h = absurd (omega arith)
open_told history (suc n) some h = told_unanswered history (suc n) (open_unanswered n history h)
