-- The calls that are told.
use Rattle.std.proofs.Common.{◌≡◌, ℕ, ◌+◌, List, [], ◌∷◌, ◌++◌, length, map, Bool, true, false, cond, refl, sym, ap, ◌∙◌, append-nil, arith, Option, None}
use Rattle.connection_messages.specs.declared.call.Call.{Call as Came}
use Rattle.connection_messages.specs.declared.entry.Entry.{Entry}
use Rattle.connection_messages.specs.declared.entry.Entry.TheVariants.{Call, Cancel, Reply, Stray, Invalid}
use Rattle.connection_messages.specs.declared.unit.Unit.TheVariants.{Batch}
use Rattle.connection_history.specs.declared.event.Event.{Event}
use Rattle.connection_history.specs.declared.event.Event.TheVariants as event
use Rattle.connection_history.specs.Stream.{entries_in, entries_along, call_in, calls_in}
use Rattle.connection_history.specs.Events.{call_count, reached, events_of_entry, events_along, events_at, events_of, broken_in, broken_at}
use Rattle.connection_history.specs.History.{Happening, came, called, called_all, noticed, withdrew, answered, ended, History, units_at, stream, is_waiting, waiting, Origin}
use Rattle.connection_history.specs.Told.{calls_told, numbered}
use Rattle.connection_history.proofs.Streams.{calls_in-append}
use Rattle.connection_history.proofs.Histories.{stream-more, call_count-entry, call_count-more}
use Rattle.connection_history.specs.declared.broken.Broken.{Broken}
use Rattle.connection_messages.specs.declared.unit.Unit.{Unit}

-- the calls of events, and then of more
pub calls_told-append : (told more : List Event) → calls_told (told ++ more) ≡ calls_told told ++ calls_told more
calls_told-append [] more = refl
calls_told-append (event.Call n c ∷ told) more = ap (λ cs. (n, c) ∷ cs) (calls_told-append told more)
calls_told-append (event.Cancelled n ∷ told) more = calls_told-append told more
calls_told-append (event.Replied k r ∷ told) more = calls_told-append told more
calls_told-append (event.Unanswered k ∷ told) more = calls_told-append told more
calls_told-append (event.Over close ∷ told) more = calls_told-append told more
calls_told-append (event.Broken b ∷ told) more = calls_told-append told more

calls_told-defects : (bs : List Broken) (told : List Event) → calls_told (map event.Broken bs ++ told) ≡ calls_told told
calls_told-defects [] told = refl
calls_told-defects (b ∷ bs) told = calls_told-defects bs told

-- what is broken tells no call
calls_told-broken : (from : Option Origin) (u : Unit) (told : List Event) → calls_told (broken_at from u ++ told) ≡ calls_told told
calls_told-broken from u told = calls_told-defects (broken_in from u) told

calls_told-cancelled : (ns : List ℕ) → calls_told (map event.Cancelled ns) ≡ []
calls_told-cancelled [] = refl
calls_told-cancelled (n ∷ ns) = calls_told-cancelled ns

calls_told-unanswered : (ks : List ℕ) (told : List Event) → calls_told (map event.Unanswered ks ++ told) ≡ calls_told told
calls_told-unanswered [] told = refl
calls_told-unanswered (k ∷ ks) told = calls_told-unanswered ks told

numbered-append : (n m : ℕ) (cs ds : List Came) → n + length cs ≡ m → numbered n (cs ++ ds) ≡ numbered n cs ++ numbered m ds
numbered-append n m [] ds h = let same : n ≡ m = omega arith in ap (λ k. numbered k ds) same
numbered-append n m (c ∷ cs) ds h = ap (λ l. (n, c) ∷ l) (numbered-append (n + 1) m cs ds (omega arith))

if_told : (b : Bool) (k : ℕ) (r : _) → calls_told (cond b (event.Replied k r ∷ []) []) ≡ []
if_told true k r = refl
if_told false k r = refl

-- an entry tells its call, if it is one
entry_told : (history : History) (e : Entry) → calls_told (events_of_entry history e) ≡ numbered (call_count history + 1) (call_in e)
entry_told history (Call c) = refl
entry_told history (Cancel id) = calls_told-cancelled (reached id history)
entry_told history (Reply k r) = if_told (is_waiting k history) k r
entry_told history Stray = refl
entry_told history Invalid = refl

entries_told : (past : History) (front es : List Entry) → calls_told (events_along past front es) ≡ numbered (call_count (came None (Batch front) ∷ past) + 1) (calls_in es)
entries_told past front [] = refl
entries_told past front (e ∷ es) =
    let now = call_count (came None (Batch front) ∷ past) in
    let later = call_count (came None (Batch (front ++ e ∷ [])) ∷ past) in
    let next : now + 1 + length (call_in e) ≡ later + 1 = omega (arith, call_count-entry past front e) in
    calls_told-append (events_of_entry (came None (Batch front) ∷ past) e) (events_along past (front ++ e ∷ []) es)
    ∙ (λ i. entry_told (came None (Batch front) ∷ past) e i ++ entries_told past (front ++ e ∷ []) es i)
    ∙ sym (numbered-append (now + 1) (later + 1) (call_in e) (calls_in es) next)

-- what happens tells the calls that came with it
happening_told : (past : History) (h : Happening) → calls_told (events_at past h) ≡ numbered (call_count past + 1) (calls_in (entries_along (units_at h)))
happening_told past (came from u) =
    let none : call_count (came None (Batch []) ∷ past) ≡ call_count past = call_count-more past (came None (Batch [])) ∙ omega arith in
    calls_told-broken from u (events_along past [] (entries_in u)) ∙ entries_told past [] (entries_in u) ∙ (λ i. numbered (none i + 1) (calls_in (sym (append-nil (entries_in u)) i)))
happening_told past (called n o) = refl
happening_told past (called_all n os) = refl
happening_told past (noticed o) = refl
happening_told past (withdrew by k) = refl
happening_told past (answered n a) = refl
happening_told past (ended close) = calls_told-unanswered (waiting past) (event.Over close ∷ [])

-- each call of the stream is told once, with its number
pub each_call_told : (history : History) → calls_told (events_of history) ≡ numbered 1 (calls_in (stream history))
each_call_told [] = refl
each_call_told (h ∷ past) =
    let more = calls_in (entries_along (units_at h)) in
    let next : 1 + length (calls_in (stream past)) ≡ call_count past + 1 = omega arith in
    calls_told-append (events_of past) (events_at past h)
    ∙ (λ i. each_call_told past i ++ happening_told past h i)
    ∙ sym (numbered-append 1 (call_count past + 1) (calls_in (stream past)) more next)
    ∙ ap (numbered 1) (sym (calls_in-append (stream past) (entries_along (units_at h))) ∙ ap calls_in (sym (stream-more past h)))
