-- What each happening adds to the counts.
use Rattle.std.proofs.Common.{◌≡◌, ℕ, ◌+◌, List, [], ◌∷◌, ◌++◌, map, length, None, Bool, true, false, cond, refl, sym, ap, ◌∙◌, add-zero, length-append, Option}
use Rattle.std.proofs.lemmas.List.Elements.{filter-append}
use Rattle.std.specs.Prelude.{filter, is_some}
use Rattle.connection_messages.specs.declared.answer.Answer.{Answer}
use Rattle.connection_messages.specs.declared.call.Call.{Call as Came}
use Rattle.connection_messages.specs.declared.entry.Entry.{Entry}
use Rattle.connection_messages.specs.declared.entry.Entry.TheVariants.{Call, Cancel, Reply, Stray, Invalid}
use Rattle.connection_messages.specs.declared.unit.Unit.{Unit}
use Rattle.connection_history.specs.declared.order.Order.{Order}
use Rattle.connection_history.specs.Stream.{entries_in, entries_along, calls_in, is_invalid}
use Rattle.connection_history.specs.History.{Happening, came, called, called_all, noticed, withdrew, answered, ended, History, units_of, units_at, stream, answer_at, Origin}
use Rattle.connection_history.specs.Refusals.{IsLawful}
use Rattle.connection_history.specs.Items.{Item, answer, said_at, answers_at, items_of, items_at}
use Rattle.connection_history.specs.Counts.{request_count, is_answer, answer_count, is_unreadable, unreadable_count, invalid_count, if_none, ignored_of, ignored_along, ignored_at, ignored_count}
use Rattle.connection_history.proofs.Along.{so_far}
use Rattle.connection_history.proofs.Histories.{stream-came}
use Rattle.connection_history.proofs.Streams.{calls_in-append}
use Rattle.open_calls.specs.Numbered.{at}
use Rattle.open_calls.specs.Own.{OwnState}
use Rattle.owed_answers.specs.Owed.{OwedUnit, unit_texts}
use Rattle.open_calls.specs.Theirs.{TheirState}
use Rattle.connection_steps.specs.States.{state_of, own_of, theirs_of, owed_of}
use Rattle.connection_steps.specs.Steps.{theirs_after, own_after, told_of, answer_of, answers_of, leaving, owed_with, owed_given}
use Rattle.connection_steps.specs.Tallies.{Tally, tally_of, requests_in, invalid_in, ignored_if, ignored_in, tally_in, plus, answers_let_out, plus_answers}
use Rattle.connection_steps.proofs.OwedSame.{silent-units, silent-answers}
use Rattle.connection_steps.proofs.OwedSteps.{came-answers}
use Rattle.connection_steps.proofs.OwedGiven.{answered-answers}
use Rattle.connection_steps.proofs.OwnEntries.{own_nothing, own_entry}
use Rattle.connection_steps.proofs.TheirEntries.{theirs-none, theirs-entry}
use Rattle.connection_steps.proofs.TheirSites.{slots_in}
use Rattle.connection_steps.proofs.ToldEntries.{told-entry, bare, bare_after, bare_told}
use Rattle.connection_messages.specs.declared.cancels.Cancels.{Cancels}

-- ---- a tally by its parts

abbrev tally : ℕ → ℕ → ℕ → ℕ → ℕ → Tally
tally requests answers unreadable invalid ignored =
    record { requests = requests; answers = answers; unreadable = unreadable; invalid = invalid; ignored = ignored }

-- ---- what passes of two lists

length-filter-append : {X : Type 0} (p : X → Bool) (xs ys : List X) → length (filter p (xs ++ ys)) ≡ length (filter p xs) + length (filter p ys)
length-filter-append p xs ys = ap length (filter-append p xs ys) ∙ length-append (filter p xs) (filter p ys)

-- ---- requests, invalid entries, unreadable contents

abbrev has_id : Came → Bool
has_id c = is_some c.id

requests-came : (past : History) (from : Option Origin) (u : Unit) → request_count (came from u ∷ past) ≡ request_count past + requests_in (entries_in u)
requests-came past from u =
    ap (λ es. length (filter has_id (calls_in es))) (stream-came past from u)
    ∙ ap (λ cs. length (filter has_id cs)) (calls_in-append (stream past) (entries_in u))
    ∙ length-filter-append has_id (calls_in (stream past)) (calls_in (entries_in u))

invalid-came : (past : History) (from : Option Origin) (u : Unit) → invalid_count (came from u ∷ past) ≡ invalid_count past + invalid_in (entries_in u)
invalid-came past from u = ap (λ es. length (filter is_invalid es)) (stream-came past from u) ∙ length-filter-append is_invalid (stream past) (entries_in u)

one_unreadable : (b : Bool) (u : Unit) → length (cond b (u ∷ []) []) ≡ cond b 1 0
one_unreadable true u = refl
one_unreadable false u = refl

unreadable-came : (past : History) (from : Option Origin) (u : Unit) → unreadable_count (came from u ∷ past) ≡ unreadable_count past + cond (is_unreadable u) 1 0
unreadable-came past from u =
    length-filter-append is_unreadable (units_of past) (u ∷ []) ∙ ap (λ n. unreadable_count past + n) (one_unreadable (is_unreadable u) u)

-- ---- answers

all_answers : (place : ℕ) (ts : List (List ℕ)) (items : List Item) → filter is_answer (map (answer place) ts ++ items) ≡ map (answer place) ts ++ filter is_answer items
all_answers place [] items = refl
all_answers place (t ∷ ts) items = ap (λ l. answer place t ∷ l) (all_answers place ts items)

answers-only : (owed : List (ℕ × OwedUnit)) → filter is_answer (answers_of owed) ≡ answers_of owed
answers-only [] = refl
answers-only (e ∷ es) = all_answers e.0 (unit_texts e.1) (answers_of es) ∙ ap (λ l. answer_of e ++ l) (answers-only es)

answers-counted : (owed : List (ℕ × OwedUnit)) → length (filter is_answer (answers_of owed)) ≡ length (answers_of owed)
answers-counted owed = ap length (answers-only owed)

none_said : (past : History) (h : Happening) → filter is_answer (said_at past h) ≡ []
none_said past (came from u) = refl
none_said past (called n o) = refl
none_said past (called_all n os) = refl
none_said past (noticed o) = refl
none_said past (withdrew by k) = refl
none_said past (answered n a) = refl
none_said past (ended close) = refl

answers-more : (order : Order) (past : History) (h : Happening) → answer_count order (h ∷ past) ≡ answer_count order past + length (filter is_answer (answers_at order past h))
answers-more order past h =
    length-filter-append is_answer (items_of order past) (items_at order past h)
    ∙ ap (λ n. answer_count order past + n)
    (ap length (filter-append is_answer (said_at past h) (answers_at order past h))
    ∙ ap (λ is. length (is ++ filter is_answer (answers_at order past h))) (none_said past h))

answers-out : (order : Order) (past : History) (h : Happening) (owed : List (ℕ × OwedUnit)) → answers_at order past h ≡ answers_of owed
    → answer_count order (h ∷ past) ≡ answer_count order past + length (answers_of owed)
answers-out order past h owed is =
    answers-more order past h
    ∙ ap (λ n. answer_count order past + n) (ap (λ is. length (filter is_answer is)) is ∙ answers-counted owed)

-- ---- what is ignored

ignored-entry : (h : History) (e : Entry) → ignored_of h e ≡ ignored_if e (told_of (own_of h) (theirs_of h) e)
ignored-entry h (Call c) = refl
ignored-entry h (Cancel id) = ap if_none (told-entry h (Cancel id))
ignored-entry h (Reply k r) = ap if_none (told-entry h (Reply k r))
ignored-entry h Stray = refl
ignored-entry h Invalid = refl

-- where a call's answer stands plays no part
bare_ignored : (own : OwnState) (s : TheirState) (es : List Entry) → ignored_in own s es ≡ ignored_in own (bare s) es
bare_ignored own s [] = refl
bare_ignored own s (e ∷ es) =
    λ i. ignored_if e (bare_told own s e i)
    + (bare_ignored (own_after e own) (theirs_after 0 0 e s) es ∙ ap (λ t. ignored_in (own_after e own) t es) (sym (bare_after 0 0 e s))) i

same_ignored : (own : OwnState) (s : TheirState) (place slot : ℕ) (e : Entry) (es : List Entry)
    → ignored_in own (theirs_after place slot e s) es ≡ ignored_in own (theirs_after 0 0 e s) es
same_ignored own s place slot e es =
    bare_ignored own (theirs_after place slot e s) es
    ∙ ap (λ t. ignored_in own t es) (sym (bare_after place slot e s) ∙ bare_after 0 0 e s)
    ∙ sym (bare_ignored own (theirs_after 0 0 e s) es)

ignored-along : (cancels : Option Cancels) (past : History) (front es : List Entry) → IsLawful cancels past
    → ignored_along past front es ≡ ignored_in (own_of (so_far past front)) (theirs_of (so_far past front)) es
ignored-along cancels past front [] lawful = refl
ignored-along cancels past front (e ∷ es) lawful =
    let own = own_of (so_far past front) in
    let theirs = theirs_of (so_far past front) in
    λ i. ignored-entry (so_far past front) e i
    + (ignored-along cancels past (front ++ e ∷ []) es lawful
    ∙ (λ j. ignored_in (own_entry cancels past front e lawful j) (theirs-entry cancels past front e lawful j) es)
    ∙ same_ignored (own_after e own) theirs (length (units_of past)) (slots_in front) e es) i

ignored-came : (cancels : Option Cancels) (past : History) (from : Option Origin) (u : Unit) → IsLawful cancels past
    → ignored_count (came from u ∷ past) ≡ ignored_count past + ignored_in (own_of past) (theirs_of past) (entries_in u)
ignored-came cancels past from u lawful =
    ap (λ n. ignored_count past + n)
    (ignored-along cancels past [] (entries_in u) lawful ∙ (λ i. ignored_in (own_nothing past i) (theirs-none past i) (entries_in u)))

-- ---- a unit

pub tally-came : (cancels : Option Cancels) (order : Order) (past : History) (from : Option Origin) (u : Unit) → IsLawful cancels past
    → tally_of order (came from u ∷ past) ≡ plus (tally_of order past) (tally_in order u (state_of order past))
tally-came cancels order past from u lawful =
    let outs = answers-out order past (came from u) (leaving order (owed_with u (owed_of order past))) (came-answers cancels order past from u lawful) in
    λ i. tally (requests-came past from u i) (outs i) (unreadable-came past from u i) (invalid-came past from u i) (ignored-came cancels past from u lawful i)

-- ---- nothing comes

silent-stream : (past : History) (h : Happening) → units_at h ≡ [] → stream (h ∷ past) ≡ stream past
silent-stream past h none = ap entries_along (silent-units past h none)

silent-tally : (order : Order) (past : History) (h : Happening) (answers : ℕ) → units_at h ≡ [] → answer_count order (h ∷ past) ≡ answers → ignored_at past h ≡ 0
    → tally_of order (h ∷ past) ≡ record (tally_of order past) { answers = answers }
silent-tally order past h answers none outs ignored =
    let streams = silent-stream past h none in
    let same : ignored_count past + ignored_at past h ≡ ignored_count past = ap (λ n. ignored_count past + n) ignored ∙ add-zero (ignored_count past) in
    λ i. tally (length (filter has_id (calls_in (streams i)))) (outs i) (length (filter is_unreadable (silent-units past h none i))) (length (filter is_invalid (streams i))) (same i)

-- no answer goes out
pub tally-silent : (order : Order) (past : History) (h : Happening) → units_at h ≡ [] → ((k : ℕ) → answer_at k h ≡ None) → ignored_at past h ≡ 0
    → tally_of order (h ∷ past) ≡ tally_of order past
tally-silent order past h none silent ignored =
    let outs : answer_count order (h ∷ past) ≡ answer_count order past =
    answers-out order past h [] (silent-answers order past h none silent) ∙ add-zero (answer_count order past) in
    silent-tally order past h (answer_count order past) none outs ignored

pub tally-answered : (cancels : Option Cancels) (order : Order) (past : History) (n : ℕ) (a : Option Answer) → IsLawful cancels (answered n a ∷ past)
    → tally_of order (answered n a ∷ past) ≡ plus_answers (answers_let_out order n a (state_of order past)) (tally_of order past)
tally-answered cancels order past n a lawful =
    let out = leaving order (owed_given (at n (theirs_of past).calls) a (owed_of order past).owed) in
    silent-tally order past (answered n a) (answer_count order past + length (answers_of out)) refl
    (answers-out order past (answered n a) out (answered-answers cancels order past n a lawful)) refl
